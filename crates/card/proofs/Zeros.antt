-- A number of several bytes is zero exactly when each byte is. Assumes nothing.
use mathlib.Core.List.{List}
use mathlib.Core.Path.{◌≡◌, ◌∙◌, ap}
use Prim.Native.Nat.{ℕ, ◌+◌, ◌*◌, ◌<◌, ◌≤◌}
use native.Mathlib.Omega.{arith}
use lib.Dec.{eqb}
use borrow.Author.Tests.{eqb-true, eqb-false}
use Rattle.bits.specs.Word.{byte_at}
use Rattle.bits.proofs.Below.{by_cases}
use Rattle.card.specs.Layout.{card_byte, card_word, card_long}

module _ (s : List ℕ) (c k : ℕ) where
  -- byte b of the card, where it is d after byte k
  at : (b d : ℕ) → 16 * c + b ≡ d → card_byte s c b ≡ byte_at s d
  at b d e = ap (byte_at s) e

  pub word-zero : card_word s c k ≡ 0 → (b : ℕ) → k ≤ b → b < k + 2 → card_byte s c b ≡ 0
  word-zero h b l m =
      by_cases (eqb b k)
      (λ t. let e : b ≡ k = eqb-true b k t in at b (16 * c + k) (omega arith) ∙ (omega arith))
      (λ t. let e : b ≡ k → ⊥ = eqb-false b k t in at b (16 * c + k + 1) (omega arith) ∙ (omega arith))

  pub zero_word : ((b : ℕ) → k ≤ b → b < k + 2 → card_byte s c b ≡ 0) → card_word s c k ≡ 0
  zero_word h =
      let x : byte_at s (16 * c + k) ≡ 0 = h k (omega arith) (omega arith) in
      let y : card_byte s c (k + 1) ≡ byte_at s (16 * c + k + 1) = at (k + 1) (16 * c + k + 1) (omega arith) in
      omega (arith, h (k + 1) (omega arith) (omega arith))

  pub long-zero : card_long s c k ≡ 0 → (b : ℕ) → k ≤ b → b < k + 4 → card_byte s c b ≡ 0
  long-zero h b l m =
      by_cases (eqb b k)
      (λ t. let e : b ≡ k = eqb-true b k t in at b (16 * c + k) (omega arith) ∙ (omega arith))
      (λ t. let e : b ≡ k → ⊥ = eqb-false b k t in
      by_cases (eqb b (k + 1))
      (λ u. let d : b ≡ k + 1 = eqb-true b (k + 1) u in at b (16 * c + k + 1) (omega arith) ∙ (omega arith))
      (λ u. let d : b ≡ k + 1 → ⊥ = eqb-false b (k + 1) u in
      by_cases (eqb b (k + 2))
      (λ v. let g : b ≡ k + 2 = eqb-true b (k + 2) v in at b (16 * c + k + 2) (omega arith) ∙ (omega arith))
      (λ v. let g : b ≡ k + 2 → ⊥ = eqb-false b (k + 2) v in at b (16 * c + k + 2 + 1) (omega arith) ∙ (omega arith))))

  pub zero-long : ((b : ℕ) → k ≤ b → b < k + 4 → card_byte s c b ≡ 0) → card_long s c k ≡ 0
  zero-long h =
      let x : byte_at s (16 * c + k) ≡ 0 = h k (omega arith) (omega arith) in
      let y : card_byte s c (k + 1) ≡ byte_at s (16 * c + k + 1) = at (k + 1) (16 * c + k + 1) (omega arith) in
      let z : card_byte s c (k + 2) ≡ byte_at s (16 * c + k + 2) = at (k + 2) (16 * c + k + 2) (omega arith) in
      let w : card_byte s c (k + 3) ≡ byte_at s (16 * c + k + 2 + 1) = at (k + 3) (16 * c + k + 2 + 1) (omega arith) in
      omega (arith, h (k + 1) (omega arith) (omega arith), h (k + 2) (omega arith) (omega arith), h (k + 3) (omega arith) (omega arith))
