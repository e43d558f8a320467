-- Lists of cards one after the other: what holds of each holds of all. Assumes nothing.
use mathlib.Core.Bool.{false}
use mathlib.Core.List.{List, ◌++◌}
use mathlib.Core.Path.{◌≡◌, sym, ◌∙◌, ap, subst}
use Prim.Native.Nat.{ℕ, ◌+◌, ◌-◌, ◌<◌, ◌≤◌}
use native.Mathlib.Omega.{arith}
use lib.Dec.{ltb}
use lib.ListN.{length, get_or, length-append, get_or-append}
use lib.Seq.{get_or-append-add}
use borrow.Author.Tests.{ltb-true, ltb-false}
use Rattle.bits.specs.Member.{member}
use Rattle.bits.proofs.Member.{member-not}
use Rattle.bits.proofs.Below.{by_cases}

module _ (a b : List ℕ) where
  -- a place of both lists together is one of the first or of the second
  by_place : {P : Type 0} (k : ℕ) → k < length (a ++ b)
      → (k < length a → get_or (a ++ b) k 0 ≡ get_or a k 0 → P)
      → ((m : ℕ) → k ≡ length a + m → m < length b → get_or (a ++ b) k 0 ≡ get_or b m 0 → P)
      → P
  by_place k h f g =
      let len = length-append a b in
      by_cases (ltb k (length a))
      (λ t. let l : k < length a = ltb-true k (length a) t in f l (get_or-append a b 0 k l))
      (λ t.
      let l : length a ≤ k = ltb-false k (length a) t in
      let e : k ≡ length a + (k - length a) = omega arith in
      g (k - length a) e (omega arith) (ap (λ (x : ℕ). get_or (a ++ b) x 0) e ∙ get_or-append-add a b (k - length a) 0))

  pub each_append : (P : ℕ → Type 0) → ((k : ℕ) → k < length a → P (get_or a k 0)) → ((k : ℕ) → k < length b → P (get_or b k 0))
      → (k : ℕ) → k < length (a ++ b) → P (get_or (a ++ b) k 0)
  each_append P f g k h =
      by_place k h (λ l e. subst P (sym e) (f k l)) (λ m q l e. subst P (sym e) (g m l))

  pub once_append : ((i k : ℕ) → i < k → k < length a → get_or a i 0 ≡ get_or a k 0 → ⊥)
      → ((i k : ℕ) → i < k → k < length b → get_or b i 0 ≡ get_or b k 0 → ⊥)
      → ((k : ℕ) → k < length b → member a (get_or b k 0) ≡ false)
      → (i k : ℕ) → i < k → k < length (a ++ b) → get_or (a ++ b) i 0 ≡ get_or (a ++ b) k 0 → ⊥
  once_append f g h i k l m e =
      by_place k m
      (λ lk ek. f i k l lk (sym (get_or-append a b 0 i (omega arith)) ∙ e ∙ ek))
      (λ n q lk ek. by_place i (omega arith)
      (λ li ei. member-not a (get_or b n 0) (h n lk) i li (sym ei ∙ e ∙ ek))
      (λ n' q' li ei. g n' n (omega arith) lk (sym ei ∙ e ∙ ek)))
