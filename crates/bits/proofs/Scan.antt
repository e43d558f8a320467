-- Loops that look at one number after the other: a search for the first, and a test of any. Assumes nothing.
use mathlib.Core.Bool.{Bool, true, false, ◌||◌}
use mathlib.Core.Path.{◌≡◌, refl, sym, subst}
use Prim.Native.Nat.{ℕ, ◌+◌, ◌<◌, ◌≤◌}
use native.Mathlib.Omega.{arith}
use native.Mathlib.Nat.{not-suc-le-zero}
use native.Mathlib.Numerals.{add-one}
use borrow.Author.Count.{below_more}
use Rattle.bits.specs.Below.{any, first}
use Rattle.bits.proofs.Below.{first_unique}

-- none of the numbers passed is it
pub record Passed (n : ℕ) (f : ℕ → Bool) (k : ℕ) : Type 0 where
  pub within : k ≤ n
  pub not_yet : (j : ℕ) → j < k → f j ≡ false

module _ (n : ℕ) (f : ℕ → Bool) where
  pub passed_none : Passed n f 0
  passed_none = record { within = omega arith; not_yet = λ j h. absurd (not-suc-le-zero h) }

  pub passed_more : (k : ℕ) → Passed n f k → k < n → f k ≡ false → Passed n f (k + 1)
  passed_more k p l e = record { within = omega arith; not_yet = below_more (λ (j : ℕ). f j ≡ false) k p.not_yet e }

  pub passed_found : (k : ℕ) → Passed n f k → k < n → f k ≡ true → k ≡ first n f
  passed_found k p l e = sym (first_unique n f k p.within (λ _. e) p.not_yet)

  pub passed_all : (k : ℕ) → Passed n f k → n ≤ k → n ≡ first n f
  passed_all k p l = sym (first_unique n f n (omega arith) (λ h. absurd (omega arith)) (λ j h. p.not_yet j (omega arith)))

pub any-zero : (f : ℕ → Bool) → false ≡ any 0 f
unfolding any
any-zero f = refl

pub any_more : (f : ℕ → Bool) (k : ℕ) (b t : Bool) → b ≡ any k f → t ≡ f k → (b || t) ≡ any (k + 1) f
unfolding any
any_more f k b t e d = rw (add-one, e, d)
