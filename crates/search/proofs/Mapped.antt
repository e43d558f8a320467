-- An array made by a map over another: a closure that computes a value gives each element's. Assumes nothing.
use mathlib.Core.List.{List}
use mathlib.Core.Path.{◌≡◌, sym, ap, subst, ◌∙◌}
use Prim.Native.Nat.{ℕ, zero, suc, ◌+◌, ◌≤◌, ◌<◌}
use native.Mathlib.Omega.{arith}
use denote.Param.Members.{Mut, Called}
use lib.Dec.{eqb}
use lib.ListN.{get_or}
use borrow.Author.Tests.{eqb-true, eqb-false}
use Rattle.std.specs.Array.{MapsFrom}
use Rattle.bits.proofs.Below.{by_cases}

module _ {F : Type 0} {g : Mut F (ℕ × Unit {0}) ℕ} (val : ℕ → ℕ) {f : F}
    (computes : (x b : ℕ) (q : F) → Called g f (x, tt) b q → (q ≡ f) × (b ≡ val x)) (xs ys : List ℕ) where
  pub mapped : (i n : ℕ) → MapsFrom g f xs ys i n → (k : ℕ) → i ≤ k → k < i + n → get_or ys k 0 ≡ val (get_or xs k 0)
  mapped i zero m k a b = absurd (omega arith)
  mapped i (suc n) (q, x, y, ex, ey, call, rest) k a b =
      let c = computes x y q call in
      by_cases (eqb k i)
      (λ t. subst (λ (z : ℕ). get_or ys z 0 ≡ val (get_or xs z 0)) (sym (eqb-true k i t)) (ey.1 0 ∙ c.1 ∙ ap val (sym (ex.1 0))))
      (λ t. let d : k ≡ i → ⊥ = eqb-false k i t in
      mapped (i + 1) n (subst (λ (z : F). MapsFrom g z xs ys (i + 1) n) c.0 rest) k (omega arith) (omega arith))
