-- The tests of the late permitted bits and of the loose cards, as the code makes them. Assumes nothing.
use mathlib.Core.Bool.{Bool, true, false, not, ◌||◌}
use mathlib.Core.Path.{◌≡◌, subst}
use Prim.Native.Nat.{ℕ, ◌/◌, ◌^◌, ◌≤◌}
use native.Mathlib.Omega.{arith}
use lib.Dec.{eqb}
use borrow.Author.Tests.{eq-eqb, ne_eqb}
use Rattle.card.specs.Fields.{only_below_lem}

module _ (steps x y : ℕ) (e : x ≡ y) where
  pub late_yes : (x / 2 ^ steps ≡ 0 → ⊥) → not (only_below_lem steps y) ≡ true
  late_yes n = rw (ne_eqb _ _ (subst (λ (z : ℕ). z / 2 ^ steps ≡ 0 → ⊥) e n))

  pub late_no : x / 2 ^ steps ≡ 0 → not (only_below_lem steps y) ≡ false
  late_no n = rw (eq-eqb _ _ (subst (λ (z : ℕ). z / 2 ^ steps ≡ 0) e n))

module _ (c : ℕ) (b : Bool) (p : 1 ≤ c) where
  pub loose_is : not (eqb c 0 || b) ≡ not b
  loose_is = rw (ne_eqb c 0 (omega arith))
