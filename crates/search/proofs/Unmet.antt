-- A rule that no classes with somebody for its steps meet: there is no valid plan. And what makes an assignment of classes to the steps of a
-- scope. Assumes nothing.
use mathlib.Core.Bool.{true}
use mathlib.Core.List.{List}
use Rattle.std.specs.Prelude.{None}
use mathlib.Core.Path.{◌≡◌, sym, subst}
use Prim.Native.Nat.{ℕ, suc, ◌+◌, ◌*◌, ◌-◌, ◌^◌, ◌≤◌, ◌<◌}
use native.Mathlib.Omega.{arith}
use lib.Dec.{ltb}
use lib.ListN.{get_or}
use borrow.Author.Tests.{ltb-true, ltb-false}
use Rattle.bits.specs.Word.{has_bit}
use Rattle.bits.proofs.Below.{by_cases, and_right}
use Rattle.bits.proofs.SetLaws.{has_below}
use Rattle.workflow.specs.Problem.{InBounds, Valid, distinct, largest_load}
use Rattle.matching.specs.Assignment.{Assignment, in_mask, suits}
use Rattle.pattern.specs.declared.Size.{Size}
use Rattle.pattern.specs.Given.{Ruled}
use Rattle.pattern.specs.Rule.{level_in, scope_in, unpacked}
use Rattle.pattern.specs.Tables.{may_in, job_with}
use Rattle.realize.specs.Parts.{Offers}
use Rattle.search.specs.Existence.{Existence}
use Rattle.search.specs.Limits.{Manned}

-- ---- an assignment over a scope

in_groups : (steps scope g : ℕ) → scope < 2 ^ steps → in_mask scope g ≡ true → (g < steps) × (has_bit scope g ≡ true)
in_groups steps scope g small h = let b = and_right (ltb g 12) _ h in (has_below steps scope g small b, b)

-- each step has a class along an edge, and of two steps the later one has another
pub assignment_of : (steps scope : ℕ) (edges : List ℕ) (f : ℕ → ℕ) → scope < 2 ^ steps
    → ((s : ℕ) → s < steps → has_bit scope s ≡ true → suits edges s (f s) ≡ true)
    → ((s t : ℕ) → s < t → t < steps → has_bit scope s ≡ true → has_bit scope t ≡ true → f s ≡ f t → ⊥)
    → Assignment (in_mask scope) (suits edges) f
assignment_of steps scope edges f small suited ordered =
    record {
      along = λ g h. let x = in_groups steps scope g small h in suited g x.0 x.1;
      apart = λ g h a b e.
          let x = in_groups steps scope g small a in
          let y = in_groups steps scope h small b in
          by_cases (ltb g h)
          (λ t. absurd (ordered g h (ltb-true g h t) y.0 x.1 y.1 e))
          (λ t. by_cases (ltb h g)
          (λ u. absurd (ordered h g (ltb-true h g u) x.0 y.1 x.1 (sym e)))
          (λ u. let n : h ≤ g = ltb-false g h t in let m : g ≤ h = ltb-false h g u in omega arith));
    }

-- ---- a rule that is not met

-- no classes with somebody for the steps of its scope meet a rule
pub record Unmet (steps rules : ℕ) (rule reach : List ℕ) : Type 0 where
  pub which : ℕ
  pub below : which < rules
  pub none : let r = get_or rule which 0 in (c : ℕ → ℕ) → Manned steps reach (level_in r - 1) (scope_in r) c
      → InBounds (unpacked r) (distinct steps (has_bit (scope_in r)) c) (largest_load steps (has_bit (scope_in r)) c) → ⊥

module _ {size : Size} {class : ℕ → ℕ → ℕ} {rule : List ℕ} (ruled : Ruled size rule)
    (small : (q p : ℕ) → 1 ≤ q → q ≤ size.levels → p < size.people → class q p < 64)
    (may : List ℕ) {reach : List ℕ} (offers : Offers (job_with size class rule) may reach) where
  -- the classes of a valid plan have somebody for the steps
  pub manned : (π : ℕ → ℕ) → Valid (job_with size class rule) (may_in may) π → (q scope : ℕ) → 1 ≤ q → q ≤ size.levels
      → Manned size.steps reach (q - 1) scope (λ s. class q (π s))
  manned π ok q scope from to s l h =
      let e : suc (q - 1) ≡ q = omega arith in (
        small q (π s) from to (ok.within s l),
        subst (λ (x : ℕ). has_bit (get_or reach ((q - 1) * 12 + s) 0) (class x (π s)) ≡ true) e
            (offers.has (q - 1) s (π s) (omega arith) (omega (arith, ruled.few_steps)) (ok.within s l) (ok.authorised s l)),
      )

  -- so there is none where they do not meet a rule
  pub existence_short : Unmet size.steps size.rules rule reach → Existence (job_with size class rule) (may_in may) None
  existence_short u x =
      let i = u.which in
      let ok = ruled.rule_ok i u.below in
      u.none (λ s. class (level_in (get_or rule i 0)) (x.0 s))
      (manned x.0 x.1 (level_in (get_or rule i 0)) (scope_in (get_or rule i 0)) ok.from ok.to) (x.1.eligible i u.below)
