-- A plan that was found gives each step one of the people. Assumes nothing.
use mathlib.Core.List.{List}
use mathlib.Core.Path.{◌≡◌, refl, ◌∙◌, ap, subst}
use Prim.Native.Nat.{ℕ, ◌<◌}
use native.Mathlib.Omega.{arith}
use lib.ListN.{length}
use Rattle.std.specs.Prelude.{Option, Some, None}
use Rattle.sheet.specs.Readable.{ReadableJob}
use Rattle.sheet.specs.declared.SheetJob.{SheetJob}
use Rattle.workflow.specs.Problem.{Job, May, OfPeople}
use Rattle.workflow.specs.First.{list_of, plan_of, first_plan}
use Rattle.workflow.proofs.First.{first_plan_found}
use Rattle.workflow.proofs.Lists.{plan_of-list_of}
use Rattle.instance.specs.Instance.{instance_of, may_of}
use Rattle.answer.specs.Crew.{found_in, StaffedIn}

pub found_within : (j : Job) (may : May) (o : Option (List ℕ)) → first_plan j may ≡ found_in j.steps o → {plan : List ℕ} → o ≡ Some plan → OfPeople j (plan_of plan)
found_within j may o is {plan} w s l =
    subst (λ (p : ℕ). p < j.people) (plan_of-list_of j.steps (plan_of plan) s l)
    ((first_plan_found j may (list_of j.steps (plan_of plan)) (is ∙ ap (found_in j.steps) w)).1.valid.within s l)

-- so it has a place in the table of people for each step
pub plan_staffed : {people steps rules : ℕ} {j : SheetJob} → ReadableJob people steps rules j → (o : Option (List ℕ))
    → first_plan (instance_of people steps rules j) (may_of j) ≡ found_in steps o → ((plan : List ℕ) → o ≡ Some plan → length plan ≡ 12) → StaffedIn steps o
plan_staffed r None is sized = tt
plan_staffed {people} {steps} {rules} {j} r (Some plan) is sized = (
  sized plan refl,
  λ s l. omega (arith, found_within (instance_of people steps rules j) (may_of j) (Some plan) is refl s l, r.people_most),
)
