-- What the search over people says of the first plan. Assumes nothing.
use mathlib.Core.Bool.{true}
use mathlib.Core.List.{List}
use mathlib.Core.Path.{◌≡◌, refl}
use Prim.Native.Nat.{ℕ}
use Rattle.std.specs.Prelude.{Option, None, Some, Ok}
use Rattle.workflow.specs.Problem.{Job}
use Rattle.workflow.specs.First.{first_plan, found_in}
use Rattle.workflow.proofs.First.{first_plan_given, no_valid_plan}
use Rattle.pattern.specs.Tables.{may_in, plan_in}
use Rattle.backtrack.specs.Trial.{Trial}

pub first_tried : (j : Job) (may : List ℕ) (o : Option (List ℕ)) → Trial true j may (Ok o) → first_plan j (may_in may) ≡ found_in j.steps o
unfolding Trial
first_tried j may None t = no_valid_plan j (may_in may) (λ π v. t (π, v))
first_tried j may (Some plan) (sized, t) = first_plan_given j (may_in may) (plan_in plan) (record { valid = t.valid; first = t.first refl })
