-- What the search over people says of existence. Assumes nothing.
use mathlib.Core.Bool.{Bool, true, false}
use mathlib.Core.List.{List}
use mathlib.Core.Path.{◌≡◌}
use Prim.Native.Nat.{ℕ}
use Rattle.std.specs.Prelude.{Option, None, Some, Ok}
use Rattle.workflow.specs.Problem.{Job}
use Rattle.pattern.specs.Tables.{may_in, plan_in}
use Rattle.narrow.specs.Domains.{Narrowed}
use Rattle.backtrack.specs.Trial.{Trial}
use Rattle.backtrack.proofs.Extending.{part_valid}
use Rattle.search.specs.Existence.{Existence}

-- a plan that is found is valid, and where it says that there is none there is none
pub existence_tried : (ordered : Bool) (j : Job) (may : List ℕ) (found : Option (List ℕ)) → Trial ordered j may (Ok found) → Existence j (may_in may) found
unfolding Trial
existence_tried ordered j may None t = t
existence_tried ordered j may (Some plan) t = (t.0, t.1.valid)

-- what the search among those whom the rules leave says of all
pub existence_narrowed : (j : Job) (may dom : List ℕ) (r : Bool) (found : Option (List ℕ)) → Narrowed j may dom r → r ≡ true → Existence j (may_in dom) found
    → Existence j (may_in may) found
existence_narrowed j may dom r None n e x = λ (π, v). x (π, n.kept e π v)
existence_narrowed j may dom r (Some plan) n e x = (x.0, part_valid j may dom n.fewer (plan_in plan) x.1)

pub existence_lost : (j : Job) (may dom : List ℕ) (r : Bool) → Narrowed j may dom r → r ≡ false → Existence j (may_in may) None
existence_lost j may dom r n e = λ (π, v). n.lost e π v
