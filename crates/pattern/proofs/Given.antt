-- A job that the search is given can be searched. Assumes nothing.
use mathlib.Core.List.{List}
use Prim.Native.Nat.{ℕ, ◌^◌, ◌≤◌, ◌<◌}
use native.Mathlib.Omega.{arith}
use lib.ListN.{get_or}
use lib.Pow.{pow_mono}
use Rattle.pattern.specs.declared.Size.{Size}
use Rattle.pattern.specs.Given.{Ruled}
use Rattle.pattern.specs.Pattern.{Refining}
use Rattle.pattern.specs.Rule.{scope_in}
use Rattle.pattern.specs.Search.{Searchable}
use Rattle.pattern.specs.Tables.{job_with}

pub searchable : {size : Size} {class : ℕ → ℕ → ℕ} {rule : List ℕ} → Ruled size rule → Refining (job_with size class rule) → Searchable (job_with size class rule)
searchable r f = record { refining = f; rule_ok = r.rule_ok }

-- the scope of a rule is a set of numbers below 12
pub scope_small : {size : Size} {rule : List ℕ} → Ruled size rule → (i : ℕ) → i < size.rules → scope_in (get_or rule i 0) < 4096
scope_small {size} {rule} r i l =
    let a : 2 ^ size.steps ≤ 2 ^ 12 = pow_mono r.few_steps in
    let b = r.scopes i l in
    omega arith
