-- `eligible::possible` meets its contract, by the count and by the largest load. Assumes nothing.
use Prim.Native.Nat.{ℕ, ◌^◌, ◌<◌}
use borrow.Author.Tests.{not-false}
use Rattle.bits.specs.Says.{Says}
use Rattle.bits.specs.Word.{has_bit}
use Rattle.bits.proofs.Says.{says_true}
use Rattle.pattern.specs.Eligible.{group_count, open_count, CanBeMet}
use Rattle.pattern.specs.Rule.{scope_in, unpacked}
use Rattle.pattern.specs.Tables.{label_in}
use Rattle.eligible.proofs.Tests.{counted_says, possible_says}
use mathlib.Core.Bool.{not}
use mathlib.Core.Path.{ap}
use Rattle.eligible.proofs.possible.Goals as goal
use Rattle.eligible.proofs.possible.Goals.{After-can_be_met}

-- what the count says
counted : (c : After-can_be_met) → let a = c.args in (steps : ℕ) → scope_in a.rule < 2 ^ steps
    → Says c.can_be_met.result (CanBeMet (unpacked a.rule) (group_count steps (has_bit a.placed) (label_in a.label.now) (unpacked a.rule))
    (open_count steps (has_bit a.placed) (unpacked a.rule)))
counted c steps k =
    let a = c.args in
    counted_says a.rule a.placed c.scope-scope.ensures steps k a.label.now (c.group_count-groups.ensures.0 steps k) c.open_count.ensures.1
    c.can_be_met.result c.can_be_met.ensures

pub returns : goal.returns
returns c =
    let a = c.args in
    λ steps k.
    possible_says steps a.rule a.placed a.label.now (says_true c.can_be_met.result _ (counted c.before.before steps k) (not-false _ (ap not c.if-not-can_be_met.false)))
    c.is_light.result (c.is_light.ensures steps k)
