-- `ledger::sums_with` meets its contract: one entry is set. Assumes nothing.
use mathlib.Core.Path.{◌∙◌, ap}
use lib.IntN.{ℤ, pos, ◌+ℤ◌}
use lib.ListN.{set}
use mir.Syntax.{w32}
use mir.ValLaws.{to_z-of_z}
use Rattle.ledger.proofs.Signed.{small_back}
use Rattle.ledger.proofs.sums_with.Goals as goal

pub returns : goal.returns
returns c =
    ap (λ (z : ℤ). set c.args.sums.now c.args.line z)
    (to_z-of_z w32 c.sum.result (record { sfits = c.sum.type_inv }) ∙ c.sum.ensures
    ∙ ap (λ (z : ℤ). z +ℤ pos c.args.minutes) (small_back _ c.requires.2))
