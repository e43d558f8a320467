-- `ledger::sum` meets its contract: the sum fits since both are small. Assumes nothing.
use mathlib.Core.Path.{sym, ◌∙◌, subst}
use mir.Syntax.{w32}
use mir.Val.{SFits}
use mir.ValLaws.{to_z-of_z}
use Rattle.ledger.proofs.Signed.{read_back, sum_fits}
use Rattle.ledger.proofs.sum.Goals as goal

pub overflow_add-result : goal.overflow_add-result
overflow_add-result c = let p = c.requires in subst (SFits w32) (sym (read_back _ _ p.0 p.1)) (sum_fits _ _ p.0 p.1)

pub returns : goal.returns
returns c = let p = c.requires in to_z-of_z w32 _ (overflow_add-result c) ∙ read_back _ _ p.0 p.1
