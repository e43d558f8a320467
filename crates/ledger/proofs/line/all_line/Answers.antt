-- `ledger::line::all_line` meets its contract: the sums of the lines are those of all entries. Assumes nothing.
use mathlib.Core.Path.{sym, ◌∙◌, subst}
use Rattle.ledger.specs.Lines.{Small}
use Rattle.ledger.proofs.Signed.{small_back}
use Rattle.ledger.proofs.line.all_line.Goals as goal

pub printed-requires : goal.printed-requires
printed-requires c =
    let p = c.requires in
    (subst Small (sym (small_back _ p.all_quoted)) p.all_quoted, subst Small (sym (small_back _ p.all_taken)) p.all_taken)

pub returns : goal.returns
returns c =
    let p = c.requires in
    λ es w. c.printed.ensures _ _ (small_back _ p.all_quoted ∙ w.all_quoted) (small_back _ p.all_taken ∙ w.all_taken)
