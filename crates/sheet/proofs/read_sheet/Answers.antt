-- Each return is one case of `read_sheet`. Assumes nothing.
use mathlib.Core.Bool.{not}
use mathlib.Core.Path.{sym, ◌∙◌, ap}
use borrow.Author.Tests.{not-true, not-false}
use Rattle.card.specs.Refusals.{fault_number}
use Rattle.card.specs.declared.refusal.Fault.TheVariants.{Length, Header}
use Rattle.sheet.specs.Answer.{answer}
use Rattle.sheet.proofs.Order.{bad_length, long_enough, bad_header, read_on}
use Rattle.sheet.proofs.InOrder.{header_levels}
use Rattle.sheet.proofs.Found.{refusal_as}
use Rattle.sheet.proofs.read_sheet.Goals as goal

pub returns-then-not-length_ok : goal.returns-then-not-length_ok
unfolding fault_number
returns-then-not-length_ok c = refusal_as Length c.on.ensures _ (bad_length _ (not-true _ (ap not c.if-not-length_ok.true)) c.length_ok.ensures)

pub header_ok-requires : goal.header_ok-requires
header_ok-requires c = (long_enough c.args.sheet.now (not-false _ (ap not c.if-not-length_ok.false)) c.length_ok.ensures).0

pub returns-then-not-header_ok : goal.returns-then-not-header_ok
unfolding fault_number
returns-then-not-header_ok c =
    refusal_as Header c.on-then-not-header_ok.ensures _
    (bad_header _ (not-false _ (ap not c.if-not-length_ok.false)) c.length_ok.ensures c.header_ok.ensures (not-true _ (ap not c.if-not-header_ok.true)))

pub read_people-requires : goal.read_people-requires
read_people-requires c =
    let s = c.args.sheet.now in
    let l = (long_enough s (not-false _ (ap not c.if-not-length_ok.false)) c.length_ok.ensures).1 in
    (l.0, l.1, l.2, (header_levels s _ (sym c.header_ok.ensures ∙ not-false _ (ap not c.if-not-header_ok.false))).1)

pub returns : goal.returns
returns c =
    c.read_people.ensures
    ∙ ap (answer c.args.sheet.now)
    (read_on _ (not-false _ (ap not c.if-not-length_ok.false)) c.length_ok.ensures c.header_ok.ensures (not-false _ (ap not c.if-not-header_ok.false)))
