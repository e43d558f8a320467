-- Each return is one case of `steps_read`. Assumes nothing.
use native.Mathlib.Omega.{arith}
use Rattle.sheet.proofs.Stage.{stage_refused, stage_listed, stage_listing, stage_marking}
use Rattle.sheet.proofs.Order.{no_steps, late_bit, after_rules_walk}
use mathlib.Core.Path.{sym, ◌∙◌, ap}
use borrow.Author.Tests.{eqb-true, eqb-false}
use Rattle.card.specs.Kinds.{kind_number}
use Rattle.card.specs.Refusals.{fault_number}
use Rattle.card.specs.declared.refusal.Fault.TheVariants.{Count, Field}
use Rattle.std.proofs.lemmas.Result.{err_from_is_err_and}
use Rattle.sheet.specs.Answer.{answer}
use Rattle.sheet.proofs.Found.{place_some, refusal, refusal_as}
use Rattle.sheet.proofs.read.after_steps.Goals as goal

pub returns-then-is_empty : goal.returns-then-is_empty
unfolding fault_number
returns-then-is_empty c = refusal_as Count c.on.ensures _ (no_steps _ _ _ _ (eqb-true _ _ (sym c.is_empty.ensures ∙ c.if-is_empty.true)))

pub bounds-people-late : goal.bounds-people-late
bounds-people-late c = (place_some c.first_late.ensures c.in-Some.is).0

pub returns-in-Some : goal.returns-in-Some
unfolding fault_number
returns-in-Some c = refusal_as Field c.on-in-Some.ensures _ (late_bit _ _ _ _ (eqb-false _ _ (sym c.is_empty.ensures ∙ c.if-is_empty.false)) c.first_late.ensures c.in-Some.is)

pub returns-in_err-r : goal.returns-in_err-r
unfolding kind_number
returns-in_err-r c =
    let p = err_from_is_err_and c.from_residual.result c.from_residual.ensures.1 in
    rw (p.1, p.2)
    (refusal _
    (after_rules_walk _ _ _ _ (eqb-false _ _ (sym c.is_empty.ensures ∙ c.if-is_empty.false)) c.first_late.ensures c.in_default.is
    (stage_refused _ _ c.requires.3 (omega arith) c.word-first.ensures.0 c.walk_chain.ensures c.in_err-r.was)))

pub after_rules-requires : goal.after_rules-requires
unfolding kind_number
after_rules-requires c =
    let first = c.word-first.ensures.0 in
    let q = c.requires in
    let ended = c.in_ok-r.was in (
      q.0,
      q.1,
      q.2,
      stage_listing _ _ q.3 (omega arith) first c.walk_chain.ensures ended,
      stage_marking _ _ q.3 (omega arith) first c.walk_chain.ensures ended,
    )

pub returns : goal.returns
unfolding kind_number
returns c =
    c.after_rules.ensures
    ∙ ap (answer c.args.s.now)
    (after_rules_walk _ _ _ _ (eqb-false _ _ (sym c.is_empty.ensures ∙ c.if-is_empty.false)) c.first_late.ensures c.in_default.is
    (stage_listed _ _ c.requires.3 (omega arith) c.word-first.ensures.0 c.walk_chain.ensures c.in_ok-r.was))
