-- Each return is one case of `people_read`. Assumes nothing.
use native.Mathlib.Omega.{arith}
use mathlib.Core.Path.{◌≡◌, sym, ◌∙◌, ap}
use Prim.Native.Nat.{◌≤◌}
use lib.ListN.{length, take}
use borrow.Author.Tests.{eqb-true, eqb-false}
use Rattle.card.specs.Kinds.{kind_number}
use Rattle.card.specs.Refusals.{fault_number}
use Rattle.card.specs.declared.refusal.Fault.TheVariants.{Count}
use Rattle.std.proofs.lemmas.Result.{err_from_is_err_and}
use Rattle.sheet.specs.Answer.{answer}
use Rattle.sheet.proofs.Stage.{stage_refused, stage_listed, stage_count, stage_length, stage_listing, stage_marking}
use Rattle.sheet.proofs.Order.{no_people, after_steps_walk}
use Rattle.sheet.proofs.Found.{refusal, refusal_as}
use Rattle.sheet.proofs.read.after_people.Goals as goal

pub returns-then-is_empty : goal.returns-then-is_empty
unfolding fault_number
returns-then-is_empty c = refusal_as Count c.on.ensures _ (no_people _ _ _ (eqb-true _ _ (sym c.is_empty.ensures ∙ c.if-is_empty.true)))

pub returns-in_err-n : goal.returns-in_err-n
unfolding kind_number
returns-in_err-n c =
    let p = err_from_is_err_and c.from_residual.result c.from_residual.ensures.1 in
    rw (p.1, p.2)
    (refusal _
    (after_steps_walk _ _ _ (eqb-false _ _ (sym c.is_empty.ensures ∙ c.if-is_empty.false))
    (stage_refused _ _ c.requires.1 (omega arith) c.word-first.ensures.0 c.walk_chain.ensures c.in_err-n.was)))

pub after_steps-requires : goal.after_steps-requires
unfolding kind_number
after_steps-requires c =
    let first = c.word-first.ensures.0 in
    let q = c.requires in
    let ended = c.in_ok-n.was in
    let few : c.in_ok-n.n ≤ 12 = stage_count _ _ q.1 (omega arith) first c.walk_chain.ensures ended in
    let listed : length (take c.in_ok-n.n c.walk_chain.new.list) ≡ c.in_ok-n.n
    = stage_length _ _ q.1 (omega arith) first c.walk_chain.ensures ended in (
      q.0,
      stage_listing _ _ q.1 (omega arith) first c.walk_chain.ensures ended,
      omega arith,
      stage_marking _ _ q.1 (omega arith) first c.walk_chain.ensures ended,
    )

pub returns : goal.returns
unfolding kind_number
returns c =
    c.after_steps.ensures
    ∙ ap (answer c.args.s.now)
    (after_steps_walk _ _ _ (eqb-false _ _ (sym c.is_empty.ensures ∙ c.if-is_empty.false))
    (stage_listed _ _ c.requires.1 (omega arith) c.word-first.ensures.0 c.walk_chain.ensures c.in_ok-n.was))
