-- Each return is one case of `read_people`. Assumes nothing.
use native.Mathlib.Omega.{arith}
use mathlib.Core.Path.{◌∙◌, ap}
use Rattle.card.specs.Kinds.{kind_number}
use Rattle.std.proofs.lemmas.Result.{err_from_is_err_and}
use Rattle.sheet.specs.Answer.{answer}
use Rattle.sheet.proofs.Stage.{stage_refused, stage_listed, stage_listing, stage_marking, nothing_marked}
use Rattle.sheet.proofs.Order.{after_people_walk}
use Rattle.sheet.proofs.Found.{refusal}
use Rattle.sheet.proofs.read.read_people.Goals as goal

pub returns-in_err-p : goal.returns-in_err-p
unfolding kind_number
returns-in_err-p c =
    let p = err_from_is_err_and c.from_residual.result c.from_residual.ensures.1 in
    let q = c.requires in
    rw (p.1, p.2)
    (refusal _
    (after_people_walk _ _
    (stage_refused _ _ (nothing_marked _ _ q.1 q.2 q.0 q.3) (omega arith) c.word-first.ensures.0 c.walk_chain.ensures c.in_err-p.was)))

pub after_people-requires : goal.after_people-requires
unfolding kind_number
after_people-requires c =
    let first = c.word-first.ensures.0 in
    let q = c.requires in
    let ended = c.in_ok-p.was in (
      stage_listing _ _ (nothing_marked _ _ q.1 q.2 q.0 q.3) (omega arith) first c.walk_chain.ensures ended,
      stage_marking _ _ (nothing_marked _ _ q.1 q.2 q.0 q.3) (omega arith) first c.walk_chain.ensures ended,
    )

pub returns : goal.returns
unfolding kind_number
returns c =
    let q = c.requires in
    c.after_people.ensures
    ∙ ap (answer c.args.s.now)
    (after_people_walk _ _
    (stage_listed _ _ (nothing_marked _ _ q.1 q.2 q.0 q.3) (omega arith) c.word-first.ensures.0 c.walk_chain.ensures c.in_ok-p.was))
