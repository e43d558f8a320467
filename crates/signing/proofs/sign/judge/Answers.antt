-- Each return is one case of `sign_answer`. Assumes nothing.
use native.Mathlib.Omega.{arith}
use borrow.Author.Rules.{rules}
use Rattle.bits.proofs.Says.{says_true, says_false}
use Rattle.sheet.proofs.Readable.{fewer_counted}
use Rattle.answer.proofs.WasRead.{was_readable}
use Rattle.signing.proofs.Deciding.{sign_unread, no_step, no_person, places, sign_taken, sign_granted, sign_ungranted}
use Rattle.signing.proofs.sign.judge.Goals as goal

pub returns-in_default : goal.returns-in_default
returns-in_default c = sign_unread _ _ _ c.read_held.ensures c.in_default.is

pub place_of-step_place-requires : goal.place_of-step_place-requires
place_of-step_place-requires c =
    let w = was_readable _ c.read_held.ensures c.in-Ok.is in omega (arith, w.steps_most, w.sized.step_tag)

pub returns-in_default-step_place : goal.returns-in_default-step_place
returns-in_default-step_place c =
    no_step _ _ _ c.read_held.ensures c.in-Ok.is c.place_of-step_place.ensures c.in_default-step_place.is

pub place_of-person_place-requires : goal.place_of-person_place-requires
place_of-person_place-requires c =
    let w = was_readable _ c.read_held.ensures c.in-Ok.is in omega (arith, w.people_most, w.sized.person_tag)

pub returns-in_default-person_place : goal.returns-in_default-person_place
returns-in_default-person_place c =
    no_person _ _ _ c.read_held.ensures c.in-Ok.is c.place_of-person_place.ensures c.in_default-person_place.is

pub bounds-job-t : goal.bounds-job-t
bounds-job-t c =
    (places c.args.job.now c.args.step c.args.person c.read_held.ensures c.in-Ok.is c.place_of-step_place.ensures c.in-Some.is c.place_of-person_place.ensures c.in-Some-person_place.is).0

pub returns-then-job-t-ne0 : goal.returns-then-job-t-ne0
returns-then-job-t-ne0 c =
    sign_taken _ _ _ c.read_held.ensures c.in-Ok.is c.place_of-step_place.ensures c.in-Some.is c.place_of-person_place.ensures c.in-Some-person_place.is c.if-job-t-ne0.true

pub with_signer-asked-requires : goal.with_signer-asked-requires
with_signer-asked-requires c =
    places c.args.job.now c.args.step c.args.person c.read_held.ensures c.in-Ok.is c.place_of-step_place.ensures c.in-Some.is c.place_of-person_place.ensures c.in-Some-person_place.is

pub can_finish-requires : goal.can_finish-requires
can_finish-requires c = (fewer_counted (was_readable _ c.read_held.ensures c.in-Ok.is) (omega arith), search rules)

pub returns-then-can_finish : goal.returns-then-can_finish
returns-then-can_finish c =
    sign_granted _ _ _ c.read_held.ensures c.in-Ok.is c.place_of-step_place.ensures c.in-Some.is c.place_of-person_place.ensures c.in-Some-person_place.is c.if-job-t-ne0.false
    _ _ c.with_signer-asked.ensures c.with_signer-asked.ensures (says_true c.can_finish.result _ c.can_finish.ensures c.if-can_finish.true)

pub returns : goal.returns
returns c =
    sign_ungranted _ _ _ c.read_held.ensures c.in-Ok.is c.place_of-step_place.ensures c.in-Some.is c.place_of-person_place.ensures c.in-Some-person_place.is c.if-job-t-ne0.false
    _ c.with_signer-asked.ensures (says_false c.can_finish.result _ c.can_finish.ensures c.if-can_finish.false)
