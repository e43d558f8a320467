-- `exhaustive::crew_by_trial` meets its contract: each return is one case of `crew_answer`. Assumes nothing.
use native.Mathlib.Omega.{arith}
use Rattle.std.proofs.lemmas.Result.{err_from_is_err_and}
use Rattle.answer.proofs.WasRead.{was_readable}
use Rattle.answer.proofs.CrewCall.{returns_refusal, returns_short, returns_planned}
use Rattle.exhaustive.proofs.crew_by_trial.Goals as goal

pub returns-in_err-job : goal.returns-in_err-job
returns-in_err-job c =
    let p = err_from_is_err_and c.from_residual.result c.from_residual.ensures.1 in
    rw (p.1, p.2) (returns_refusal _ _ c.read_job.ensures c.in_err-job.was)

pub overflow_mul-job : goal.overflow_mul-job
overflow_mul-job c = omega (arith, (was_readable _ c.read_job.ensures c.in_ok-job.was).steps_most)

pub returns-then-buffer-job : goal.returns-then-buffer-job
returns-then-buffer-job c = returns_short _ _ c.read_job.ensures c.in_ok-job.was c.if-buffer-job.true c.on.ensures

pub try_every-trial-requires : goal.try_every-trial-requires
try_every-trial-requires c = was_readable _ c.read_job.ensures c.in_ok-job.was

pub answer_crew-requires : goal.answer_crew-requires
answer_crew-requires c =
    ((was_readable _ c.read_job.ensures c.in_ok-job.was).steps_most, c.if-buffer-job.false, c.try_every-trial.ensures.1)

pub returns : goal.returns
returns c =
    returns_planned _ _ c.read_job.ensures c.in_ok-job.was _ c.try_every-trial.ensures.0.first c.if-buffer-job.false
    c.answer_crew.ensures.0 c.answer_crew.ensures.1
