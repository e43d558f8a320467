-- `remaining::read_job` meets its contract: each return is one case of `left_of`. Assumes nothing.
use Rattle.std.proofs.lemmas.Result.{err_from_is_err_and}
use Rattle.remaining.proofs.Left.{returns_refused, was_read, returns_whole, returns_left}
use Rattle.remaining.proofs.read_job.Goals as goal

pub returns-in_err-job : goal.returns-in_err-job
returns-in_err-job c =
    let p = err_from_is_err_and c.from_residual.result c.from_residual.ensures.1 in
    rw (p.1, p.2) (returns_refused _ c.read_sheet.ensures c.in_err-job.was)

pub kept_steps-kept-requires : goal.kept_steps-kept-requires
kept_steps-kept-requires c =
    let r = (was_read _ c.read_sheet.ensures c.in_ok-job.was).readable in
    (r.sized.skipped, r.steps_most)

pub returns-then-count-job : goal.returns-then-count-job
returns-then-count-job c =
    returns_whole _ c.read_sheet.ensures c.in_ok-job.was c.kept_steps-kept.ensures c.if-count-job.true

pub returns : goal.returns
returns c =
    returns_left _ c.read_sheet.ensures c.in_ok-job.was c.kept_steps-kept.ensures c.job_over.ensures
