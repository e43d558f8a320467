-- The refusals in their order, and then the spare count. Assumes nothing.
use borrow.Author.Rules.{rules}
use Rattle.std.proofs.lemmas.Result.{err_from_is_err_and}
use Rattle.answer.proofs.WasRead.{was_readable}
use Rattle.resiliency.proofs.Answered.{left_cap, left_refused, left_short, left_count}
use Rattle.resiliency.proofs.call.spare.Goals as goal

pub returns-then-over : goal.returns-then-over
returns-then-over c = left_cap _ _ _ c.on.ensures c.if-over.true

pub returns-in_err-job : goal.returns-in_err-job
returns-in_err-job c =
    let p = err_from_is_err_and c.from_residual.result c.from_residual.ensures.1 in
    rw (p.1, p.2) (left_refused _ _ _ c.read_job.ensures c.if-over.false c.in_err-job.was)

pub returns-then-short : goal.returns-then-short
returns-then-short c = left_short _ _ _ c.read_job.ensures c.if-over.false c.in_ok-job.was c.on-then-short.ensures c.if-short.true

pub job_count-count-requires : goal.job_count-count-requires
job_count-count-requires c = (was_readable _ c.read_job.ensures c.in_ok-job.was, c.if-over.false)

pub write_count-requires : goal.write_count-requires
write_count-requires c = (search rules, c.if-over.false, c.if-short.false, c.job_count-count.ensures.1)

pub returns : goal.returns
returns c =
    left_count _ _ _ c.read_job.ensures c.if-over.false c.in_ok-job.was c.if-short.false _ _ _ c.job_count-count.ensures.0 c.write_count.ensures
