-- Each return is one case of `open_answer`. Assumes nothing.
use native.Mathlib.Omega.{arith}
use Rattle.std.proofs.lemmas.Result.{err_from_is_err_and}
use mathlib.Core.Path.{refl}
use Rattle.bits.proofs.Says.{says_true, says_false}
use Rattle.sheet.proofs.Readable.{fewer_counted}
use Rattle.answer.proofs.WasRead.{was_readable}
use Rattle.signing.proofs.Opening.{open_refused, sheet_fits, open_none, open_done}
use Rattle.signing.proofs.open.open.Goals as goal

pub returns-in_err-posed : goal.returns-in_err-posed
returns-in_err-posed c =
    let p = err_from_is_err_and c.from_residual.result c.from_residual.ensures.1 in
    rw (p.1, p.2) (open_refused _ c.read_job.ensures _ c.in_err-posed.was)

pub can_finish-requires : goal.can_finish-requires
can_finish-requires c = (fewer_counted (was_readable _ c.read_job.ensures c.in_ok-posed.was) (omega arith), refl)

pub returns-then-not-can_finish : goal.returns-then-not-can_finish
returns-then-not-can_finish c =
    open_none _ c.read_job.ensures _ c.in_ok-posed.was (says_false c.can_finish.result _ c.can_finish.ensures c.if-not-can_finish.true) c.on.ensures

pub overflow_cast-job : goal.overflow_cast-job
overflow_cast-job c = record { fits = omega (arith, sheet_fits _ c.read_job.ensures c.args.job.now c.in_ok-posed.was) }

pub stored-requires : goal.stored-requires
stored-requires c = sheet_fits _ c.read_job.ensures c.args.job.now c.in_ok-posed.was

pub returns : goal.returns
returns c =
    open_done _ c.read_job.ensures _ c.in_ok-posed.was (says_true c.can_finish.result _ c.can_finish.ensures c.if-not-can_finish.false) _ c.stored.ensures
