-- `by_trial::write_verdict` is safe: the step and the rule are of the job. Assumes nothing.
use native.Mathlib.Omega.{arith}
use Rattle.sheet.proofs.Found.{place_some}
use Rattle.by_trial.proofs.write_verdict.Goals as goal

pub offset_bounds-job-s : goal.offset_bounds-job-s
offset_bounds-job-s g c = record { fits = omega (arith, (place_some c.first_denied.ensures c.in-Some.is).0, c.requires.few) }

pub bounds-job-s : goal.bounds-job-s
bounds-job-s g c = omega (arith, (place_some c.first_denied.ensures c.in-Some.is).0, c.requires.few)

pub overflow_add-i : goal.overflow_add-i
overflow_add-i g c =
    record { fits = omega (arith, (place_some (c.first_broken.ensures 0 12 c.requires.ruled.scoped) c.in-Some-first_broken.is).0, c.requires.ruled.few) }
