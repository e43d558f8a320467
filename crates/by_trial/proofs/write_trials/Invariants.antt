-- The plan in hand gives each step one of the people.
use mathlib.Core.Path.{◌≡◌}
use lib.ListN.{length}
use Rattle.workflow.specs.First.{plan_of}
use Rattle.workflow.specs.Problem.{OfPeople}
use Rattle.sheet.specs.Readable.{ReadableJob}
use Rattle.instance.specs.Instance.{instance_of}
use Rattle.by_trial.proofs.write_trials.Given as goal

abbrev pub invariant-loop : goal.invariant-loop
invariant-loop g l = ReadableJob l.job.people l.job.steps l.job.rules l.job × (length l.plan ≡ 12) × OfPeople (instance_of l.job.people l.job.steps l.job.rules l.job) (plan_of l.plan)
