-- `planner::write_answer` is safe: a readable sheet has few steps and rules, and a plan that was found people of the sheet. Assumes nothing.
use mathlib.Core.Path.{subst}
use borrow.Author.Rules.{rules}
use Rattle.answer.specs.Crew.{StaffedIn}
use Rattle.answer.proofs.WasRead.{was_readable}
use Rattle.instance.proofs.Figured.{rules_staffed}
use Rattle.planner.proofs.write_answer.Goals as goal

pub plan_job-requires : goal.plan_job-requires
plan_job-requires g c = was_readable _ c.read_job.ensures c.in-Ok.is

pub write_plan-requires : goal.write_plan-requires
write_plan-requires g c =
    let p = subst (StaffedIn c.in-Ok.job.steps) c.in-Some.is c.plan_job.ensures.1 in
    ((was_readable _ c.read_job.ensures c.in-Ok.is).steps_most, p.0, p.1)

pub rule_figures-figures-requires : goal.rule_figures-figures-requires
rule_figures-figures-requires g c =
    let p = subst (StaffedIn c.in-Ok.job.steps) c.in-Some.is c.plan_job.ensures.1 in
    rules_staffed (was_readable _ c.read_job.ensures c.in-Ok.is) c.in-Some.plan p.0 p.1

pub write_rules-requires : goal.write_rules-requires
write_rules-requires g c = ((was_readable _ c.read_job.ensures c.in-Ok.is).rules_most, search rules)
