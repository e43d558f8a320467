-- `exhaustive::valid::is_valid` meets its contract. Assumes nothing.
use mathlib.Core.Path.{sym, ◌∙◌}
use native.Mathlib.Omega.{arith}
use Rattle.workflow.specs.First.{plan_of}
use Rattle.instance.specs.Instance.{instance_of, may_of}
use Rattle.instance.proofs.Figured.{scoped}
use Rattle.sheet.proofs.Found.{place_some, place_none}
use Rattle.exhaustive.proofs.Validity.{place_found, no_place_found, denied_not_valid, says_valid}
use Rattle.exhaustive.proofs.valid.is_valid.Goals as goal

pub returns-then-is_some : goal.returns-then-is_some
returns-then-is_some c people r within =
    let job = c.args.job.now in
    let w = place_found _ (sym c.is_some.ensures ∙ c.if-is_some.true) in
    let p = place_some c.first_denied.ensures w.1 in
    denied_not_valid (instance_of people job.steps job.rules job) (may_of job) (plan_of c.args.plan.now) (omega (arith, p.0, p.1))

pub returns : goal.returns
returns c people r within =
    let job = c.args.job.now in
    says_valid (instance_of people job.steps job.rules job) (may_of job) (plan_of c.args.plan.now) within
    (place_none c.first_denied.ensures (no_place_found _ (sym c.is_some.ensures ∙ c.if-is_some.false)))
    (c.first_broken.ensures people job.steps (scoped r)) _ c.is_none.ensures
