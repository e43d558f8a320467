-- The tables and the bound masks pose the job with the signed steps left to their signers. Assumes nothing.
use mathlib.Core.Bool.{Bool}
use mathlib.Core.Path.{sym, subst}
use Rattle.bits.specs.Says.{Says}
use Rattle.workflow.specs.Problem.{Satisfiable}
use Rattle.instance.specs.Instance.{instance_of, may_of}
use Rattle.tables.proofs.Same.{permits}
use Rattle.signing.specs.Bound.{bound}
use Rattle.signing.proofs.Asking.{asked}
use Rattle.signing.proofs.question.can_finish.Goals as goal

pub returns : goal.returns
returns c =
    let j = c.args.job.now in
    let r = c.requires.0 in
    subst (λ (b : Bool). Says b (Satisfiable (instance_of j.people j.steps j.rules j) (bound (may_of j) c.args.signer.now))) (sym c.is_some.ensures)
    (asked r.steps_most r.people_most c.pose-tables.ensures (permits _ _ _ r.steps_most c.may_masks-may.ensures) c.bound_masks-rest.ensures c.exists.result c.exists.ensures.0)
