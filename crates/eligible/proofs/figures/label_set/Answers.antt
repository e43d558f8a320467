-- `eligible::figures::label_set` meets its contract: the labels are those of the steps passed. Assumes nothing.
use Rattle.workflow.proofs.Labels.{part_rest, gathered_more, gathered_all}
use Rattle.eligible.proofs.figures.label_set.Goals as goal

pub loop-s-preserved : goal.loop-s-preserved
loop-s-preserved g c =
    let l = c.loop-s.invariant in
    let first = c.in-Some.ensures.steps.1 in (
      part_rest c.args.steps l.0 first,
      λ k by. gathered_more (l.1 k by) first (by _ _ (l.0 _ first.lowest.has) c.label.ensures) c.with-labels.ensures,
    )

pub returns : goal.returns
returns g c = λ n k l by. gathered_all (c.loop-s.invariant.1 k by) c.in-None.ensures.steps.0 n l
