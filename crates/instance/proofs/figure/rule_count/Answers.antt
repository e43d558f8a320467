-- `instance::figure::rule_count` meets its contract: the labels are those of the classes of the steps passed. Assumes nothing.
use mathlib.Core.Path.{◌∙◌}
use native.Mathlib.Omega.{arith}
use Rattle.workflow.proofs.Labels.{turn_below, gathered_none, gathered_more, gathered_all}
use Rattle.instance.proofs.Classes.{alike_le, alike_distinct}
use Rattle.instance.proofs.figure.rule_count.Goals as goal

pub loop-s-init : goal.loop-s-init
loop-s-init c = rw c.into_iter-s-iterator.ensures.into_iter_gives (rw c.members-s-items.ensures gathered_none)

pub first_alike-requires : goal.first_alike-requires
first_alike-requires c = (
  c.requires.0,
  turn_below c.args.scope c.loop-s.invariant.part c.in-Some.ensures.steps.1 12 c.requires.1,
  c.requires.2 c.in-Some.s (c.loop-s.invariant.part _ c.in-Some.ensures.steps.1.lowest.has),
)

pub with-labels-requires : goal.with-labels-requires
with-labels-requires c =
    omega (arith, alike_le _ _ _ c.first_alike.ensures, turn_below c.args.scope c.loop-s.invariant.part c.in-Some.ensures.steps.1 12 c.requires.1)

pub loop-s-preserved : goal.loop-s-preserved
loop-s-preserved c =
    gathered_more c.loop-s.invariant c.in-Some.ensures.steps.1 c.first_alike.ensures c.with-labels.ensures

pub returns : goal.returns
returns c = (
  c.class_count.ensures.0,
  λ n b. c.class_count.ensures.1 n _ _ (gathered_all c.loop-s.invariant c.in-None.ensures.steps.0 n b) ∙ alike_distinct _ n _,
)
