-- `instance::figure::labels_of` meets its contract: the labels are those of the classes of the steps passed. Assumes nothing.
use mathlib.Core.Path.{refl, ◌∙◌}
use native.Mathlib.Omega.{arith}
use lib.ListN.{length-set}
use Rattle.workflow.proofs.Labels.{part_rest, turn_below}
use Rattle.workflow.proofs.Tally.{entered_none, entered_more, entered_all, entered_at}
use Rattle.instance.proofs.Classes.{alike_le}
use Rattle.instance.proofs.figure.labels_of.Goals as goal

pub loop-s-init : goal.loop-s-init
loop-s-init c = rw c.into_iter-s-iterator.ensures.into_iter_gives (rw c.members-s-items.ensures (λ s h. h, refl, entered_none))

pub first_alike-requires : goal.first_alike-requires
first_alike-requires c = (
  c.requires.0,
  turn_below c.args.scope c.loop-s.invariant.0 c.in-Some.ensures.steps.1 12 c.requires.1,
  c.requires.2 c.in-Some.s (c.loop-s.invariant.0 _ c.in-Some.ensures.steps.1.lowest.has),
)

pub overflow_cast-labels : goal.overflow_cast-labels
overflow_cast-labels c =
    omega (arith, alike_le _ _ _ c.first_alike.ensures, turn_below c.args.scope c.loop-s.invariant.0 c.in-Some.ensures.steps.1 12 c.requires.1)

pub bounds-labels-s : goal.bounds-labels-s
bounds-labels-s c = turn_below c.args.scope c.loop-s.invariant.0 c.in-Some.ensures.steps.1 12 c.requires.1

pub loop-s-preserved : goal.loop-s-preserved
loop-s-preserved c =
    let l = c.loop-s in
    let first = c.in-Some.ensures.steps.1 in (
      part_rest c.args.scope l.invariant.0 first,
      length-set l.labels c.in-Some.s _ ∙ l.invariant.1,
      entered_more l.invariant.2 l.invariant.0 first c.requires.1 l.invariant.1 c.first_alike.ensures,
    )

pub returns : goal.returns
returns c = let l = c.loop-s in (l.invariant.1, entered_at (entered_all l.invariant.2 c.in-None.ensures.steps.0))
