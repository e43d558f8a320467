-- `eligible::figures::label_row` meets its contract: the row has the labels of the steps passed. Assumes nothing.
use mathlib.Core.Path.{◌∙◌}
use native.Mathlib.Omega.{arith}
use lib.ListN.{length-set}
use Rattle.workflow.proofs.Labels.{part_rest, turn_below}
use Rattle.workflow.proofs.Tally.{entered_more, entered_all, entered_at}
use Rattle.eligible.proofs.figures.label_row.Goals as goal

pub bounds-row-s : goal.bounds-row-s
bounds-row-s g c = omega (arith, turn_below c.args.steps c.loop-s.invariant.0 c.in-Some.ensures.steps.1 12 c.requires.0, c.loop-s.invariant.1)

pub loop-s-preserved : goal.loop-s-preserved
loop-s-preserved g c =
    let l = c.loop-s.invariant in
    let first = c.in-Some.ensures.steps.1 in (
      part_rest c.args.steps l.0 first,
      length-set c.loop-s.row c.in-Some.s _ ∙ l.1,
      λ k by. entered_more (l.2 k by) l.0 first c.requires.0 l.1 (by _ _ (l.0 _ first.lowest.has) c.label.ensures),
    )

pub returns : goal.returns
returns g c =
    let l = c.loop-s.invariant in
    (l.1, λ k by. entered_at (entered_all (l.2 k by) c.in-None.ensures.steps.0))
