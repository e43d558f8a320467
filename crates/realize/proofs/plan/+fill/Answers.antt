-- The proof of `realize::plan::fill`, which calls itself one level down: the measure is the levels left. The loop's invariant: all but the groups
-- left are with their classes, and other steps have whom they had, so a further group leaves the others as they are. Assumes nothing.
use mathlib.Core.Path.{◌∙◌, subst}
use Rattle.realize.specs.Decision.{Covering}
use native.Mathlib.Omega.{arith}
use Rattle.bits.proofs.Masks.{taken_below}
use Rattle.realize.proofs.Rows.{group_sized, heads_few}
use Rattle.realize.proofs.Fill.{sent_next, filled_last, filled_none, filled_sent}
use Rattle.realize.proofs.plan.+fill.Goals as goal

pub returns-then-task : goal.returns-then-task
returns-then-task t c = filled_last c.if-task.true c.staff.ensures

pub returns-in_default : goal.returns-in_default
returns-in_default t c =
    filled_none c.if-task.false c.requires.0.below (subst (Covering _ _ _ _ _) c.in_default.is c.cover.ensures)

pub bounds-at-g : goal.bounds-at-g
bounds-at-g t c =
    taken_below c.in-Some-g.ensures.steps.1 12 c.groups_of-heads.result (heads_few c.requires.0 _ c.groups_of-heads.ensures) c.loop-g.invariant.part

pub fill-requires : goal.fill-requires
fill-requires t c =
    (omega (arith, c.decreases, c.if-task.false), (group_sized c.requires.0 _ _ c.members-group.ensures, c.loop-g.invariant.kept.sized ∙ c.requires.1))

pub loop-g-preserved : goal.loop-g-preserved
loop-g-preserved t c =
    sent_next c.loop-g.invariant c.in-Some-g.ensures.steps.1 c.members-group.ensures c.fill.ensures

pub returns : goal.returns
returns t c =
    filled_sent c.if-task.false c.requires.0.below (subst (Covering _ _ _ _ _) c.in-Some.is c.cover.ensures)
    c.groups_of-heads.ensures c.loop-g.invariant c.in-None.ensures.steps.0
