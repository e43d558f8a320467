-- The proof of the cycle of calls {cover, decide, hosts}. `decide` calls `cover`, `cover` calls `hosts`, and `hosts` calls `decide` one level down,
-- so the measures are three times the levels left, and 2, 1 and 0 more. The loops' invariants: all but the groups left, and all but the classes
-- left of a group, have their edges. Assumes nothing.
use native.Mathlib.Omega.{arith}
use borrow.Author.Tests.{not-true, not-false}
use Rattle.bits.proofs.Masks.{taken_below}
use Rattle.realize.proofs.Rows.{group_sized, heads_few, hosting_skip, hosting_take, hosted_last, hosted_single, hosted_tried}
use Rattle.realize.proofs.Rows.{linked_next, covering_all, covering_none}
use Rattle.realize.proofs.Decide.{decided_last, decided_covering}
use mathlib.Core.Bool.{not}
use mathlib.Core.Path.{ap}
use Rattle.realize.proofs.decision.+cover_decide_hosts.Goals as goal

pub cover-hosts-row-requires : goal.cover-hosts-row-requires
cover-hosts-row-requires t c =
    (omega arith, (group_sized c.requires.0 _ _ c.members-group.ensures, c.requires.1, c.in-Some.ensures.steps.0))

pub cover-returns-then-row-eq0 : goal.cover-returns-then-row-eq0
cover-returns-then-row-eq0 t c =
    covering_none c.groups_of-heads.ensures c.loop-g.invariant c.in-Some.ensures.steps.1.lowest c.members-group.ensures c.hosts-row.ensures
    c.if-row-eq0.true

pub cover-bounds-edges-g : goal.cover-bounds-edges-g
cover-bounds-edges-g t c =
    taken_below c.in-Some.ensures.steps.1 12 c.groups_of-heads.result (heads_few c.requires.0 _ c.groups_of-heads.ensures) c.loop-g.invariant.part

pub cover-loop-g-preserved : goal.cover-loop-g-preserved
cover-loop-g-preserved t c =
    linked_next c.loop-g.invariant c.in-Some.ensures.steps.1 (cover-bounds-edges-g t c) c.members-group.ensures c.hosts-row.ensures

pub cover-returns : goal.cover-returns
cover-returns t c =
    covering_all c.groups_of-heads.ensures c.loop-g.invariant c.in-None.ensures.steps.0 c.assign.ensures

pub decide-returns-then-task : goal.decide-returns-then-task
decide-returns-then-task t c = decided_last (omega (arith, c.if-task.true, c.requires.deep)) c.staffed.ensures

pub decide-returns : goal.decide-returns
decide-returns t c = rw c.is_some.ensures (decided_covering _ c.if-task.false c.requires.below c.cover.ensures)

pub hosts-returns-then-task : goal.hosts-returns-then-task
hosts-returns-then-task t c =
    let p = c.requires in
    hosted_last p.0.below p.1 c.candidates-row.ensures c.if-task.true

pub hosts-returns-then-without-eq0 : goal.hosts-returns-then-without-eq0
hosts-returns-then-without-eq0 t c =
    let p = c.requires in
    hosted_single p.0.below p.1 c.candidates-row.ensures c.without.result c.without.ensures c.if-without-eq0.true

pub hosts-loop-v-preserved-then-not-decide : goal.hosts-loop-v-preserved-then-not-decide
hosts-loop-v-preserved-then-not-decide t c =
    hosting_skip c.loop-v.invariant c.in-Some.ensures.steps.1 c.decide.ensures (not-true _ (ap not c.if-not-decide.true))

pub hosts-loop-v-preserved : goal.hosts-loop-v-preserved
hosts-loop-v-preserved t c =
    hosting_take c.loop-v.invariant c.in-Some.ensures.steps.1 c.decide.ensures (not-false _ (ap not c.if-not-decide.false)) c.with-found.ensures

pub hosts-returns : goal.hosts-returns
hosts-returns t c =
    let p = c.requires in
    hosted_tried p.0.below p.1 c.candidates-row.ensures c.loop-v.invariant c.in-None.ensures.steps.0
