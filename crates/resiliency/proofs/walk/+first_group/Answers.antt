-- The invariant: the groups that go on with one of the people passed leave a plan. Assumes nothing.
use mathlib.Core.Path.{sym, subst}
use Prim.Native.Nat.{ℕ, ◌-◌}
use native.Mathlib.Omega.{arith}
use Rattle.levels.specs.Tabled.{tabled_job}
use Rattle.pattern.specs.Tables.{may_in}
use Rattle.resiliency.specs.Group.{members_in}
use Rattle.resiliency.specs.Onward.{FirstFrom}
use Rattle.resiliency.proofs.Onward.{passed_none, turn_none, turn_spared, turn_found, turns_end}
use Rattle.resiliency.proofs.walk.+first_group.Goals as goal

pub last_member-requires : goal.last_member-requires
last_member-requires t c =
    let p = c.requires in (p.0, p.1, p.2, p.3, omega (arith, p.5, c.if-more-eq1.true), p.6)

pub returns-then-more-eq1 : goal.returns-then-more-eq1
returns-then-more-eq1 t c = (
  c.last_member.ensures.0,
  subst (λ (k : ℕ). FirstFrom (tabled_job c.args.tables.now) (may_in c.args.may.now) (members_in c.args.away) c.args.from k c.last_member.result)
      (sym c.if-more-eq1.true) c.last_member.ensures.1,
)

pub loop-p-init : goal.loop-p-init
loop-p-init t c =
    (c.requires.2, passed_none (tabled_job c.args.tables.now) (may_in c.args.may.now) (members_in c.args.away) c.args.from (c.args.more - 1), c.spared_by-spared.ensures)

pub first_group-found-requires : goal.first_group-found-requires
first_group-found-requires t c =
    let p = c.requires in
    let s = c.and.ensures.1 in
    let d = c.if-more-eq1.false in (
      omega (arith, p.4, c.decreases),
      (
        p.0,
        p.1,
        c.loop-p.invariant.0,
        c.and.ensures.0,
        omega (arith, p.4),
        omega (arith, p.5, p.4),
        omega (arith, c.loop-p-test.true),
      ),
    )

pub returns-in-Some : goal.returns-in-Some
returns-in-Some t c = (
  c.first_group-found.ensures.0,
  turn_found (tabled_job c.args.tables.now) (may_in c.args.may.now) (members_in c.args.away) c.args.from c.args.more c.loop-p.p c.in-Some.group
      c.and.ensures.2 c.loop-p.auto.p c.loop-p-test.true c.requires.4 c.loop-p.invariant.1 c.in-Some.ensures.1,
)

pub loop-p-preserved : goal.loop-p-preserved
loop-p-preserved t c = (
  c.first_group-found.ensures.0,
  turn_none (tabled_job c.args.tables.now) (may_in c.args.may.now) (members_in c.args.away) c.args.from c.args.more c.loop-p.p c.and.ensures.2
      c.loop-p.invariant.1 c.in_default.ensures.1,
  c.spared_by-spared-in-loop-p.ensures,
)

pub loop-p-preserved-then-all_spared : goal.loop-p-preserved-then-all_spared
loop-p-preserved-then-all_spared t c =
    let i = c.loop-p.invariant in (
      i.0,
      turn_spared (tabled_job c.args.tables.now) (may_in c.args.may.now) (members_in c.args.away) c.args.from c.args.more c.loop-p.p c.if-more-eq2.true
          (omega (arith, c.loop-p-test.true, c.requires.0.tabled.given.few_people)) i.0.known c.requires.3.people i.2 (c.all_spared.ensures c.if-all_spared.true) i.1,
      i.2,
    )

pub returns : goal.returns
returns t c = (
  c.loop-p.invariant.0,
  turns_end (tabled_job c.args.tables.now) (may_in c.args.may.now) (members_in c.args.away) c.args.from c.args.more c.loop-p.p c.loop-p-test.false
      c.requires.4 c.loop-p.invariant.1,
)
