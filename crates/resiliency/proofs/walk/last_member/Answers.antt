-- The invariant: everyone who is not in the rest may be away. Assumes nothing.
use mathlib.Core.Path.{refl}
use native.Mathlib.Omega.{arith}
use Rattle.bits.proofs.Masks.{taken_part_less}
use Rattle.levels.specs.Tabled.{tabled_job}
use Rattle.pattern.specs.Tables.{may_in}
use Rattle.resiliency.specs.Group.{members_in}
use Rattle.resiliency.proofs.Lasts.{trying_start, trying_next, trying_found, trying_end, range_above}
use Rattle.resiliency.proofs.Members.{suits_group, members_count}
use Rattle.resiliency.proofs.Onward.{last_all, last_first}
use Rattle.resiliency.proofs.walk.last_member.Goals as goal

pub below-requires : goal.below-requires
below-requires c = omega (arith, c.requires.5, c.requires.0.tabled.given.few_people)

pub below-requires-2 : goal.below-requires-2
below-requires-2 c = omega (arith, c.requires.5, c.requires.0.tabled.given.few_people)

pub loop-p-init : goal.loop-p-init
loop-p-init c =
    let k = c.requires.2 in
    rw c.members-rest.ensures
    (trying_start k.known k.weights c.requires.5
    (suits_group k.known (members_in c.args.away) c.set-people.result c.spared_by.result c.requires.3.people c.set-people.ensures c.spared_by.ensures)
    (range_above c.requires.5 c.below.ensures c.below-2.ensures) c.needed.ensures)

pub searched-stands-requires : goal.searched-stands-requires
searched-stands-requires c =
    (c.requires.0, c.requires.1, record { known = c.loop-p.invariant.known; weights = c.loop-p.invariant.weights })

pub loop-p-smaller : goal.loop-p-smaller
loop-p-smaller c = taken_part_less c.in-Some.ensures.steps.1 _

pub loop-p-preserved : goal.loop-p-preserved
loop-p-preserved c =
    trying_next c.loop-p.invariant c.in-Some.ensures.steps.1 c.with.ensures c.in-Some-stands.ensures refl

pub returns-in_default-stands : goal.returns-in_default-stands
returns-in_default-stands c =
    let s = trying_found c.loop-p.invariant c.in-Some.ensures.steps.1 c.with.ensures c.in_default-stands.ensures refl in
    let n = members_count c.args.away c.requires.3 in (
      record { known = s.known; weights = s.weights },
      last_first (tabled_job c.args.tables.now) (may_in c.args.may.now) (members_in c.args.away) c.args.from c.and.result c.set-people.ensures.each s
          (c.loop-p.invariant.within c.in-Some.p c.in-Some.ensures.steps.1.lowest.has).1
          c.and.ensures.0 (omega (arith, n, c.and.ensures.1)) c.and.ensures.2,
    )

pub returns : goal.returns
returns c =
    let s = trying_end c.loop-p.invariant c.in_default.ensures.steps.0 in (
      record { known = s.known; weights = s.weights },
      last_all (tabled_job c.args.tables.now) (may_in c.args.may.now) (members_in c.args.away) c.args.from c.set-people.ensures.each s,
    )
