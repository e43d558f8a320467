-- A plan with everyone present, and then the sizes. Assumes nothing.
use mathlib.Core.Path.{refl, sym, ◌∙◌}
use Rattle.resiliency.proofs.Knowing.{found_people}
use Rattle.resiliency.proofs.Sizes.{spare_none, spare-walk, known_first}
use Rattle.resiliency.proofs.count.spare_count.Goals as goal

pub returns-in_default : goal.returns-in_default
returns-in_default c = (spare_none c.args.cap c.in_default.ensures.0, tt)

pub keep_plan-requires : goal.keep_plan-requires
keep_plan-requires c = (
  c.requires.0.tabled.given.ruled.few_steps,
  c.in-Some.ensures.0.0,
  found_people c.in-Some.plan c.in-Some.ensures.0 c.requires.0.tabled.given.few_people,
  refl,
  refl,
)

pub sizes-requires : goal.sizes-requires
sizes-requires c =
    let p = c.requires in (
      p.0,
      p.1,
      p.2,
      record {
        known = known_first c.in-Some.plan c.in-Some.ensures.0 p.0.tabled.given.few_people c.keep_plan.ensures;
        weights = c.in-Some.ensures.1;
      },
    )

pub returns : goal.returns
returns c = (c.sizes.ensures.0 ∙ sym (spare-walk c.in-Some.plan c.args.cap c.in-Some.ensures.0), c.sizes.ensures.1)
