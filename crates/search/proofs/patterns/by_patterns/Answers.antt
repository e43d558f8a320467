-- `search::patterns::by_patterns` meets its contract. Assumes nothing.
use mathlib.Core.Bool.{not}
use mathlib.Core.List.{List}
use mathlib.Core.Path.{refl, sym, ap}
use Prim.Native.Nat.{ℕ, ◌*◌}
use Rattle.std.specs.Prelude.{None, Some}
use Rattle.workflow.specs.Same.{SamePlans}
use Rattle.workflow.proofs.Same.{same_trans}
use Rattle.levels.specs.declared.Tables.{Tables}
use Rattle.levels.specs.Tabled.{tabled_job, Ready}
use Rattle.levels.proofs.Crowds.{given_gathered}
use Rattle.levels.proofs.Nested.{nested_number, nested_given, nested_same}
use Rattle.pattern.specs.Given.{Classed, Nest}
use Rattle.pattern.specs.Nesting.{Nesting}
use Rattle.pattern.specs.Tables.{class_in, may_in, nested_job}
use Rattle.pattern.proofs.Classes.{numbered_classed, numbered_same, classed_table}
use Rattle.pattern.proofs.Nested.{nested_small}
use Rattle.realize.specs.Parts.{Offers, Reachable}
use Rattle.realize.proofs.Reach.{reachable_offers}
use Rattle.search.specs.Existence.{Existence}
use Rattle.search.proofs.Ends.{blank, all_below, finished_sized, existence_unstaffed, existence_ruled_out, start_patterned, reached_start, existence_lost, existence_won, existence_moves}
use Rattle.search.proofs.GreatestLoads.{loads_unmet}
use Rattle.search.proofs.LowerLimits.{limits_unmet}
use Rattle.search.proofs.Node.{rules_among}
use Rattle.search.proofs.Opposing.{existence_opposed}
use Rattle.search.proofs.PairedLoads.{existence_overloaded}
use Rattle.search.proofs.Unmet.{Unmet, existence_short}
use Rattle.search.proofs.patterns.by_patterns.Goals as goal

-- the job by the numbers of its classes
classed : {t : Tables} → Ready t → Classed t.size t.class t.rule
classed r = numbered_classed r.tabled.given r.numbers

module _ {t : Tables} {nest : List ℕ} (r : Ready t) (n : Nesting t.size.people t.size.levels t.class nest) where
  -- the table of what lies inside each class
  given : Nest t.size nest t.rule
  given = nested_given (classed r) n

  -- the job of the tables and the job by what lies inside its classes have the same plans
  same : SamePlans (tabled_job t) (nested_job t.size nest t.rule)
  same = same_trans (numbered_same r.tabled.given r.numbers) (nested_same (classed r) n)

  module _ {may reach : List ℕ} (reachable : Reachable t.size.people t.class may (t.size.levels * 12) reach) where
    -- the table of the classes with somebody for each step
    offers : Offers (nested_job t.size nest t.rule) may reach
    offers = reachable_offers (λ q p d l. sym (nested_number (classed r) n q p d l)) reachable

    -- a rule that no classes with somebody for the steps meet
    short : Unmet t.size.steps t.size.rules t.rule reach → Existence (tabled_job t) (may_in may) None
    short u = existence_moves same (may_in may) None (existence_short given.ruled (nested_small given) may offers u)

pub returns-then-opposed : goal.returns-then-opposed
returns-then-opposed c =
    let t = c.args.tables.now in (
      existence_opposed t.size t.crowd t.rule (c.opposed.ensures c.if-opposed.true t.size.steps c.requires.0.tabled.given.ruled.scopes) (may_in c.args.may.now),
      c.requires.2,
    )

pub returns-then-not-staffed : goal.returns-then-not-staffed
returns-then-not-staffed c =
    (existence_unstaffed c.requires.0.tabled.given.ruled c.args.may.now c.staffed.result c.staffed.ensures (ap not c.if-not-staffed.true), c.requires.2)

pub eligible-requires : goal.eligible-requires
eligible-requires c =
    let g = c.requires.0.tabled.given in
    rules_among g.ruled c.args.may.now 0 blank c.below.result (start_patterned {class = class_in c.args.tables.now.crowd} g.ruled c.args.may.now blank refl)
    (all_below c.below.ensures)

pub returns-then-not-eligible : goal.returns-then-not-eligible
returns-then-not-eligible c = (
  existence_ruled_out c.requires.0.tabled.given.ruled c.args.may.now c.requires.0.tabled.given.refining blank c.below.result c.below.ensures
      c.eligible.result c.eligible.ensures (ap not c.if-not-eligible.true),
  c.requires.2,
)

pub nests-nest-requires : goal.nests-nest-requires
nests-nest-requires c =
    let r = c.requires.0 in
    let g = r.tabled.given in
    (g.few_people, g.ruled.few_levels, r.numbers.sized, given_gathered g r.numbers)

pub reaches-reach-requires : goal.reaches-reach-requires
reaches-reach-requires c =
    (c.requires.0.tabled.given.ruled.few_levels, classed_table (classed c.requires.0), c.nests-nest.ensures, c.requires.1)

pub limits_reached-requires : goal.limits_reached-requires
limits_reached-requires c = (c.requires.0.tabled.given.ruled, c.reaches-reach.ensures.sized)

pub returns-then-not-limits_reached : goal.returns-then-not-limits_reached
returns-then-not-limits_reached c =
    let l = c.limits_reached in
    (short c.requires.0 c.nests-nest.ensures c.reaches-reach.ensures (limits_unmet l.result l.ensures (ap not c.if-not-limits_reached.true)), c.requires.2)

pub loads_fit-requires : goal.loads_fit-requires
loads_fit-requires c = (c.requires.0.tabled.given.ruled, c.reaches-reach.ensures.sized)

pub returns-then-not-loads_fit : goal.returns-then-not-loads_fit
returns-then-not-loads_fit c =
    let l = c.loads_fit in
    (short c.requires.0 c.nests-nest.ensures c.reaches-reach.ensures (loads_unmet l.result l.ensures (ap not c.if-not-loads_fit.true)), c.requires.2)

pub pairs_fit-requires : goal.pairs_fit-requires
pairs_fit-requires c =
    let p = c.requires.0 in
    (p.tabled.given.ruled, p.tabled.given.few_people, p.numbers.sized, c.reaches-reach.ensures.sized)

pub returns-then-not-pairs_fit : goal.returns-then-not-pairs_fit
returns-then-not-pairs_fit c =
    let n = c.nests-nest.ensures in
    let g = given c.requires.0 n in (
      existence_moves (same c.requires.0 n) (may_in c.args.may.now) None
          (existence_overloaded g.ruled (nested_small g) c.args.may.now (offers c.requires.0 n c.reaches-reach.ensures) c.args.tables.now.class
          (nested_number (classed c.requires.0) n) c.pairs_fit.result c.pairs_fit.ensures (ap not c.if-not-pairs_fit.true)),
      c.requires.2,
    )

pub named-rest-requires : goal.named-rest-requires
named-rest-requires c = let t = c.requires.0.tabled in (t.given.ruled.few_steps, t.naming.sized)

pub find-requires : goal.find-requires
find-requires c =
    let m = c.below in
    let t = c.requires.0.tabled in (
      record {
        tables = record { given = given c.requires.0 c.nests-nest.ensures; naming = t.naming };
        masks = c.requires.1;
        offers = offers c.requires.0 c.nests-nest.ensures c.reaches-reach.ensures;
      },
      c.requires.2,
      reached_start t.given.ruled c.args.may.now c.named-rest.result c.args.tables.now.of blank refl m.result m.ensures c.eligible.result c.eligible.ensures
          (ap not c.if-not-eligible.false) t.naming c.named-rest.ensures,
    )

pub returns-then-not-find : goal.returns-then-not-find
returns-then-not-find c = (
  existence_moves (same c.requires.0 c.nests-nest.ensures) (may_in c.args.may.now) None
      (existence_lost c.requires.0.tabled.given.ruled c.args.may.now blank c.find.result c.find.ensures.0 (ap not c.if-not-find.true)),
  c.find.ensures.1,
)

pub give_first-plan-requires : goal.give_first-plan-requires
give_first-plan-requires c = (c.requires.0.tabled.given.ruled.few_steps, c.requires.1)

pub realize-requires : goal.realize-requires
realize-requires c =
    let o = c.find in (
      finished_sized (given c.requires.0 c.nests-nest.ensures) c.args.may.now o.result c.requires.1 o.ensures.0 (ap not c.if-not-find.false)
          c.reaches-reach.ensures.sized,
      c.requires.0.tabled.given.few_people,
      c.give_first-plan.ensures.sized,
    )

pub returns : goal.returns
returns c =
    let o = c.find in
    let n = c.nests-nest.ensures in (
      existence_moves (same c.requires.0 n) (may_in c.args.may.now) (Some c.realize.new.plan)
          (existence_won (given c.requires.0 n) c.args.may.now (offers c.requires.0 n c.reaches-reach.ensures) c.staffed.result o.result c.staffed.ensures
          (ap not c.if-not-staffed.false) o.ensures.0 (ap not c.if-not-find.false) c.give_first-plan.ensures c.realize.ensures),
      o.ensures.1,
    )
