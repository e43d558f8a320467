-- The invariants: the class levels passed have their numbers; then the people passed have theirs at the last level. Assumes nothing.
use native.Mathlib.Omega.{arith}
use Prim.Native.Nat.{ℕ, ◌*◌, ◌-◌, ◌<◌}
use mathlib.Core.Path.{◌≡◌, refl, subst}
use borrow.Author.Rules.{rules}
use Rattle.bits.specs.Sizes.{most_class_levels, most_levels}
use Rattle.tables.proofs.Numbers.{LevelsOf, levels_none, levels_more, people_none, people_more, classes_all}
use Rattle.tables.proofs.classes.Goals as goal
use Rattle.tables.proofs.classes.Goals.{After-level-1, In-loop-p}

pub loop-q-init : goal.loop-q-init
loop-q-init c = (omega arith, omega arith, levels_none _ _ c.requires.3 _ refl)

pub overflow_add-q : goal.overflow_add-q
overflow_add-q c = omega arith

pub column-level-requires : goal.column-level-requires
column-level-requires c = let s = c.requires in (s.0, omega arith, omega (arith, s.2, c.loop-q.invariant.0, c.loop-q-test.true))

-- the level of a turn is a class level
below : (c : After-level-1) → c.loop-q.q < most_class_levels
below c = omega (arith, c.requires.2, c.loop-q.invariant.0, c.loop-q-test.true)

pub overflow_mul-q : goal.overflow_mul-q
overflow_mul-q c = omega (arith, below c)

pub number_level-requires : goal.number_level-requires
number_level-requires c =
    let s = c.requires in
    let b = below c.before in
    (search rules, s.3, omega arith, c.loop-q.invariant.2.size)

pub overflow_step-q : goal.overflow_step-q
overflow_step-q c = omega (arith, below c.before.before.before)

pub loop-q-smaller : goal.loop-q-smaller
loop-q-smaller c = omega (arith, c.loop-q-test.true)

pub loop-q-preserved : goal.loop-q-preserved
loop-q-preserved c =
    let l = c.loop-q in (
      l.invariant.0,
      omega (arith, c.loop-q-test.true),
      levels_more _ _ c.requires.3 l.q (l.q * 64) _ _ _ l.invariant.2 refl c.column-level.ensures c.number_level.ensures,
    )

pub loop-p-init : goal.loop-p-init
loop-p-init c =
    let i = c.loop-q.invariant in
    let e : c.loop-q.q ≡ c.args.levels - 1 = omega (arith, c.loop-q-test.false, i.1) in
    (i.0, omega arith, people_none _ _ c.requires.3 (c.args.levels - 1) _ (subst (λ (n : ℕ). LevelsOf c.args.words.now c.args.people n c.loop-q.class) e i.2))

-- the person of a turn, and the last level, have their places
person : (c : In-loop-p) → c.loop-p.p < 64
person c = omega (arith, c.loop-p-test.true, c.requires.3)

last-level : (c : In-loop-p) → c.args.levels - 1 < most_levels
last-level c = let s = c.requires in omega (arith, s.1, s.2)

pub overflow_cast-class : goal.overflow_cast-class
overflow_cast-class c = omega (arith, person c)

pub overflow_mul-class : goal.overflow_mul-class
overflow_mul-class c = omega (arith, last-level c)

pub overflow_add-class : goal.overflow_add-class
overflow_add-class c = omega (arith, person c, last-level c)

pub bounds-class-last : goal.bounds-class-last
bounds-class-last c = omega (arith, person c, last-level c)

pub overflow_step-p : goal.overflow_step-p
overflow_step-p c = omega (arith, person c)

pub loop-p-smaller : goal.loop-p-smaller
loop-p-smaller c = omega (arith, c.loop-p-test.true)

pub loop-p-preserved : goal.loop-p-preserved
loop-p-preserved c = (
  c.loop-p.invariant.0,
  omega (arith, c.loop-p-test.true),
  people_more _ _ c.requires.3 (c.args.levels - 1) c.loop-p.p _ (last-level c) (person c) c.loop-p.invariant.2,
)

pub returns : goal.returns
returns c =
    classes_all c.args.words.now c.args.people c.requires.3 c.args.levels (c.args.levels - 1) c.loop-p.p c.loop-p.class c.loop-p.invariant.0
    c.loop-p-test.false c.loop-p.invariant.2
