-- The invariant: the classes of the people passed have their numbers, and so many are met. Assumes nothing.
use native.Mathlib.Omega.{arith}
use Prim.Native.Nat.{ℕ}
use mathlib.Core.Path.{◌≡◌, subst, ◌∙◌}
use Rattle.bits.proofs.SlotLaws.{firsts_none}
use Rattle.tables.specs.Arrays.{LevelNumbered}
use Rattle.tables.proofs.Numbers.{met_none, met_few, one_more, as_many, level_none, level_before, level_more}
use Rattle.tables.proofs.number_level.Goals as goal
use Rattle.tables.proofs.number_level.Goals.{then-enter_class, else-enter_class}

pub loop-p-init : goal.loop-p-init
loop-p-init c = (omega arith, met_none _, firsts_none _, level_none _ _ _ _ c.requires.3)

pub enter_class-requires : goal.enter_class-requires
enter_class-requires c =
    let i = c.loop-p.invariant in
    let s = c.requires in
    record { words_len = (s.0, c.loop-p-test.true, s.1, i.2); top_bound = (s.2, i.1, level_before i.3) }

pub overflow_add-met : goal.overflow_add-met
overflow_add-met c =
    omega (arith, met_few _ _ _ c.loop-p.invariant.1, c.requires.1, c.loop-p-test.true)

pub overflow_step-p : goal.overflow_step-p
overflow_step-p c = omega (arith, c.loop-p-test.true, c.requires.1)

pub loop-p-smaller : goal.loop-p-smaller
loop-p-smaller c = omega (arith, c.loop-p-test.true)

pub loop-p-preserved : goal.loop-p-preserved
loop-p-preserved c =
    let l = c.loop-p-test.true in
    let i = c.loop-p.invariant in
    let e = c.enter_class.ensures in (
      omega (arith, l),
      elim c.if-enter_class.branch [
        | then-enter_class w ↦ w.met-is ∙ one_more _ _ _ _ l i.1 _ e.0 w.if-enter_class.true
        | else-enter_class w ↦ w.met-is ∙ as_many _ _ _ _ l i.1 _ e.0 w.if-enter_class.false
      ],
      e.2,
      level_more i.3 e.1,
    )

pub returns : goal.returns
returns c =
    let a = c.args in
    let e : c.loop-p.p ≡ a.people = omega (arith, c.loop-p-test.false, c.loop-p.invariant.0) in
    subst (λ (n : ℕ). LevelNumbered a.words.now a.people a.top n a.class.now c.loop-p.class) e c.loop-p.invariant.3
