-- The invariant: those of the rules passed that can be broken are packed. Assumes nothing.
use mathlib.Core.Path.{refl, sym, ◌∙◌}
use native.Mathlib.Omega.{arith}
use borrow.Author.Tests.{not-true, not-false}
use Rattle.tables.proofs.Same.{packed_none, packed_room, packed_out, packed_more, packed_as, packed_all}
use Rattle.tables.proofs.packed.Goals as goal
use Rattle.tables.proofs.packed.Goals.{then-can_break, else-can_break}

pub loop-i-init : goal.loop-i-init
loop-i-init c = packed_none _ _ _ _ _ _ refl

pub can_break-requires : goal.can_break-requires
can_break-requires c = let k = c.requires.0 in (k.few_steps, k.small_scope c.loop-i.i c.loop-i-test.true)

pub packed_rule-requires : goal.packed_rule-requires
packed_rule-requires c =
    let k = c.requires.0 in
    let i = c.loop-i.i in
    (k.small_level i c.loop-i-test.true, k.small_limit i c.loop-i-test.true, k.few_steps, k.small_scope i c.loop-i-test.true)

pub offset_bounds-rule-count : goal.offset_bounds-rule-count
offset_bounds-rule-count c =
    omega (arith, packed_room _ _ _ _ _ _ _ _ c.loop-i.invariant (omega (arith, c.loop-i-test.true, c.requires.0.few_rules)))

pub bounds-rule-count : goal.bounds-rule-count
bounds-rule-count c =
    omega (arith, packed_room _ _ _ _ _ _ _ _ c.loop-i.invariant (omega (arith, c.loop-i-test.true, c.requires.0.few_rules)), c.loop-i.invariant.sized)

pub overflow_add-count : goal.overflow_add-count
overflow_add-count c =
    omega (arith, packed_room _ _ _ _ _ _ _ _ c.loop-i.invariant (omega (arith, c.loop-i-test.true, c.requires.0.few_rules)))

pub loop-i-preserved : goal.loop-i-preserved
loop-i-preserved c =
    let v = c.loop-i in
    let k = c.from-kind.ensures in
    elim c.if-can_break.branch [
      | then-can_break w ↦
          packed_as _ _ _ _ _
          (packed_more _ _ _ _ _ _ _ _ v.invariant w.packed_rule.result (omega (arith, c.loop-i-test.true, c.requires.0.few_rules)) (not-true _ (sym (c.can_break.ensures _ k) ∙ w.if-can_break.true)) (w.packed_rule.ensures _ k)) w.rule-is w.count-is
      | else-can_break w ↦
          packed_as _ _ _ _ _ (packed_out _ _ _ _ _ _ _ _ v.invariant (not-false _ (sym (c.can_break.ensures _ k) ∙ w.if-can_break.false))) w.rule-is w.count-is
    ]

pub returns : goal.returns
returns c = packed_all _ _ _ _ _ _ _ _ _ c.loop-i.auto.i-end c.loop-i-test.false c.loop-i.invariant
