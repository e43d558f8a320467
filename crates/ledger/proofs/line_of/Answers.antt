-- The invariant: none of the lines passed has the tag. Assumes nothing.
use native.Mathlib.Omega.{arith}
use borrow.Author.Tests.{eq-eqb, ne_eqb}
use Rattle.bits.proofs.Scan.{passed_none, passed_more, passed_found, passed_all}
use Rattle.ledger.proofs.line_of.Goals as goal

pub loop-k-init : goal.loop-k-init
loop-k-init c = passed_none _ _

pub offset_bounds-tag-k : goal.offset_bounds-tag-k
offset_bounds-tag-k c = omega arith

pub bounds-tag-k : goal.bounds-tag-k
bounds-tag-k c = omega arith

pub returns-then-tag-k : goal.returns-then-tag-k
returns-then-tag-k c = passed_found _ _ _ c.loop-k.invariant c.loop-k-test.true (eq-eqb _ _ c.if-tag-k.true)

pub overflow_step-k : goal.overflow_step-k
overflow_step-k c = omega arith

pub loop-k-smaller : goal.loop-k-smaller
loop-k-smaller c = omega arith

pub loop-k-preserved : goal.loop-k-preserved
loop-k-preserved c = passed_more _ _ _ c.loop-k.invariant c.loop-k-test.true (ne_eqb _ _ c.if-tag-k.false)

pub returns : goal.returns
returns c = passed_all _ _ _ c.loop-k.invariant c.loop-k-test.false
