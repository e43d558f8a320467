-- The invariant: the words of the people passed have the plan in front. Assumes nothing.
use mathlib.Core.Path.{sym, ◌∙◌}
use native.Mathlib.Omega.{arith}
use lib.ListN.{get_or}
use Rattle.resiliency.proofs.Knowing.{half_fits, noted_none, noted_in, noted_out, noted_all}
use Rattle.resiliency.proofs.known.note.Goals as goal

pub loop-p-init : goal.loop-p-init
loop-p-init c = (omega arith, noted_none _ _ c.requires)

pub offset_bounds-known-p : goal.offset_bounds-known-p
offset_bounds-known-p c = omega arith

pub bounds-known-p : goal.bounds-known-p
bounds-known-p c = omega arith

pub overflow_mul-moved : goal.overflow_mul-moved
overflow_mul-moved c = omega (arith, half_fits (get_or c.loop-p.known c.loop-p.p 0))

pub has-requires : goal.has-requires
has-requires c = omega arith

pub offset_bounds-known-p-then-has : goal.offset_bounds-known-p-then-has
offset_bounds-known-p-then-has c = omega arith

pub bounds-known-p-then-has : goal.bounds-known-p-then-has
bounds-known-p-then-has c = omega arith

pub overflow_step-p : goal.overflow_step-p
overflow_step-p c = omega arith

pub loop-p-smaller-then-has : goal.loop-p-smaller-then-has
loop-p-smaller-then-has c = omega arith

pub loop-p-preserved-then-has : goal.loop-p-preserved-then-has
loop-p-preserved-then-has c = let l = c.loop-p in (omega arith, noted_in _ _ l.p l.known (omega arith) l.invariant.1)

pub overflow_add-known : goal.overflow_add-known
overflow_add-known c = omega (arith, half_fits (get_or c.loop-p.known c.loop-p.p 0))

pub offset_bounds-known-p-in-loop-p : goal.offset_bounds-known-p-in-loop-p
offset_bounds-known-p-in-loop-p c = omega arith

pub bounds-known-p-in-loop-p : goal.bounds-known-p-in-loop-p
bounds-known-p-in-loop-p c = omega arith

pub overflow_step-p-in-loop-p : goal.overflow_step-p-in-loop-p
overflow_step-p-in-loop-p c = omega arith

pub loop-p-smaller : goal.loop-p-smaller
loop-p-smaller c = omega arith

pub loop-p-preserved : goal.loop-p-preserved
loop-p-preserved c =
    let l = c.loop-p in
    (omega arith, noted_out _ _ l.p l.known (omega arith) l.invariant.1 (sym c.has.ensures ∙ c.if-has.false))

pub returns : goal.returns
returns c = noted_all _ _ _ _ c.loop-p.invariant.0 c.loop-p-test.false c.loop-p.invariant.1
