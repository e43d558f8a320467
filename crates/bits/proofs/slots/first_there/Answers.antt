-- A slot without a person gets this one, and another keeps its own. Assumes nothing.
use native.Mathlib.Omega.{arith}
use Rattle.bits.specs.Slots.{slot_of}
use Rattle.bits.proofs.SlotLaws.{none_before_own, firsts_new, none_before_other, firsts_same}
use Rattle.bits.proofs.slots.first_there.Goals as goal

pub overflow_cast-i : goal.overflow_cast-i
overflow_cast-i c = let a = c.args in omega (arith, c.requires.2.below (slot_of a.words.now a.p))

pub returns-then-i-eq0 : goal.returns-then-i-eq0
returns-then-i-eq0 c = let w = c.requires.2 in (none_before_own _ _ _ w c.if-i-eq0.true, firsts_new _ _ _ w c.if-i-eq0.true)

pub returns : goal.returns
returns c = let w = c.requires.2 in (none_before_other _ _ _ w c.if-i-eq0.false, firsts_same _ _ _ w c.if-i-eq0.false)
