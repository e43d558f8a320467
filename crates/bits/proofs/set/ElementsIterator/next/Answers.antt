-- `next` of `impl Iterator for Elements` meets its contract: the lowest element goes, and fewer are left. Assumes nothing.
use Rattle.std.proofs.Common.{rules}
use Rattle.bits.proofs.Masks.{first-and_rest}
use Rattle.bits.proofs.set.ElementsIterator.next.Goals as goal

pub returns-clause-steps : goal.returns-clause-steps
returns-clause-steps g c = (c.lowest-first.ensures.0, first-and_rest c.lowest-first.ensures.1 c.without-self.ensures)

pub returns-clause-goes : goal.returns-clause-goes
returns-clause-goes g c = let less = (first-and_rest c.lowest-first.ensures.1 c.without-self.ensures).less in search rules
