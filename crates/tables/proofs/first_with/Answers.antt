-- The invariant: none of the people passed has the word. Assumes nothing.
use borrow.Author.Tests.{eq-eqb, ne_eqb}
use Rattle.bits.proofs.Scan.{passed_none, passed_more, passed_found, passed_all}
use Rattle.pattern.specs.Number.{first_use}
use Rattle.tables.proofs.first_with.Goals as goal

pub loop-q-init : goal.loop-q-init
loop-q-init c = passed_none _ _

pub returns-then-words-q : goal.returns-then-words-q
unfolding first_use
returns-then-words-q c = passed_found _ _ _ c.loop-q.invariant c.loop-q-test.true (eq-eqb _ _ c.if-words-q.true)

pub loop-q-preserved : goal.loop-q-preserved
loop-q-preserved c = passed_more _ _ _ c.loop-q.invariant c.loop-q-test.true (ne_eqb _ _ c.if-words-q.false)

pub returns : goal.returns
unfolding first_use
returns c = passed_all _ _ _ c.loop-q.invariant c.loop-q-test.false
