-- The invariant: none of the tags passed is the one looked for. Assumes nothing.
use borrow.Author.Tests.{eq-eqb, ne_eqb}
use Rattle.bits.proofs.Scan.{passed_none, passed_more, passed_found, passed_all}
use Rattle.sheet.proofs.Found.{found_place, no_place}
use Rattle.signing.specs.Sign.{place_of}
use Rattle.signing.proofs.place.place_of.Goals as goal

pub loop-k-init : goal.loop-k-init
loop-k-init c = passed_none _ _

pub returns-then-tags-k : goal.returns-then-tags-k
unfolding place_of
returns-then-tags-k c =
    found_place c.loop-k-test.true (passed_found _ _ _ c.loop-k.invariant c.loop-k-test.true (eq-eqb _ _ c.if-tags-k.true))

pub loop-k-preserved : goal.loop-k-preserved
loop-k-preserved c = passed_more _ _ _ c.loop-k.invariant c.loop-k-test.true (ne_eqb _ _ c.if-tags-k.false)

pub returns : goal.returns
unfolding place_of
returns c = no_place (passed_all _ _ _ c.loop-k.invariant c.loop-k-test.false)
