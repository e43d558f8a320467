-- `instance::figure::first_alike` meets its contract: none of the steps passed has the class. Assumes nothing.
use mathlib.Core.Path.{sym, ◌∙◌}
use native.Mathlib.Omega.{arith}
use borrow.Author.Tests.{eq-eqb, ne_eqb}
use Rattle.bits.proofs.Scan.{passed_none, passed_more, passed_found, passed_all}
use Rattle.instance.proofs.figure.first_alike.Goals as goal

pub class_of-own-requires : goal.class_of-own-requires
class_of-own-requires c = (c.requires.0.classes, c.requires.0.few, c.requires.2 c.args.s (omega arith))

pub loop-t-init : goal.loop-t-init
loop-t-init c = passed_none _ _

pub class_of-requires : goal.class_of-requires
class_of-requires c =
    (c.requires.0.classes, c.requires.0.few, c.requires.2 c.loop-t.t (omega (arith, c.loop-t-test.true)))

pub returns-then-class_of-own : goal.returns-then-class_of-own
returns-then-class_of-own c =
    passed_found _ _ _ c.loop-t.invariant c.loop-t-test.true
    (eq-eqb _ _ (sym c.class_of.ensures ∙ c.if-class_of-own.true ∙ c.class_of-own.ensures))

pub loop-t-preserved : goal.loop-t-preserved
loop-t-preserved c =
    passed_more _ _ _ c.loop-t.invariant c.loop-t-test.true
    (ne_eqb _ _ (λ e. c.if-class_of-own.false (c.class_of.ensures ∙ e ∙ sym c.class_of-own.ensures)))

pub returns : goal.returns
returns c = passed_all _ _ _ c.loop-t.invariant c.loop-t-test.false
