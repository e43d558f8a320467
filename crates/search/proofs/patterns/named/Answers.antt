-- `search::patterns::named` meets its contract: the mask has the steps passed that a rule names. Assumes nothing.
use mathlib.Core.Path.{◌≡◌, subst}
use Prim.Native.Nat.{ℕ}
use native.Mathlib.Omega.{arith}
use Rattle.search.proofs.Staff.{named_skip, named_take}
use Rattle.search.specs.Existence.{Named}
use Rattle.search.proofs.patterns.named.Goals as goal

pub loop-s-preserved-then-of-s-eq0 : goal.loop-s-preserved-then-of-s-eq0
loop-s-preserved-then-of-s-eq0 c = (omega arith, named_skip c.loop-s.invariant.1 c.if-of-s-eq0.true)

pub loop-s-preserved : goal.loop-s-preserved
loop-s-preserved c = (omega arith, named_take c.loop-s.invariant.1 c.with-all.ensures)

pub returns : goal.returns
returns c =
    let l = c.loop-s in
    let n = c.args.steps in
    let e : l.s ≡ n = omega arith in
    subst (λ (k : ℕ). Named k c.args.of.now l.all) e l.invariant.1
