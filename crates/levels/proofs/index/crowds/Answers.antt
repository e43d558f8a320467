-- `levels::index::crowds` meets its contract. The invariant: at the last level the people passed have themselves. Assumes nothing.
use mathlib.Core.Path.{◌≡◌, ◌∙◌}
use Prim.Native.Nat.{suc, ◌+◌, ◌*◌, ◌-◌, ◌<◌}
use native.Mathlib.Omega.{arith}
use borrow.Author.Tests.{not-false}
use Rattle.bits.proofs.Says.{says_true}
use Rattle.bits.specs.Sizes.{class_entries}
use Rattle.pattern.proofs.Nesting.{number_is}
use Rattle.levels.proofs.Crowds.{completing_more, completed}
use mathlib.Core.Bool.{not}
use mathlib.Core.Path.{ap}
use Rattle.levels.proofs.index.crowds.Goals as goal
use Rattle.levels.proofs.index.crowds.Goals.{In-loop-p}

index : (c : In-loop-p) → (c.args.levels - 1) * 64 + c.loop-p.p < class_entries
index c = omega (arith, c.requires.0, c.requires.1.few, c.loop-p-test.true, c.if-levels-eq0.false)

pub loop-p-preserved : goal.loop-p-preserved
loop-p-preserved c =
    let l = c.loop-p in (
      omega (arith, c.loop-p-test.true),
      completing_more c.requires.1.few l.p c.with.result c.loop-p-test.true
          (omega (arith, c.requires.0, c.if-levels-eq0.false)) l.invariant.1 c.with.ensures,
    )

pub returns : goal.returns
returns c =
    let l = c.loop-p in
    let a = c.args in
    let n : suc (a.levels - 1) ≡ a.levels = omega (arith, c.if-levels-eq0.false) in
    let m : a.levels - 1 < a.levels = omega arith in
    let own = says_true c.alone.result _ (c.alone.ensures a.levels c.requires.1 m) (not-false _ (ap not c.if-not-alone.false)) in
    completed c.requires.1.few l.p a.levels c.loop-p-test.false n (λ p h. number_is c.requires.1 (a.levels - 1) p m h ∙ own p h) l.invariant.1
