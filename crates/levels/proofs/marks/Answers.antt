-- `levels::marks` meets its contract: the levels of the rules passed are marked. Assumes nothing.
use native.Mathlib.Omega.{arith}
use Rattle.levels.proofs.Numbering.{marks_more}
use Rattle.levels.proofs.marks.Goals as goal

pub loop-i-preserved : goal.loop-i-preserved
loop-i-preserved c =
    let v = c.level in
    let l = c.loop-i in
    (omega arith, marks_more l.i l.all v.result c.with-all.result c.args.rule.now v.ensures.0 c.with-all.ensures l.invariant.1)

pub returns : goal.returns
returns c = λ i l. c.loop-i.invariant.1 i (omega arith)
