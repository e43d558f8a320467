-- `search::patterns::give_first` meets its contract: the steps passed have their first people. Assumes nothing.
use mathlib.Core.Path.{subst}
use native.Mathlib.Omega.{arith}
use Rattle.search.specs.Existence.{Foremost}
use Rattle.search.proofs.Staff.{spread_more, spread_past}
use Rattle.search.proofs.patterns.give_first.Goals as goal

pub loop-s-preserved : goal.loop-s-preserved
loop-s-preserved c =
    let l = c.loop-s in
    (omega arith, spread_more l.s c.args.may.now l.plan l.invariant.1 c.in-Some.p (omega arith) (subst (Foremost _) c.in-Some.is c.foremost.ensures).1)

pub loop-s-preserved-in_default : goal.loop-s-preserved-in_default
loop-s-preserved-in_default c =
    let l = c.loop-s in
    (omega arith, spread_past l.s c.args.may.now l.plan l.invariant.1 (subst (Foremost _) c.in_default.is c.foremost.ensures))

pub returns : goal.returns
returns c = record { sized = c.loop-s.invariant.1.sized; each = λ s l. c.loop-s.invariant.1.each s (omega arith) }
