-- `levels::renumber` meets its contract: the rules passed have their new levels. Assumes nothing.
use mathlib.Core.Path.{subst}
use Prim.Native.Nat.{ℕ, ◌%◌}
use native.Mathlib.Omega.{arith}
use lib.ListN.{get_or}
use Rattle.levels.proofs.Copying.{renumbered_more}
use Rattle.pattern.specs.Rule.{least_in, most_in, load_in, scope_in, Packed}
use Rattle.levels.proofs.renumber.Goals as goal

pub loop-i-preserved : goal.loop-i-preserved
loop-i-preserved c =
    let l = c.loop-i in
    let a = c.args in
    let r = get_or a.rule.now l.i 0 in (
      omega arith,
      renumbered_more l.i c.moved.result a.rule.now a.new.now l.kept (omega (arith, c.requires.0.few_rules))
          (subst (λ (q : ℕ). Packed (get_or a.new.now q 0 % 16) (least_in r) (most_in r) (load_in r) (scope_in r) c.moved.result) c.level-q.ensures.0 c.moved.ensures)
          l.invariant.1,
    )

pub returns : goal.returns
returns c =
    let w = c.loop-i.invariant.1 in
    record { sized = w.sized; each = λ i l. w.each i (omega arith) }
