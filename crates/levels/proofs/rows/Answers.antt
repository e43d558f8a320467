-- `levels::rows` meets its contract: the entries passed are copied. Assumes nothing.
use mathlib.Core.Path.{sym, subst}
use Prim.Native.Nat.{ℕ, ◌+◌, ◌/◌, ◌≤◌}
use native.Mathlib.Omega.{arith}
use lib.ListN.{get_or}
use Rattle.bits.specs.Sizes.{most_levels, class_entries}
use Rattle.levels.specs.Trims.{OldLevels}
use Rattle.bits.proofs.Copied.{copied_more}
use Rattle.levels.proofs.Copying.{row_entry, row_to, copied_rows, rows_all}
use Rattle.levels.proofs.rows.Goals as goal
use Rattle.levels.proofs.rows.Goals.{In-loop-x}

pub returns-then-count-levels : goal.returns-then-count-levels
returns-then-count-levels c =
    let all = subst (λ (n : ℕ). OldLevels n c.args.count c.args.old.now) (sym c.if-count-levels.true) c.requires.1 in
    rows_all all c.args.class.now c.requires.2

-- the level of a turn
below : (c : In-loop-x) → get_or c.args.old.now (c.loop-x.x / 64 + 1) 0 ≤ most_levels
below c = omega (arith, row_to c.requires.1 c.loop-x.x c.loop-x-test.true, c.requires.0)

pub loop-x-preserved : goal.loop-x-preserved
loop-x-preserved c =
    let a = c.args in
    let l = c.loop-x in
    (l.invariant.0, omega arith, copied_more class_entries l.x (row_entry a.old.now a.class.now) l.kept (omega (arith, c.requires.1.few)) l.invariant.2)

pub returns : goal.returns
returns c =
    let a = c.args in
    let l = c.loop-x in
    copied_rows a.count l.x a.old.now a.class.now l.kept l.invariant.2 (omega arith)
