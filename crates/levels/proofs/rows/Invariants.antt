use mathlib.Core.Path.{◌≡◌}
use Prim.Native.Nat.{◌*◌, ◌≤◌, ◌-◌}
use Rattle.bits.specs.Sizes.{class_entries}
use Rattle.bits.proofs.Copied.{Copied}
use Rattle.levels.proofs.Copying.{row_entry}
use Rattle.levels.proofs.rows.Given as goal

abbrev pub invariant-loop-x : goal.invariant-loop-x
invariant-loop-x l = (l.x-end ≡ l.count * 64) × (l.x ≤ l.count * 64) × Copied class_entries l.x (row_entry l.old l.class) l.kept

abbrev pub decreases-loop-x : goal.decreases-loop-x
decreases-loop-x l = l.count * 64 - l.x
