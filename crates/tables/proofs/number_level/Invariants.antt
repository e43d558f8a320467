use Prim.Native.Nat.{◌-◌, ◌≤◌}
use mathlib.Core.Path.{◌≡◌}
use Rattle.bits.specs.Slots.{FirstOfSlot}
use Rattle.pattern.specs.Number.{classes_before}
use Rattle.tables.specs.Arrays.{word_of, LevelNumbered}
use Rattle.tables.proofs.number_level.Given as goal

abbrev pub invariant-loop-p : goal.invariant-loop-p
invariant-loop-p l =
    (l.p ≤ l.people) × (l.met ≡ classes_before (word_of l.words) l.p) × FirstOfSlot l.words l.p l.slots × LevelNumbered l.words l.people l.top l.p l.initial.class l.class

abbrev pub decreases-loop-p : goal.decreases-loop-p
decreases-loop-p l = l.people - l.p
