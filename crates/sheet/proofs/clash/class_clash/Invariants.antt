use Prim.Native.Nat.{◌-◌, ◌≤◌}
use mathlib.Core.Path.{◌≡◌}
use Rattle.sheet.specs.Cards.{moved_in, place_below}
use Rattle.sheet.specs.Read.{first_clash}
use Rattle.sheet.proofs.clash.class_clash.Given as goal

abbrev pub invariant-loop-q : goal.invariant-loop-q
invariant-loop-q l = (2 ≤ l.q) × (l.q - 2 ≤ l.levels - 2) × (l.found ≡ place_below l.count (first_clash l.count (moved_in l.class (l.q - 2))))
