use mathlib.Core.Path.{◌≡◌}
use Rattle.bits.specs.Below.{any}
use Rattle.sheet.specs.Cards.{moved_at}
use Rattle.sheet.proofs.clash.class_stood.Given as goal

abbrev pub invariant-loop-j : goal.invariant-loop-j
invariant-loop-j l = l.found ≡ any l.j (λ i. moved_at l.below l.above i l.k)
