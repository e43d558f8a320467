use Rattle.bits.specs.Below.{any}
use Rattle.bits.specs.Slots.{FirstOfSlot}
use Rattle.sheet.specs.Cards.{moved_at}
use Rattle.bits.proofs.Scan.{Passed}
use Rattle.sheet.proofs.clash.level_clash.Given as goal

abbrev pub invariant-loop-k : goal.invariant-loop-k
invariant-loop-k l = Passed l.count (λ i. any i (λ j. moved_at l.below l.above j i)) l.k × FirstOfSlot l.below l.k l.firsts
