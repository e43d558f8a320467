use Rattle.bits.specs.Below.{any}
use Rattle.sheet.specs.Cards.{equal_at}
use Rattle.sheet.specs.Slots.{SlotsMarked}
use Rattle.bits.proofs.Scan.{Passed}
use Rattle.sheet.proofs.clash.tag_clash.Given as goal

abbrev pub invariant-loop-k : goal.invariant-loop-k
invariant-loop-k l = Passed l.count (λ i. any i (λ j. equal_at l.tags j i)) l.k × SlotsMarked l.tags l.k l.marks
