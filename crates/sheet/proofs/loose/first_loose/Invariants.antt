use Prim.Native.Nat.{◌≤◌}
use mathlib.Core.Bool.{not, ◌||◌}
use lib.Dec.{eqb}
use Rattle.chain.specs.Answer.{marked}
use Rattle.bits.proofs.Scan.{Passed}
use Rattle.sheet.proofs.loose.first_loose.Given as goal

abbrev pub invariant-loop-c : goal.invariant-loop-c
invariant-loop-c l = Passed l.cards (λ i. not (eqb i 0 || marked l.marks i)) l.c × (1 ≤ l.c)
