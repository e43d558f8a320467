use mathlib.Core.Path.{◌≡◌}
use lib.ListN.{length}
use Rattle.levels.specs.Tabled.{tabled_job}
use Rattle.first.proofs.Settling.{Looking}
use Rattle.first.proofs.settle.Given as goal

abbrev pub invariant-loop-q : goal.invariant-loop-q
invariant-loop-q l =
    (length l.weight ≡ 12) × Looking (tabled_job l.tables) l.s l.initial.may l.may l.plan l.q-iterator.left
