use mathlib.Core.Bool.{true}
use Rattle.levels.specs.Tabled.{tabled_job}
use Rattle.narrow.specs.Domains.{Narrowed}
use Rattle.narrow.proofs.propagate.propagate.Given as goal

abbrev pub invariant-loop-i : goal.invariant-loop-i
invariant-loop-i l = Narrowed (tabled_job l.tables) l.initial.dom l.dom true

abbrev pub decreases-loop-i : goal.decreases-loop-i
decreases-loop-i l = l.effort
