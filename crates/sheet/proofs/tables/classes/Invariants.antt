use Prim.Native.Nat.{◌+◌, ◌≤◌, ◌<◌}
use mathlib.Core.Path.{◌≡◌}
use lib.ListN.{length}
use Rattle.card.specs.Fields.{class_place}
use Rattle.sheet.proofs.Columns.{ClassesFilled}
use Rattle.sheet.proofs.tables.classes.Given as goal

abbrev pub invariant-loop-k : goal.invariant-loop-k
invariant-loop-k l = (l.q < l.levels) × (l.at ≡ class_place (l.q + 1)) × (l.at < 15) × (l.k ≤ length l.list) × ClassesFilled l.s l.list (length l.list) l.q l.k l.out

abbrev pub invariant-loop-q : goal.invariant-loop-q
invariant-loop-q l = (l.q ≤ l.levels) × ClassesFilled l.s l.list (length l.list) l.q 0 l.out
