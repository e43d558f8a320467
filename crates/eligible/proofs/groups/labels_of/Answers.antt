-- `eligible::groups::labels_of` meets its contract. Assumes nothing.
use mathlib.Core.Path.{◌≡◌}
use Prim.Native.Nat.{◌%◌, ◌<◌}
use native.Mathlib.Omega.{arith}
use Rattle.std.proofs.Common.{rules}
use Rattle.bits.proofs.SetLaws.{has_below}
use Rattle.pattern.specs.Tables.{label_in}
use Rattle.eligible.proofs.groups.labels_of.Goals as goal

pub label_set-requires : goal.label_set-requires
label_set-requires c =
    let a = c.args in
    record {
      may = λ s h. let below : s < 12 = has_below 12 a.steps s c.requires.below h in let q = c.requires in search rules;
      small = λ s v h p. let is : v ≡ label_in a.label.now a.level s % 64 = search rules in omega arith;
    }
