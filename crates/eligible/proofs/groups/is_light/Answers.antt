-- `eligible::groups::is_light` meets its contract: the labels are those of the placed steps of the scope. Assumes nothing.
use mathlib.Core.Bool.{true}
use mathlib.Core.Path.{◌≡◌, sym, subst}
use Prim.Native.Nat.{ℕ, ◌%◌, ◌<◌}
use native.Mathlib.Omega.{arith}
use lib.Bits.{bit_and}
use Rattle.std.proofs.Common.{rules}
use Rattle.bits.specs.Word.{has_bit}
use Rattle.bits.proofs.SetLaws.{and-bit_left, has_below}
use Rattle.pattern.specs.Tables.{label_in}
use Rattle.eligible.specs.Labels.{LabelsReady}
use Rattle.eligible.proofs.Tests.{ready_part, groups_light}
use Rattle.eligible.proofs.groups.is_light.Goals as goal

pub light-requires : goal.light-requires
light-requires c =
    let a = c.args in
    let scope = c.scope.result in
    let ready = ready_part scope (subst (λ (q : ℕ). LabelsReady a.placed q a.label.now) (sym c.level-level.ensures.0) c.requires) in (
      ready.row.below,
      λ s h. subst (λ (m : ℕ). has_bit m s ≡ true) c.scope.ensures (and-bit_left scope a.placed s h),
      record {
        may = λ s h.
            let row = ready.row in
            let below : s < 12 = has_below 12 (bit_and scope a.placed) s row.below h in
            search rules;
        small = λ s v h p. let is : v ≡ label_in a.label.now c.level-level.result s % 64 = search rules in omega arith;
      },
    )

pub returns : goal.returns
returns c =
    let a = c.args in
    let level = c.level-level.result in
    let small = (ready_part c.scope.result (subst (λ (q : ℕ). LabelsReady a.placed q a.label.now) (sym c.level-level.ensures.0) c.requires)).labels in
    λ steps k.
    groups_light a.rule a.placed c.scope.ensures steps k a.label.now c.level-level.ensures.0 c.light.result
    (c.light.ensures steps (label_in a.label.now level) k
    (λ s v h p. let is : v ≡ label_in a.label.now level s % 64 = search rules in omega (arith, small s h)) small)
