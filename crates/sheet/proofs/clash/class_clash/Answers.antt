-- The invariant: the first clash at the levels passed. Assumes nothing.
use Prim.Native.Nat.{ℕ, ◌-◌}
use mathlib.Core.Path.{◌≡◌, sym, ◌∙◌, ap, ap₂}
use native.Mathlib.Omega.{arith}
use lib.ListN.{length}
use Rattle.std.specs.Option.{option_or}
use Rattle.bits.proofs.ColumnLaws.{column_length}
use Rattle.sheet.specs.Cards.{moved_in, moved_at, place_below}
use Rattle.sheet.specs.Read.{first_clash}
use Rattle.sheet.proofs.Either.{moved_none, moved_level, clash_le}
use Rattle.sheet.proofs.Found.{no_place, place_first, place_or}
use Rattle.sheet.proofs.clash.class_clash.Goals as goal

pub loop-q-init : goal.loop-q-init
loop-q-init c = (omega arith, omega arith, no_place (moved_none _ _))

pub level_clash-requires : goal.level_clash-requires
level_clash-requires c =
    let p = c.requires in
    let class = c.args.class.now in
    let few = clash_le c.args.count (moved_in class (c.loop-q.q - 2)) in
    let first = c.unwrap_or-first.ensures ∙ place_first c.loop-q.invariant.2 few in (
      omega (arith, few, first, p.2),
      ap length c.column-below.ensures ∙ column_length class c.loop-q.q p.0 (omega arith) (omega arith),
      ap length c.column-above.ensures ∙ column_length class (c.loop-q.q - 1) p.0 (omega arith) (omega arith),
    )

pub loop-q-preserved : goal.loop-q-preserved
loop-q-preserved c =
    let i = c.loop-q.invariant in
    let class = c.args.class.now in
    let count = c.args.count in
    let below = c.column-below.result in
    let above = c.column-above.result in
    let few = clash_le count (moved_in class (c.loop-q.q - 2)) in
    let first = c.unwrap_or-first.ensures ∙ place_first i.2 few in
    let next = first_clash c.unwrap_or-first.result (moved_at below above) in
    let less = clash_le c.unwrap_or-first.result (moved_at below above) in (
      omega arith,
      omega arith,
      c.or-found.ensures
          ∙ ap₂ option_or c.level_clash.ensures (i.2 ∙ ap (place_below count) (sym first))
          ∙ place_or count c.unwrap_or-first.result next (omega (arith, few, first)) less
          ∙ ap (place_below count)
          (moved_level class count c.loop-q.q c.unwrap_or-first.result next below above i.0 first c.column-below.ensures c.column-above.ensures (λ t. next)),
    )

pub returns : goal.returns
returns c =
    let a = c.args in
    let l = c.loop-q in
    let e : l.q - 2 ≡ a.levels - 2 = omega arith in
    l.invariant.2 ∙ ap (λ (n : ℕ). place_below a.count (first_clash a.count (moved_in a.class.now n))) e
