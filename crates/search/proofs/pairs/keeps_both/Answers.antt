-- `search::pairs::keeps_both` meets its contract. Assumes nothing.
use mathlib.Core.Path.{sym, subst}
use Prim.Native.Nat.{ℕ, ◌-◌, ◌/◌, ◌^◌, ◌<◌}
use Rattle.std.specs.Prelude.{is_some}
use native.Mathlib.Omega.{arith}
use lib.Bits.{bit_and}
use Rattle.search.proofs.GreatestLoads.{width_room, none_above}
use Rattle.search.proofs.PairedLoads.{kept_all, keeping_both, both_of, both_unknown, both_small}
use Rattle.search.proofs.pairs.keeps_both.Goals as goal

pub returns-then-load-lt2 : goal.returns-then-load-lt2
returns-then-load-lt2 c =
    let a = c.args in
    both_unknown a.size.steps a.size.people a.class.now a.reach.now a.r a.t

pub returns-then-all-low : goal.returns-then-all-low
returns-then-all-low c =
    let a = c.args in
    both_unknown a.size.steps a.size.people a.class.now a.reach.now a.r a.t

pub returns : goal.returns
returns c =
    let a = c.args in
    let scope = bit_and c.scope.result c.scope-2.result in
    let load = c.load-load.result in
    rw c.is_some.ensures
    (both_of a.size.steps a.size.people a.class.now a.reach.now a.r a.t (is_some c.assign.result) c.level-q.ensures.0 c.level-fine.ensures.0
    c.scope.ensures c.scope-2.ensures c.load-load.ensures.0 c.load.ensures.0
    (keeping_both a.size.steps a.size.people a.class.now a.reach.now (c.level-q.result - 1) (c.level-fine.result - 1) scope load c.load.result
    (both_small a.size.steps c.scope.result c.scope-2.result (subst (λ (x : ℕ). x < 2 ^ a.size.steps) (sym c.scope.ensures) c.requires.8))
    c.classes_of-all.ensures (none_above c.classes_of-all.result c.below-low.result (64 / load) c.below-low.ensures c.if-all-low.false) (width_room c.load-load.result (omega (arith, c.if-load-lt2.false)) (omega (arith, c.load-load.ensures.1))).1
    c.inside-within.ensures c.classes_of-finer.ensures c.room_of-room.ensures c.places_of-edges.ensures (kept_all c.places_of-edges.result c.room_of-room.result c.args.size.steps 12 c.kept_to-kept.result c.requires.0 c.kept_to-kept.ensures) c.assign.ensures))
