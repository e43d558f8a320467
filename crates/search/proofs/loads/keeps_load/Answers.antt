-- `search::loads::keeps_load` meets its contract. Assumes nothing.
use mathlib.Core.Path.{sym, subst}
use Rattle.std.specs.Prelude.{is_some}
use Prim.Native.Nat.{ℕ, ◌-◌, ◌/◌, ◌^◌, ◌<◌}
use native.Mathlib.Omega.{arith}
use Rattle.pattern.specs.Rule.{level_in, load_in, scope_in}
use Rattle.search.proofs.GreatestLoads.{width_room, none_above, keeping, keeping_unknown}
use Rattle.search.specs.Loads.{KeepsLoad}
use Rattle.search.proofs.loads.keeps_load.Goals as goal

pub returns-then-load-lt2 : goal.returns-then-load-lt2
returns-then-load-lt2 c =
    let a = c.args in
    keeping_unknown a.steps a.reach.now (level_in a.r - 1) (scope_in a.r) (load_in a.r)

pub returns-then-all-low : goal.returns-then-all-low
returns-then-all-low c =
    let a = c.args in
    keeping_unknown a.steps a.reach.now (level_in a.r - 1) (scope_in a.r) (load_in a.r)

pub returns : goal.returns
returns c =
    let a = c.args in
    let load = c.load-load.result in
    let q = c.level-q.result - 1 in
    let scope = c.scope-scope.result in
    let found = is_some c.assign.result in
    rw c.is_some.ensures
    (subst (λ (x : ℕ). KeepsLoad a.steps a.reach.now (x - 1) (scope_in a.r) (load_in a.r) found) c.level-q.ensures.0
    (subst (λ (x : ℕ). KeepsLoad a.steps a.reach.now q x (load_in a.r) found) c.scope-scope.ensures
    (subst (λ (x : ℕ). KeepsLoad a.steps a.reach.now q scope x found) c.load-load.ensures.0
    (keeping a.steps a.reach.now q scope load (subst (λ (x : ℕ). x < 2 ^ a.steps) (sym c.scope-scope.ensures) c.requires.4) c.classes_of-all.ensures
    (none_above c.classes_of-all.result c.below-low.result (64 / load) c.below-low.ensures c.if-all-low.false) (width_room c.load-load.result (omega (arith, c.if-load-lt2.false)) (omega (arith, c.load-load.ensures.1))).1 c.places_of-edges.ensures
    c.assign.ensures))))
