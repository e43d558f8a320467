-- `search::pairs::room_of` meets its contract. The loop's invariant: the places passed are in the room where their class has them. Assumes nothing.
use mathlib.Core.Path.{subst}
use Prim.Native.Nat.{ℕ, ◌*◌, ◌/◌, ◌≤◌}
use native.Mathlib.Omega.{arith}
use Rattle.search.proofs.PairedLoads.{room_past, room_more, room_all}
use Rattle.search.proofs.pairs.room_of.Goals as goal

pub loop-x-preserved-then-size-load : goal.loop-x-preserved-then-size-load
loop-x-preserved-then-size-load c =
    let a = c.args in
    let few = subst (λ (y : ℕ). y * a.load ≤ c.loop-x.x / a.width) c.size.ensures.0 c.if-size-load.true in
    (omega arith, room_past a.within.now a.all a.load a.width c.loop-x.x c.loop-x.room few c.loop-x.invariant.1)

pub loop-x-preserved : goal.loop-x-preserved
loop-x-preserved c =
    let a = c.args in
    (omega arith, room_more a.within.now a.all a.load a.width c.loop-x.x c.loop-x.invariant.1 c.with-room.ensures)

pub returns : goal.returns
returns c =
    let a = c.args in
    let l = c.loop-x in
    room_all a.within.now a.all a.load a.width 64 l.x l.room c.loop-x-test.false l.invariant.1
