-- `card::word` meets its contract: two bytes side by side. Assumes nothing.
use Rattle.bits.specs.Word.{byte_at}
use native.Mathlib.Omega.{arith}
use Prim.Native.Nat.{◌+◌, ◌*◌}
use mathlib.Core.Path.{◌≡◌, ap}
use Rattle.card.proofs.word.Goals as goal

pub returns : goal.returns
returns c =
    let a = c.args in
    let x : 16 * a.card + (a.k + 1) ≡ 16 * a.card + a.k + 1 = omega arith in
    (cc (ap (byte_at a.s.now) x), omega arith)
