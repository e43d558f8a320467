-- `card::long` meets its contract: two words side by side. Assumes nothing.
use Rattle.bits.specs.Word.{word_at}
use native.Mathlib.Omega.{arith}
use Prim.Native.Nat.{◌+◌, ◌*◌}
use mathlib.Core.Path.{◌≡◌, ap}
use Rattle.card.proofs.long.Goals as goal

pub returns : goal.returns
returns c =
    let a = c.args in
    let x : 16 * a.card + (a.k + 2) ≡ 16 * a.card + a.k + 2 = omega arith in
    (cc (ap (word_at a.s.now) x), omega arith)
