-- Four bytes as a number. Assumes nothing.
use mathlib.Core.List.{List}
use mathlib.Core.Path.{◌≡◌, ap}
use Prim.Native.Nat.{ℕ, ◌+◌, ◌*◌}
use native.Mathlib.Omega.{arith}
use Rattle.bits.specs.Word.{byte_at, long_at}

pub long_of : (s : List ℕ) (i a b c d : ℕ) → a ≡ byte_at s i → b ≡ byte_at s (i + 1) → c ≡ byte_at s (i + 2) → d ≡ byte_at s (i + 3)
    → a + 256 * b + 65536 * c + 16777216 * d ≡ long_at s i
long_of s i a b c d e f g h =
    let k : i + 2 + 1 ≡ i + 3 = omega arith in
    let l : byte_at s (i + 2 + 1) ≡ byte_at s (i + 3) = ap (byte_at s) k in
    omega arith
