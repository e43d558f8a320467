-- The sheet that a job holds: how its bytes are kept and read back. Assumes nothing.
use mathlib.Core.Bool.{Bool, cond}
use mathlib.Core.List.{List, [], ◌∷◌, ◌++◌, map}
use mathlib.Core.Path.{◌≡◌, refl, ◌∙◌, ap}
use Prim.Native.Nat.{ℕ, ◌-◌, ◌≤◌, ◌<◌}
use native.Mathlib.Omega.{arith}
use lib.Dec.{leb}
use lib.ListN.{length, take}
use lib.Seq.{take_all}
use borrow.Author.Tests.{le-leb, lt-leb, leb-true, leb-false}
use Rattle.bits.proofs.Below.{by_cases}
use Rattle.sheet.proofs.Fill.{Filled, filled_all}
use Rattle.sheet.specs.Answer.{table, zeros}
use Rattle.signing.specs.State.{never_opened, held_length, held, opened}

-- a length that there is room for, and one that there is not
pub length_some : (n : ℕ) → n ≤ 2256 → held_length n ≡ n
length_some n l = ap (λ (b : Bool). cond b n 0) (le-leb _ _ l)

pub length_none : (n : ℕ) → 2256 < n → held_length n ≡ 0
length_none n l = ap (λ (b : Bool). cond b n 0) (lt-leb _ _ l)

map_same : (l : List ℕ) → map (λ (x : ℕ). x) l ≡ l
map_same [] = refl
map_same (x ∷ l) = ap (λ (r : List ℕ). x ∷ r) (map_same l)

take_front : (s rest : List ℕ) → take (length s) (s ++ rest) ≡ s
take_front [] rest = refl
take_front (x ∷ s) rest = ap (λ (r : List ℕ). x ∷ r) (take_front s rest)

-- what is opened is held
pub held-opened : (s : List ℕ) → length s ≤ 2256 → held (opened s) ≡ s
unfolding held opened
held-opened s l = ap (λ (n : ℕ). take n (s ++ zeros (2256 - length s))) (length_some (length s) l) ∙ take_front s (zeros (2256 - length s))

-- and before the first opening nothing
pub held_never : held never_opened ≡ []
unfolding held
held_never = refl
