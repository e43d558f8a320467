-- A group and the groups of a set of steps, sifted from its mask. Assumes nothing.
use mathlib.Core.Bool.{Bool, ◌&&◌}
use mathlib.Core.List.{List}
use mathlib.Core.Path.{◌≡◌, sym, ap}
use Prim.Native.Nat.{ℕ, suc, ◌+◌, ◌*◌, ◌-◌}
use native.Mathlib.Omega.{arith}
use lib.Dec.{eqb}
use lib.ListN.{get_or}
use Rattle.bits.specs.Word.{has_bit}
use Rattle.bits.specs.Set.{Mask, Sifted}
use Rattle.bits.proofs.Masks.{sifted_all}
use Rattle.pattern.specs.Tables.{label_in}
use Rattle.pattern.specs.Realize.{fibre, groups}

-- level q + 1 stands at q in an array of levels of k entries
pub level_at : (q k i : ℕ) → (suc q - 1) * k + i ≡ q * k + i
level_at q k i = let e : suc q - 1 ≡ q = omega arith in ap (λ (x : ℕ). x * k + i) e

-- the steps whose label passes a test
pub labels_sifted : (label : List ℕ) (q : ℕ) (test : ℕ → ℕ → Bool) {steps rest r : ℕ}
    → Sifted steps (λ s. test s (get_or label (q * 12 + s) 0)) rest r → rest ≡ 0
    → Mask (λ s. has_bit steps s && test s (label_in label (suc q) s)) r
labels_sifted label q test {steps} w e = sifted_all _ w e
    (λ s. ap (λ (x : ℕ). has_bit steps s && test s (get_or label x 0)) (sym (level_at q 12 s)))

pub members_mask : (label : List ℕ) (q g steps : ℕ) {r : ℕ} → Mask (λ s. has_bit steps s && eqb (label_in label (suc q) s) g) r
    → Mask (fibre (has_bit steps) (label_in label (suc q)) g) r
unfolding fibre
members_mask label q g steps w = w

pub groups_mask : (label : List ℕ) (q steps : ℕ) {r : ℕ} → Mask (λ s. has_bit steps s && eqb (label_in label (suc q) s) s) r
    → Mask (groups (has_bit steps) (label_in label (suc q))) r
unfolding groups
groups_mask label q steps w = w
