-- Sums of minutes as signed numbers: a sum that is not negative, and small enough, is the natural number. Assumes nothing.
use mathlib.Core.Path.{◌≡◌, sym, ◌∙◌, ap, ap₂, subst}
use Prim.Native.Nat.{ℕ, ◌+◌, ◌<◌, ◌≤◌}
use native.Mathlib.Omega.{arith}
use lib.IntN.{ℤ, pos, ◌+ℤ◌, ◌-ℤ◌, pos-+ℤ-pos}
use mir.Syntax.{w32}
use mir.Val.{SFits, to_z, of_z}
use mir.ValLaws.{to_z-of_z, to_z_pos}
use Rattle.times.specs.Time.{Natural}
use Rattle.ledger.specs.Lines.{Small}

-- a natural number fits
pub pos_fits : (n : ℕ) → n < 2147483648 → SFits w32 (pos n)
pos_fits n l = record { sfits = l }

pub small_fits : (z : ℤ) → Small z → SFits w32 z
small_fits z s = subst (SFits w32) (sym s.same) (pos_fits s.size (omega (arith, s.most)))

-- a small number read back from its bits
pub small_back : (z : ℤ) → Small z → to_z w32 (of_z w32 z) ≡ z
small_back z s = to_z-of_z w32 z (small_fits z s)

module _ (z : ℤ) (m : ℕ) (s : Small z) (l : m ≤ 5999) where
  -- the machine adds what it reads back from the bits
  pub read_back : to_z w32 (of_z w32 z) +ℤ to_z w32 m ≡ z +ℤ pos m
  read_back = ap₂ ◌+ℤ◌ (to_z-of_z w32 z (small_fits z s)) (to_z_pos w32 m (omega arith))

  pub sum_is : z +ℤ pos m ≡ pos (s.size + m)
  sum_is = ap (λ (x : ℤ). x +ℤ pos m) s.same ∙ pos-+ℤ-pos s.size m

  pub sum_fits : SFits w32 (z +ℤ pos m)
  sum_fits = subst (SFits w32) (sym sum_is) (pos_fits (s.size + m) (omega (arith, s.most)))

-- ---- differences

-- of two small sums, as the machine reads them back
pub back_difference : (a b : ℤ) → Small a → Small b → to_z w32 (of_z w32 a) -ℤ to_z w32 (of_z w32 b) ≡ a -ℤ b
back_difference a b s t = ap₂ ◌-ℤ◌ (small_back a s) (small_back b t)

-- a small sum, read back, is not negative
pub back_natural : (z : ℤ) → Small z → Natural (to_z w32 (of_z w32 z))
back_natural z s = record { size = s.size; same = small_back z s ∙ s.same }
