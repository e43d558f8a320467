-- The machine's test of a number against zero is its sign. Assumes nothing.
use mathlib.Core.Bool.{true, false}
use mathlib.Core.Path.{◌≡◌, refl, ◌∙◌, ap}
use Prim.Native.Nat.{ℕ}
use native.Mathlib.Omega.{arith}
use lib.IntN.{ℤ, pos, negsuc}
use lib.Signed.{lt_z}
use mir.Syntax.{w32}
use mir.Val.{SFits, to_z, of_z}
use mir.ValLaws.{to_z-of_z}
use borrow.Author.Tests.{le-ltb}
use Rattle.times.specs.Time.{is_negative}

not_less : (k : ℕ) → lt_z (pos k) (pos 0) ≡ false
not_less k = le-ltb k 0 (omega arith)

pub sign_is : (z : ℤ) → SFits w32 z → lt_z (to_z w32 (of_z w32 z)) (pos 0) ≡ is_negative z
sign_is z f = ap (λ (x : ℤ). lt_z x (pos 0)) (to_z-of_z w32 z f) ∙ sign z
  where
    sign : (x : ℤ) → lt_z x (pos 0) ≡ is_negative x
    sign (pos k) = not_less k
    sign (negsuc k) = refl
