-- Hours, minutes and sign of a number read back to it; a difference of two sums fits. Assumes nothing.
use mathlib.Core.Path.{◌≡◌, refl, sym, ◌∙◌, ap, ap₂, subst}
use Prim.Native.Nat.{ℕ, zero, suc, ◌+◌, ◌*◌, ◌/◌, ◌%◌, ◌-◌, ◌<◌}
use native.Mathlib.Omega.{arith}
use lib.Dec.{ltb}
use lib.IntN.{ℤ, pos, negsuc, neg_ℤ, ◌-ℤ◌, sub_ℕ, +ℤ_idr}
use mir.Syntax.{w32}
use mir.Val.{SFits, to_z, of_z}
use mir.ValLaws.{to_z-of_z}
use Rattle.bits.proofs.Below.{by_cases, true-false}
use Rattle.times.specs.Time.{time_of, EveryTime, Natural}

split : (n : ℕ) → 60 * (n / 60) + n % 60 ≡ n
split n = omega arith

pub every_time : EveryTime
unfolding time_of
every_time (pos n) = record { back = ap pos (split n); minutes = omega arith; sign = λ t. true-false t refl }
every_time (negsuc n) =
    record {
      back = ap (λ (k : ℕ). neg_ℤ (pos k)) (split (suc n));
      minutes = omega arith;
      sign = λ t. let e = split (suc n) in omega (arith, e);
    }

sub_fits : (a b : ℕ) → a < 2147483648 → b < 2147483648 → SFits w32 (sub_ℕ a b)
sub_fits a b k l =
    by_cases (ltb a b)
    (λ t. rw t (record { sfits = less a b k l }))
    (λ t. rw t (record { sfits = more a b k l }))
  where
    less : (x y : ℕ) → x < 2147483648 → y < 2147483648 → y - suc x < 2147483648
    less x y u v = omega arith

    more : (x y : ℕ) → x < 2147483648 → y < 2147483648 → x - y < 2147483648
    more x y u v = omega arith

pub difference_fits : (a b : ℕ) → a < 2147483648 → b < 2147483648 → SFits w32 (pos a -ℤ pos b)
difference_fits a zero k l = subst (SFits w32) (sym (+ℤ_idr (pos a))) (record { sfits = k })
difference_fits a (suc b) k l = sub_fits a (suc b) k l

-- as the machine reads them back from their bits, in either order
pub natural_fits : (a b : ℤ) → SFits w32 a → SFits w32 b → Natural a → Natural b → SFits w32 (to_z w32 (of_z w32 a) -ℤ to_z w32 (of_z w32 b))
natural_fits a b f g s t =
    subst (SFits w32) (sym (ap₂ ◌-ℤ◌ (to_z-of_z w32 a f ∙ s.same) (to_z-of_z w32 b g ∙ t.same)))
    (difference_fits s.size t.size (subst (SFits w32) s.same f).sfits (subst (SFits w32) t.same g).sfits)
