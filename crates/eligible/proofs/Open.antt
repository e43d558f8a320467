-- The steps of a scope that are not placed, counted as bits. Assumes nothing.
use mathlib.Core.Bool.{Bool, true, false, not, ◌&&◌}
use mathlib.Core.Path.{◌≡◌, refl, sym, ap, ◌∙◌}
use Prim.Native.Nat.{ℕ, ◌^◌, ◌<◌}
use lib.Bits.{bit_and, bit_xor}
use lib.Count.{ones}
use Rattle.bits.specs.Below.{count}
use Rattle.bits.specs.Word.{has_bit}
use Rattle.bits.specs.Set.{unlike}
use Rattle.bits.proofs.Below.{and_left}
use Rattle.bits.proofs.Counting.{count_cong}
use Rattle.bits.proofs.Masks.{bits_below}
use Rattle.bits.proofs.Ones.{ones_bits}
use Rattle.bits.proofs.SetLaws.{and-bit, xor_bit, has_below}

-- the bits of a scope without the placed steps
open_bit : (scope placed s : ℕ) → has_bit (bit_xor scope (bit_and scope placed)) s ≡ has_bit scope s && not (has_bit placed s)
open_bit scope placed s =
    xor_bit scope (bit_and scope placed) s
    ∙ ap (unlike (has_bit scope s)) (and-bit scope placed s)
    ∙ rest (has_bit scope s) (has_bit placed s)
  where
    rest : (a b : Bool) → unlike a (a && b) ≡ a && not b
    rest true b = refl
    rest false b = refl

pub open_counted : (scope placed steps : ℕ) → scope < 2 ^ steps
    → ones (bit_xor scope (bit_and scope placed)) ≡ count steps (λ s. has_bit scope s && not (has_bit placed s))
open_counted scope placed steps l =
    ones_bits steps (bit_xor scope (bit_and scope placed))
    (bits_below steps _ (λ s h. has_below steps scope s l (and_left (has_bit scope s) _ (sym (open_bit scope placed s) ∙ h))))
    ∙ count_cong steps _ _ (λ s m. open_bit scope placed s)
