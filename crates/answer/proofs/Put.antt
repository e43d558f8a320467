-- Bytes put into a buffer one number after the other. Assumes nothing.
use mathlib.Core.List.{List, [], ◌∷◌, ◌++◌, append_assoc}
use mathlib.Core.Path.{◌≡◌, refl, sym, ◌∙◌, ap, ap₂}
use Prim.Native.Nat.{ℕ, ◌+◌, ◌*◌, ◌≤◌}
use native.Mathlib.Omega.{arith}
use lib.ListN.{length, drop, length-append}
use lib.Seq.{take_at, drop-drop, drop-append-add}
use Rattle.answer.specs.Bytes.{long_bytes, put_at, written}

-- a further number after those already put
pub put_next : (done bytes buffer : List ℕ) (k : ℕ) → length done ≡ k → k + length bytes ≤ length buffer
    → put_at (done ++ drop k buffer) k bytes ≡ (done ++ bytes) ++ drop (k + length bytes) buffer
unfolding put_at
put_next done bytes buffer k e h =
    ap₂ (λ (x y : List ℕ). x ++ bytes ++ y) (take_at done (drop k buffer) k e)
    (ap (λ (n : ℕ). drop (n + length bytes) (done ++ drop k buffer)) (sym e) ∙ drop-append-add done (drop k buffer) (length bytes) ∙ drop-drop (length bytes) k buffer)

pub written-append : (a b : List ℕ) → written (a ++ b) ≡ written a ++ written b
unfolding written
written-append [] b = refl
written-append (x ∷ a) b = ap (λ (l : List ℕ). long_bytes x ++ l) (written-append a b) ∙ sym (append_assoc (long_bytes x) (written a) (written b))

pub length-written : (a : List ℕ) → length (written a) ≡ 4 * length a
unfolding written
length-written [] = refl
length-written (x ∷ a) = let e = length-written a in length-append (long_bytes x) (written a) ∙ (omega arith)
