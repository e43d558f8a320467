-- The laws of a set without the skipped steps, bit by bit. Assumes nothing.
use mathlib.Core.Bool.{Bool, ◌&&◌}
use mathlib.Core.List.{List, [], ◌∷◌}
use mathlib.Core.Path.{◌≡◌, refl, sym, ◌∙◌, ap, subst}
use Prim.Native.Nat.{ℕ, zero, suc, ◌+◌, ◌*◌, ◌/◌, ◌%◌, ◌^◌, ◌<◌}
use native.Mathlib.Omega.{arith}
use native.Mathlib.Nat.{pow-suc}
use lib.Dec.{eqb, ltb, leb-suc-suc}
use lib.ListN.{length, get_or, drop}
use lib.Seq.{drop-cons}
use borrow.Author.Tests.{lt-ltb, le-ltb}
use Rattle.bits.specs.Word.{bit, has_bit}
use Rattle.bits.proofs.SetLaws.{bit-lt, bit_of_lacks, has_suc, empty_lacks, same_bits}
use Rattle.remaining.specs.Kept.{kept_below, gather}
use Rattle.remaining.proofs.KeptLaws.{kept_whole}

-- a digit below a word
low_bit : (b x : ℕ) → b < 2 → bit (b + 2 * x) 0 ≡ b
low_bit b x l = let e : (b + 2 * x) / 1 ≡ b + 2 * x = omega arith in ap (λ (y : ℕ). y % 2) e ∙ omega arith

high_bit : (b x k : ℕ) → b < 2 → has_bit (b + 2 * x) (suc k) ≡ has_bit x k
high_bit b x k l = let e : (b + 2 * x) / 2 ≡ x = omega arith in has_suc (b + 2 * x) k ∙ ap (λ (y : ℕ). has_bit y k) e

pub gather_has : (kept : List ℕ) (x k : ℕ) → has_bit (gather kept x) k ≡ ltb k (length kept) && has_bit x (get_or kept k 0)
unfolding gather
gather_has [] x k = empty_lacks k ∙ ap (λ (b : Bool). b && has_bit x 0) (sym (le-ltb k 0 (omega arith)))
gather_has (a ∷ kept) x zero =
    ap (λ (d : ℕ). eqb d 1) (low_bit (bit x a) (gather kept x) (bit-lt x a))
    ∙ ap (λ (b : Bool). b && has_bit x a) (sym (lt-ltb 0 (suc (length kept)) (omega arith)))
gather_has (a ∷ kept) x (suc k) =
    high_bit (bit x a) (gather kept x) k (bit-lt x a) ∙ gather_has kept x k
    ∙ ap (λ (b : Bool). b && has_bit x (get_or kept k 0)) (sym (leb-suc-suc (suc k) (length kept)))

pub gather_below : (kept : List ℕ) (x : ℕ) → gather kept x < 2 ^ length kept
unfolding gather
gather_below [] x = omega arith
gather_below (a ∷ kept) x =
    let h = gather_below kept x in
    let e : 2 ^ suc (length kept) ≡ 2 ^ length kept * 2 = pow-suc 2 (length kept) in
    omega (arith, bit-lt x a)

pub gather_none : (kept : List ℕ) → gather kept 0 ≡ 0
unfolding gather
gather_none [] = refl
gather_none (a ∷ kept) = let h = gather_none kept in let b = bit_of_lacks 0 a (empty_lacks a) in omega arith

pub gather_empty : (kept : List ℕ) (x : ℕ) → x ≡ 0 → 0 ≡ gather kept x
gather_empty kept x e = sym (ap (gather kept) e ∙ gather_none kept)

-- where no step is skipped a set stays as it is
pub gather_whole : (skipped : ℕ → Bool) (n x : ℕ) → length (kept_below skipped n) ≡ n → x < 2 ^ n → gather (kept_below skipped n) x ≡ x
gather_whole skipped n x e l =
    let kept = kept_below skipped n in
    same_bits n (gather kept x) x (subst (λ (m : ℕ). gather kept x < 2 ^ m) e (gather_below kept x)) l
    (λ k m.
    gather_has kept x k ∙ ap (λ (b : Bool). b && has_bit x (get_or kept k 0)) (lt-ltb k (length kept) (omega arith))
    ∙ ap (has_bit x) ((kept_whole skipped n e).itself k m))
