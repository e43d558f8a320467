-- The laws of `member`: a member has a place, what has a place is a member, and lists one after the other. Assumes nothing.
use mathlib.Core.Bool.{Bool, true, false, ◌||◌, or-false, or_assoc}
use mathlib.Core.List.{List, [], ◌∷◌, ◌++◌}
use mathlib.Core.Path.{◌≡◌, refl, sym, ◌∙◌, ap, subst}
use Prim.Native.Nat.{ℕ, zero, suc, ◌<◌}
use native.Mathlib.Omega.{arith}
use native.Mathlib.Nat.{not-suc-le-zero}
use lib.Dec.{eqb}
use lib.ListN.{length, get_or}
use borrow.Author.Tests.{eqb-true, eq-eqb}
use Rattle.bits.specs.Member.{member}
use Rattle.bits.proofs.Below.{by_cases, true-false}

-- the place of a member
pub member_place : (xs : List ℕ) (p : ℕ) → member xs p ≡ true → (i : ℕ) × (i < length xs) × (get_or xs i 0 ≡ p)
unfolding member
member_place [] p h = true-false h refl
member_place (x ∷ xs) p h =
    by_cases (eqb p x)
    (λ t. (0, omega arith, sym (eqb-true p x t)))
    (λ t. let w : (i : ℕ) × (i < length xs) × (get_or xs i 0 ≡ p) = member_place xs p (rw t at h) in (suc w.0, omega (arith, w.1), w.2))

-- what stands at a place is a member
pub member_of : (xs : List ℕ) (i : ℕ) → i < length xs → member xs (get_or xs i 0) ≡ true
unfolding member
member_of [] i l = absurd (not-suc-le-zero l)
member_of (x ∷ xs) zero l = rw (eq-eqb x x refl) refl
member_of (x ∷ xs) (suc i) l =
    by_cases (eqb (get_or xs i 0) x) (λ t. rw t refl) (λ t. rw t (member_of xs i (omega arith)))

-- what has a place is a member
pub member_has : (xs : List ℕ) (i p : ℕ) → i < length xs → get_or xs i 0 ≡ p → member xs p ≡ true
member_has xs i p l e = subst (λ (x : ℕ). member xs x ≡ true) e (member_of xs i l)

-- and what is no member has none
pub member-not : (xs : List ℕ) (p : ℕ) → member xs p ≡ false → (i : ℕ) → i < length xs → get_or xs i 0 ≡ p → ⊥
member-not xs p h i l e = true-false (member_has xs i p l e) h

pub member-append : (xs ys : List ℕ) (p : ℕ) → member (xs ++ ys) p ≡ (member xs p || member ys p)
unfolding member
member-append [] ys p = refl
member-append (x ∷ xs) ys p =
    ap (λ (t : Bool). eqb p x || t) (member-append xs ys p) ∙ sym (or_assoc (eqb p x) (member xs p) (member ys p))

-- one more at the end
pub member-snoc : (xs : List ℕ) (x p : ℕ) → member (xs ++ x ∷ []) p ≡ (member xs p || eqb p x)
unfolding member
member-snoc xs x p = member-append xs (x ∷ []) p ∙ ap (λ (t : Bool). member xs p || t) (or-false (eqb p x))
