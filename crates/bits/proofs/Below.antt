-- The laws of `all`, `any`, `count` and `first`. Assumes nothing.
use mathlib.Core.Bool.{Bool, true, false, ◌&&◌}
use mathlib.Core.Path.{◌≡◌, refl, sym, subst, ◌∙◌}
use Prim.Native.Nat.{ℕ, zero, suc, ◌≤◌, ◌<◌}
use native.Mathlib.Omega.{arith}
use native.Mathlib.Nat.{not-suc-le-zero}
use lib.Dec.{eqb, ltb}
use borrow.Author.Tests.{eqb-true, eqb-false, ltb-true, ltb-false}
use Rattle.bits.specs.Below.{all, first}

-- a test by cases, with the equation kept
pub by_cases : {P : Type 0} (b : Bool) → (b ≡ true → P) → (b ≡ false → P) → P
by_cases true t f = t refl
by_cases false t f = f refl

pub true-false : {P : Type 0} {b : Bool} → b ≡ true → b ≡ false → P
true-false {b = b} p q = let z : ◌≡◌ {A = ℕ} 0 1 = cc in absurd (omega arith)

pub and_left : (a b : Bool) → a && b ≡ true → a ≡ true
and_left true b h = refl
and_left false b h = h

pub and_right : (a b : Bool) → a && b ≡ true → b ≡ true
and_right true b h = h
and_right false b h = true-false h refl

-- the cases of a number below suc n
pub below_suc : {P : Type 0} (n k : ℕ) → k < suc n → (k < n → P) → (k ≡ n → P) → P
below_suc n k h l e = by_cases (eqb k n) (λ t. e (eqb-true k n t)) (λ f. l (let z : k ≡ n → ⊥ = eqb-false k n f in omega arith))

pub all_at : (n : ℕ) (f : ℕ → Bool) → all n f ≡ true → (k : ℕ) → k < n → f k ≡ true
unfolding all
all_at zero f h k l = absurd (not-suc-le-zero l)
all_at (suc n) f h k l =
    below_suc n k l
    (λ m. all_at n f (and_left (all n f) (f n) h) k m)
    (λ e. subst (λ (x : ℕ). f x ≡ true) (sym e) (and_right (all n f) (f n) h))

pub all_of : (n : ℕ) (f : ℕ → Bool) → ((k : ℕ) → k < n → f k ≡ true) → all n f ≡ true
unfolding all
all_of zero f h = refl
all_of (suc n) f h = rw (all_of n f (λ k l. h k (omega arith))) (h n (omega arith))

-- what `first` gives at one number more, by cases
first_step : (P : ℕ → Type 0) (n : ℕ) (f : ℕ → Bool)
    → (first n f ≡ n → f n ≡ true → P n)
    → (first n f ≡ n → f n ≡ false → P (suc n))
    → ((first n f ≡ n → ⊥) → P (first n f))
    → P (first (suc n) f)
unfolding first
first_step P n f a b c =
    by_cases (eqb (first n f) n)
    (λ t. by_cases (f n) (λ y. rw (t, y) (a (eqb-true _ _ t) y)) (λ y. rw (t, y) (b (eqb-true _ _ t) y)))
    (λ t. rw t (c (eqb-false _ _ t)))

first-zero : (f : ℕ → Bool) → first zero f ≡ zero
unfolding first
first-zero f = refl

-- the number that `first` gives is at most the bound
pub first-le : (n : ℕ) (f : ℕ → Bool) → first n f ≤ n
unfolding first
first-le zero f = omega arith
first-le (suc n) f =
    first_step (λ (r : ℕ). r ≤ suc n) n f (λ e y. omega arith) (λ e y. omega arith)
    (λ e. let z : first n f ≤ n = first-le n f in omega arith)

-- f holds of it where it is below the bound
pub first_has : (n : ℕ) (f : ℕ → Bool) → first n f < n → f (first n f) ≡ true
first_has zero f l = absurd (not-suc-le-zero l)
first_has (suc n) f l =
    first_step (λ (r : ℕ). r < suc n → f r ≡ true) n f (λ e y l. y) (λ e y l. absurd (omega arith))
    (λ e l. let z : first n f ≤ n = first-le n f in first_has n f (omega arith)) l

-- f holds of none before it
pub first_none : (n : ℕ) (f : ℕ → Bool) (k : ℕ) → k < first n f → f k ≡ false
first_none zero f k l = absurd (not-suc-le-zero (subst (λ (r : ℕ). k < r) (first-zero f) l))
first_none (suc n) f k l =
    first_step (λ (r : ℕ). k < r → f k ≡ false) n f
    (λ e y l. first_none n f k (omega arith))
    (λ e y l. below_suc n k l (λ m. first_none n f k (omega arith)) (λ d. subst (λ (x : ℕ). f x ≡ false) (sym d) y))
    (λ e l. first_none n f k l) l

-- no other number is such
pub first_unique : (n : ℕ) (f : ℕ → Bool) (r : ℕ) → r ≤ n → (r < n → f r ≡ true) → ((k : ℕ) → k < r → f k ≡ false) → first n f ≡ r
first_unique n f r l has before =
    let m = first-le n f in
    lt_cases (first n f) r
    (λ h. true-false (first_has n f (omega arith)) (before (first n f) h))
    (λ h. true-false (has (omega arith)) (first_none n f r h))
  where
    lt_cases : (a b : ℕ) → (a < b → a ≡ b) → (b < a → a ≡ b) → a ≡ b
    lt_cases a b p q =
        by_cases (ltb a b) (λ t. p (ltb-true a b t))
        (λ t. by_cases (ltb b a) (λ u. q (ltb-true b a u))
        (λ u. let x : b ≤ a = ltb-false a b t in let y : a ≤ b = ltb-false b a u in omega arith))

-- searching depends on the tests below the bound alone
pub first_cong : (n : ℕ) (f g : ℕ → Bool) → ((k : ℕ) → k < n → f k ≡ g k) → first n f ≡ first n g
first_cong n f g h =
    let m = first-le n g in
    first_unique n f (first n g) m (λ l. h (first n g) l ∙ first_has n g l) (λ k l. h k (omega arith) ∙ first_none n g k l)
