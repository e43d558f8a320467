-- How many class levels a sheet has, and where the class of each lies on a card. Assumes nothing.
use mathlib.Core.Bool.{true, false, ◌&&◌, ◌||◌}
use mathlib.Core.List.{List}
use mathlib.Core.Path.{◌≡◌, refl}
use Prim.Native.Nat.{ℕ, zero, suc, ◌<◌, ◌≤◌}
use native.Mathlib.Omega.{arith}
use lib.Dec.{eqb, leb, ltb}
use borrow.Author.Tests.{eq-eqb, ne_eqb, eqb-true, eqb-false, leb-true, leb-false, ltb-true, le-leb, lt-ltb}
use Rattle.bits.specs.Sizes.{most_class_levels}
use Rattle.bits.proofs.Below.{by_cases, true-false, and_left, and_right}
use Rattle.card.specs.Fields.{version_of, levels_byte, form_ok, class_levels, class_place, class_field_ok, nonzero}

pub low_place : (level : ℕ) → level ≤ 1 → 8 ≡ class_place level
low_place zero l = refl
low_place (suc zero) l = refl
low_place (suc (suc q)) l = absurd (omega arith)

pub high_place : (level : ℕ) → 3 ≤ level → 14 ≡ class_place level
high_place zero l = absurd (omega arith)
high_place (suc zero) l = absurd (omega arith)
high_place (suc (suc zero)) l = absurd (omega arith)
high_place (suc (suc (suc q))) l = refl

-- a version 2 sheet has so many as its byte 12 says
pub second_levels : (s : List ℕ) → version_of s ≡ 2 → levels_byte s ≡ class_levels s
unfolding class_levels
second_levels s e = rw (eq-eqb _ _ e)

-- any other has two
pub first_levels : (s : List ℕ) → (version_of s ≡ 2 → ⊥) → 2 ≡ class_levels s
unfolding class_levels
first_levels s n = rw (ne_eqb _ _ n)

-- the two forms of a header that was tested
pub form_cases : {P : Type 0} (version levels : ℕ) → form_ok version levels ≡ true
    → (version ≡ 1 → levels ≡ 0 → P) → (version ≡ 2 → 1 ≤ levels → levels ≤ most_class_levels → P) → P
unfolding form_ok
form_cases {P} version levels h one two =
    by_cases (eqb version 1 && eqb levels 0)
    (λ t. one (eqb-true _ _ (and_left (eqb version 1) (eqb levels 0) t)) (eqb-true _ _ (and_right (eqb version 1) (eqb levels 0) t)))
    (λ t.
    let w : eqb version 2 && (leb 1 levels && leb levels most_class_levels) ≡ true = rw t at h in
    let r = and_right (eqb version 2) (leb 1 levels && leb levels most_class_levels) w in
    two (eqb-true _ _ (and_left (eqb version 2) (leb 1 levels && leb levels most_class_levels) w))
    (leb-true _ _ (and_left (leb 1 levels) (leb levels most_class_levels) r))
    (leb-true _ _ (and_right (leb 1 levels) (leb levels most_class_levels) r)))

pub form_first : (version levels : ℕ) → version ≡ 1 → levels ≡ 0 → form_ok version levels ≡ true
unfolding form_ok
form_first version levels a b = rw (eq-eqb _ _ a, eq-eqb _ _ b) refl

pub form_second : (version levels : ℕ) → version ≡ 2 → 1 ≤ levels → levels ≤ most_class_levels → form_ok version levels ≡ true
unfolding form_ok
form_second version levels a b c =
    let n : eqb version 1 ≡ false = ne_eqb version 1 (λ e. omega arith) in
    rw (n, eq-eqb _ _ a, le-leb _ _ b, le-leb _ _ c) refl

-- a sheet with a good header has one to three
pub levels_few : (s : List ℕ) → form_ok (version_of s) (levels_byte s) ≡ true → (1 ≤ class_levels s) × (class_levels s ≤ most_class_levels)
levels_few s h =
    form_cases (version_of s) (levels_byte s) h
    (λ a b. let e = first_levels s (λ d. omega arith) in (omega arith, omega arith))
    (λ a b c. let e = second_levels s a in (omega arith, omega arith))

-- a class field that was tested is not zero where its level is used, and zero where not
pub field_used : (levels q class : ℕ) → class_field_ok levels q class ≡ true → q ≤ levels → 0 < class
unfolding class_field_ok
field_used levels q class h l =
    by_cases (eqb class 0)
    (λ t.
    let a : ltb levels q ≡ false = by_cases (ltb levels q) (λ u. absurd (omega (arith, ltb-true levels q u))) (λ u. u) in
    let b : (leb q levels && nonzero class) || (ltb levels q && eqb class 0) ≡ false = rw (t, a, le-leb _ _ l) refl in
    true-false h b)
    (λ t. let n = eqb-false class 0 t in omega arith)

pub field_unused : (levels q class : ℕ) → class_field_ok levels q class ≡ true → levels < q → class ≡ 0
unfolding class_field_ok
field_unused levels q class h l =
    by_cases (eqb class 0) (λ t. eqb-true class 0 t)
    (λ t.
    let a : leb q levels ≡ false = by_cases (leb q levels) (λ u. absurd (omega (arith, leb-true q levels u))) (λ u. u) in
    let b : (leb q levels && nonzero class) || (ltb levels q && eqb class 0) ≡ false = rw (t, a, lt-ltb _ _ l) refl in
    true-false h b)

pub field_true : (levels q class : ℕ) → (q ≤ levels → 0 < class) → (levels < q → class ≡ 0) → class_field_ok levels q class ≡ true
unfolding class_field_ok
field_true levels q class used unused =
    by_cases (leb q levels)
    (λ t. let a = used (leb-true q levels t) in rw (t, ne_eqb class 0 (λ e. omega arith)) refl)
    (λ t. let m = leb-false q levels t in rw (t, lt-ltb levels q m, eq-eqb class 0 (unused m)) refl)
