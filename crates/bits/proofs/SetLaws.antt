-- The laws of words as sets, bit by bit. Assumes nothing.
use mathlib.Core.Bool.{Bool, true, false, not, ◌&&◌, ◌||◌, and_comm, and-false, and-true, or-false, or-true}
use mathlib.Core.Path.{◌≡◌, refl, sym, ap, ap₂, ◌∙◌, subst}
use Prim.Native.Nat.{ℕ, zero, suc, ◌-◌, ◌*◌, ◌/◌, ◌%◌, ◌^◌, ◌≤◌, ◌<◌, min, max}
use native.Mathlib.Omega.{arith}
use native.Mathlib.Nat.{not-suc-le-zero, mod-lt, zero-lt-suc, pow-suc, mul-mod_left, mul-div_cancel, div-lt_iff_lt-mul, one-mul, mod-eq_of_lt}
use native.Mathlib.Numerals.{one-add}
use lib.Arith.{lt-one, digits_mod}
use lib.Bits.{and_mask, differ, bit_and, bit_or, bit_xor, and_shr, or_shr, xor_shr, and_step, or_step, xor_step}
use lib.Count.{count_trailing_zeros, under, trailing_le}
use lib.Dec.{lit<, ltb, eqb, eqb-suc-suc, eqb-suc-zero, eqb-zero-suc}
use lib.Pow.{ones_lt, pow_pos, shr-shr, shl_exact}
use borrow.Author.Tests.{ltb-true, ltb-false, eqb-true, eqb-false, eq-eqb, ne_eqb}
use Rattle.bits.specs.Word.{bit, has_bit}
use Rattle.bits.specs.Set.{unlike, Added, Removed, Lowest}
use Rattle.bits.proofs.Below.{by_cases, true-false, and_left, and_right}

two_pos : zero < 2
two_pos = zero-lt-suc 1

-- a digit is 0 or 1
digit_cases : (P : ℕ → Type 0) (d : ℕ) → d < 2 → P 0 → P 1 → P d
digit_cases P zero l z o = z
digit_cases P (suc zero) l z o = o
digit_cases P (suc (suc d)) l z o = absurd (omega arith)

pub bit-lt : (x j : ℕ) → bit x j < 2
bit-lt x j = mod-lt (x / 2 ^ j) two_pos

pub bit_of_has : (x j : ℕ) → has_bit x j ≡ true → bit x j ≡ 1
bit_of_has x j h = eqb-true (bit x j) 1 h

pub bit_of_lacks : (x j : ℕ) → has_bit x j ≡ false → bit x j ≡ 0
bit_of_lacks x j h = let l : bit x j < 2 = bit-lt x j in let n : bit x j ≡ 1 → ⊥ = eqb-false (bit x j) 1 h in omega arith

-- ---- the operations

and_digit : (a b : ℕ) → a < 2 → b < 2 → eqb (min a b) 1 ≡ eqb a 1 && eqb b 1
and_digit a b l m =
    digit_cases (λ (a : ℕ). eqb (min a b) 1 ≡ eqb a 1 && eqb b 1) a l
    (digit_cases (λ (b : ℕ). eqb (min 0 b) 1 ≡ false) b m refl refl)
    (digit_cases (λ (b : ℕ). eqb (min 1 b) 1 ≡ eqb b 1) b m refl refl)

or_digit : (a b : ℕ) → a < 2 → b < 2 → eqb (max a b) 1 ≡ eqb a 1 || eqb b 1
or_digit a b l m =
    digit_cases (λ (a : ℕ). eqb (max a b) 1 ≡ eqb a 1 || eqb b 1) a l
    (digit_cases (λ (b : ℕ). eqb (max 0 b) 1 ≡ eqb b 1) b m refl refl)
    (digit_cases (λ (b : ℕ). eqb (max 1 b) 1 ≡ true) b m refl refl)

xor_digit : (a b : ℕ) → a < 2 → b < 2 → eqb (differ a b) 1 ≡ unlike (eqb a 1) (eqb b 1)
xor_digit a b l m =
    digit_cases (λ (a : ℕ). eqb (differ a b) 1 ≡ unlike (eqb a 1) (eqb b 1)) a l
    (digit_cases (λ (b : ℕ). eqb (differ 0 b) 1 ≡ eqb b 1) b m refl refl)
    (digit_cases (λ (b : ℕ). eqb (differ 1 b) 1 ≡ not (eqb b 1)) b m refl refl)

min-lt : (a b : ℕ) → a < 2 → min a b < 2
min-lt a b l = omega arith

max-lt : (a b : ℕ) → a < 2 → b < 2 → max a b < 2
max-lt a b l m = omega arith

differ_lt : (a b : ℕ) → a < 2 → b < 2 → differ a b < 2
differ_lt a b l m =
    digit_cases (λ (a : ℕ). differ a b < 2) a l m
    (digit_cases (λ (b : ℕ). differ 1 b < 2) b m (omega arith) (omega arith))

pub and-bit : (a b j : ℕ) → has_bit (bit_and a b) j ≡ has_bit a j && has_bit b j
and-bit a b j =
    ap (λ (x : ℕ). eqb (x % 2) 1) (and_shr a b j ∙ and_step (a / 2 ^ j) (b / 2 ^ j))
    ∙ ap (λ (x : ℕ). eqb x 1) (digits_mod (bit_and (a / 2 ^ j / 2) (b / 2 ^ j / 2)) (min-lt (bit a j) (bit b j) (bit-lt a j)))
    ∙ and_digit (bit a j) (bit b j) (bit-lt a j) (bit-lt b j)

pub and-bit_left : (a b j : ℕ) → has_bit (bit_and a b) j ≡ true → has_bit a j ≡ true
and-bit_left a b j h = and_left (has_bit a j) (has_bit b j) (sym (and-bit a b j) ∙ h)

pub and-bit_right : (a b j : ℕ) → has_bit (bit_and a b) j ≡ true → has_bit b j ≡ true
and-bit_right a b j h = and_right (has_bit a j) (has_bit b j) (sym (and-bit a b j) ∙ h)

pub or-bit : (a b j : ℕ) → has_bit (bit_or a b) j ≡ has_bit a j || has_bit b j
or-bit a b j =
    ap (λ (x : ℕ). eqb (x % 2) 1) (or_shr a b j ∙ or_step (a / 2 ^ j) (b / 2 ^ j))
    ∙ ap (λ (x : ℕ). eqb x 1) (digits_mod (bit_or (a / 2 ^ j / 2) (b / 2 ^ j / 2)) (max-lt (bit a j) (bit b j) (bit-lt a j) (bit-lt b j)))
    ∙ or_digit (bit a j) (bit b j) (bit-lt a j) (bit-lt b j)

pub xor_bit : (a b j : ℕ) → has_bit (bit_xor a b) j ≡ unlike (has_bit a j) (has_bit b j)
xor_bit a b j =
    ap (λ (x : ℕ). eqb (x % 2) 1) (xor_shr a b j ∙ xor_step (a / 2 ^ j) (b / 2 ^ j))
    ∙ ap (λ (x : ℕ). eqb x 1) (digits_mod (bit_xor (a / 2 ^ j / 2) (b / 2 ^ j / 2)) (differ_lt (bit a j) (bit b j) (bit-lt a j) (bit-lt b j)))
    ∙ xor_digit (bit a j) (bit b j) (bit-lt a j) (bit-lt b j)

-- ---- one digit less

pub bit-suc : (x j : ℕ) → bit x (suc j) ≡ bit (x / 2) j
bit-suc x j = ap (λ (y : ℕ). y % 2) (ap (λ (k : ℕ). x / 2 ^ k) (sym (one-add j)) ∙ sym (shr-shr x 1 j))

pub has_suc : (x j : ℕ) → has_bit x (suc j) ≡ has_bit (x / 2) j
has_suc x j = ap (λ (d : ℕ). eqb d 1) (bit-suc x j)

bit-zero : (x : ℕ) → bit x 0 ≡ x % 2
bit-zero x = let e : x / 1 ≡ x = omega arith in ap (λ (y : ℕ). y % 2) e

half_lt : (n x : ℕ) → x < 2 ^ suc n → x / 2 < 2 ^ n
half_lt n x l = (div-lt_iff_lt-mul two_pos).1 (subst (λ (y : ℕ). x < y) (pow-suc 2 n) l)

-- ---- sets as numbers

pub empty_lacks : (j : ℕ) → has_bit 0 j ≡ false
empty_lacks zero = refl
empty_lacks (suc j) = has_suc 0 j ∙ empty_lacks j

-- a set of elements below n has none from n on
pub has_below : (n x j : ℕ) → x < 2 ^ n → has_bit x j ≡ true → j < n
has_below zero x j l h = true-false h (ap (λ (y : ℕ). has_bit y j) (lt-one l) ∙ empty_lacks j)
has_below (suc n) x zero l h = omega arith
has_below (suc n) x (suc j) l h =
    let m : j < n = has_below n (x / 2) j (half_lt n x l) (sym (has_suc x j) ∙ h) in omega arith

low_le : (a b : ℕ) → (has_bit a 0 ≡ true → has_bit b 0 ≡ true) → a % 2 ≤ b % 2
low_le a b h =
    let p : bit a 0 ≡ a % 2 = bit-zero a in
    let q : bit b 0 ≡ b % 2 = bit-zero b in
    by_cases (has_bit a 0)
    (λ t. let u : bit a 0 ≡ 1 = bit_of_has a 0 t in let v : bit b 0 ≡ 1 = bit_of_has b 0 (h t) in omega arith)
    (λ t. let u : bit a 0 ≡ 0 = bit_of_lacks a 0 t in omega arith)

lt-pow : (n : ℕ) → n < 2 ^ n
lt-pow zero = lit< tt
lt-pow (suc n) = let h : n < 2 ^ n = lt-pow n in let e : 2 ^ suc n ≡ 2 ^ n * 2 = pow-suc 2 n in omega arith

part_le_of : (n a b : ℕ) → a < 2 ^ n → ((j : ℕ) → has_bit a j ≡ true → has_bit b j ≡ true) → a ≤ b
part_le_of zero a b l h = let z : a ≡ zero = lt-one l in omega arith
part_le_of (suc n) a b l h =
    let m : a / 2 ≤ b / 2 = part_le_of n (a / 2) (b / 2) (half_lt n a l) (λ j t. sym (has_suc b j) ∙ h (suc j) (has_suc a j ∙ t)) in
    let d : a % 2 ≤ b % 2 = low_le a b (h 0) in
    omega arith

-- a part of a set is no larger as a number
pub part_le : (a b : ℕ) → ((j : ℕ) → has_bit a j ≡ true → has_bit b j ≡ true) → a ≤ b
part_le a b h = part_le_of a a b (lt-pow a) h

-- words with the same elements are equal
pub same_bits : (n a b : ℕ) → a < 2 ^ n → b < 2 ^ n → ((j : ℕ) → j < n → has_bit a j ≡ has_bit b j) → a ≡ b
same_bits n a b l m h =
    let p : a ≤ b = part_le a b (λ j t. sym (h j (has_below n a j l t)) ∙ t) in
    let q : b ≤ a = part_le b a (λ j t. h j (has_below n b j m t) ∙ t) in
    omega arith

-- a word with no element is 0
pub empty_zero : (n x : ℕ) → x < 2 ^ n → ((j : ℕ) → j < n → has_bit x j ≡ false) → x ≡ 0
empty_zero n x l h = let p : x ≤ 0 = part_le x 0 (λ j t. true-false t (h j (has_below n x j l t))) in omega arith

pub zero_empty : (x : ℕ) → x ≡ 0 → (j : ℕ) → has_bit x j ≡ false
zero_empty x e j = ap (λ (y : ℕ). has_bit y j) e ∙ empty_lacks j

-- sets with nothing in common
pub and_apart : (a b j : ℕ) → bit_and a b ≡ 0 → has_bit a j ≡ true → has_bit b j ≡ false
and_apart a b j e h = ap (λ (x : Bool). x && has_bit b j) (sym h) ∙ sym (and-bit a b j) ∙ zero_empty (bit_and a b) e j

-- the set of all below n
pub full_has : (n j : ℕ) → j < n → has_bit (2 ^ n - 1) j ≡ true
full_has zero j l = absurd (not-suc-le-zero l)
full_has (suc n) zero l =
    let e : 2 ^ suc n ≡ 2 ^ n * 2 = pow-suc 2 n in
    let p : 0 < 2 ^ n = pow_pos n in
    let q : (2 ^ suc n - 1) % 2 ≡ 1 = omega arith in
    ap (λ (d : ℕ). eqb d 1) (bit-zero (2 ^ suc n - 1) ∙ q)
full_has (suc n) (suc j) l =
    let e : 2 ^ suc n ≡ 2 ^ n * 2 = pow-suc 2 n in
    let p : 0 < 2 ^ n = pow_pos n in
    let q : (2 ^ suc n - 1) / 2 ≡ 2 ^ n - 1 = omega arith in
    has_suc (2 ^ suc n - 1) j ∙ ap (λ (x : ℕ). has_bit x j) q ∙ full_has n j (omega arith)

pub full_bit : (n j : ℕ) → has_bit (2 ^ n - 1) j ≡ ltb j n
full_bit n j =
    by_cases (ltb j n) (λ t. full_has n j (ltb-true j n t) ∙ sym t)
    (λ t. by_cases (has_bit (2 ^ n - 1) j)
    (λ u. let l : n ≤ j = ltb-false j n t in let m : j < n = has_below n (2 ^ n - 1) j (ones_lt n) u in absurd (omega arith))
    (λ u. u ∙ sym t))

-- the elements below n
pub mod-bit : (n x j : ℕ) → has_bit (x % 2 ^ n) j ≡ ltb j n && has_bit x j
mod-bit n x j =
    ap (λ (y : ℕ). has_bit y j) (sym (and_mask x n)) ∙ and-bit x (2 ^ n - 1) j ∙ ap (◌&&◌ (has_bit x j)) (full_bit n j)
    ∙ and_comm (has_bit x j) (ltb j n)

-- ---- one element

pub one_bit : (i j : ℕ) → has_bit (2 ^ i) j ≡ eqb j i
one_bit zero zero = refl
one_bit zero (suc j) = has_suc 1 j ∙ empty_lacks j ∙ sym (eqb-suc-zero j)
one_bit (suc i) zero =
    ap (λ (d : ℕ). eqb d 1) (bit-zero (2 ^ suc i) ∙ ap (λ (x : ℕ). x % 2) (pow-suc 2 i) ∙ mul-mod_left (2 ^ i) 2)
    ∙ sym (eqb-zero-suc i)
one_bit (suc i) (suc j) =
    has_suc (2 ^ suc i) j ∙ ap (λ (x : ℕ). has_bit x j) (ap (λ (x : ℕ). x / 2) (pow-suc 2 i) ∙ mul-div_cancel (2 ^ i) two_pos)
    ∙ one_bit i j ∙ sym (eqb-suc-suc j i)

pub added : (m i : ℕ) → Added m i (bit_or m (2 ^ i))
added m i = record { each = λ j. or-bit m (2 ^ i) j ∙ ap (◌||◌ (has_bit m j)) (one_bit i j) }

pub removed : (m i : ℕ) → Removed m i (bit_xor (bit_or m (2 ^ i)) (2 ^ i))
removed m i = record {
  each = λ j. xor_bit (bit_or m (2 ^ i)) (2 ^ i) j ∙ ap₂ unlike ((added m i).each j) (one_bit i j) ∙ cases (has_bit m j) (eqb j i);
}
  where
    cases : (a b : Bool) → unlike (a || b) b ≡ a && not b
    cases true true = refl
    cases true false = refl
    cases false true = refl
    cases false false = refl

-- the same, as a machine word of n bits computes it
one_shl : (n i : ℕ) → i < n → 1 * 2 ^ i % 2 ^ n ≡ 2 ^ i
one_shl n i l = shl_exact 1 i n (lit< tt) (omega arith) ∙ one-mul (2 ^ i)

pub added_word : (n m i : ℕ) → i < n → Added m i (bit_or m (1 * 2 ^ i % 2 ^ n))
added_word n m i l = rw (one_shl n i l) (added m i)

pub removed_word : (n m i : ℕ) → i < n → Removed m i (bit_xor (bit_or m (1 * 2 ^ i % 2 ^ n)) (1 * 2 ^ i % 2 ^ n))
removed_word n m i l = rw (one_shl n i l) (removed m i)

module _ {m i r : ℕ} where
  pub added_has : Added m i r → has_bit r i ≡ true
  added_has a = a.each i ∙ ap (◌||◌ (has_bit m i)) (eq-eqb i i refl) ∙ or-true (has_bit m i)

  pub added_keeps : Added m i r → (j : ℕ) → has_bit m j ≡ true → has_bit r j ≡ true
  added_keeps a j h = a.each j ∙ ap (λ (b : Bool). b || eqb j i) h

  pub added_other : Added m i r → (j : ℕ) → (j ≡ i → ⊥) → has_bit r j ≡ has_bit m j
  added_other a j n = a.each j ∙ ap (◌||◌ (has_bit m j)) (ne_eqb j i n) ∙ or-false (has_bit m j)

  pub removed_lacks : Removed m i r → has_bit r i ≡ false
  removed_lacks a = a.each i ∙ ap (λ (b : Bool). has_bit m i && not b) (eq-eqb i i refl) ∙ and-false (has_bit m i)

  pub removed_other : Removed m i r → (j : ℕ) → (j ≡ i → ⊥) → has_bit r j ≡ has_bit m j
  removed_other a j n = a.each j ∙ ap (λ (b : Bool). has_bit m j && not b) (ne_eqb j i n) ∙ and-true (has_bit m j)

  pub removed_was : Removed m i r → (j : ℕ) → has_bit r j ≡ true → has_bit m j ≡ true
  removed_was a j h = and_left (has_bit m j) (not (eqb j i)) (sym (a.each j) ∙ h)

  pub removed_differs : Removed m i r → (j : ℕ) → has_bit r j ≡ true → j ≡ i → ⊥
  removed_differs a j h e = true-false (subst (λ (x : ℕ). has_bit r x ≡ true) e h) (removed_lacks a)

  -- an element less makes a smaller number: the measure of a loop over a set
  pub removed_less : has_bit m i ≡ true → Removed m i r → r < m
  removed_less h a =
      let p : r ≤ m = part_le r m (removed_was a) in
      let q : r ≡ m → ⊥ = λ e. true-false (subst (λ (x : ℕ). has_bit x i ≡ true) (sym e) h) (removed_lacks a) in
      omega arith

-- ---- the lowest element

lowest_under : (d t x : ℕ) → x % 2 ≡ d → (j : ℕ) → j < under d t → ((k : ℕ) → k < t → has_bit (x / 2) k ≡ false) → has_bit x j ≡ false
lowest_under zero t x e zero l h = ap (λ (b : ℕ). eqb b 1) (bit-zero x ∙ e)
lowest_under zero t x e (suc j) l h = has_suc x j ∙ h j (omega arith)
lowest_under (suc d) t x e j l h = absurd (not-suc-le-zero l)

trailing_before : (n x j : ℕ) → j < count_trailing_zeros n x → has_bit x j ≡ false
unfolding count_trailing_zeros
trailing_before zero x j l = absurd (not-suc-le-zero l)
trailing_before (suc n) x j l = lowest_under (x % 2) (count_trailing_zeros n (x / 2)) x refl j l (trailing_before n (x / 2))

has_under : (d t n x : ℕ) → x % 2 ≡ d → under d t < suc n → (t < n → has_bit (x / 2) t ≡ true) → has_bit x (under d t) ≡ true
has_under zero t n x e l h = has_suc x t ∙ h (omega arith)
has_under (suc d) t n x e l h =
    let p : x % 2 < 2 = mod-lt x two_pos in
    let q : x % 2 ≡ 1 = omega arith in
    ap (λ (b : ℕ). eqb b 1) (bit-zero x ∙ q)

trailing_has : (n x : ℕ) → count_trailing_zeros n x < n → has_bit x (count_trailing_zeros n x) ≡ true
unfolding count_trailing_zeros
trailing_has zero x l = absurd (not-suc-le-zero l)
trailing_has (suc n) x l = has_under (x % 2) (count_trailing_zeros n (x / 2)) n x refl l (trailing_has n (x / 2))

-- a set that is not empty has a lowest element
pub trailing_lt : (n x : ℕ) → x < 2 ^ n → (x ≡ 0 → ⊥) → count_trailing_zeros n x < n
trailing_lt n x l h =
    let p : count_trailing_zeros n x ≤ n = trailing_le n x in
    let q : count_trailing_zeros n x ≡ n → ⊥ = λ e. h (empty_zero n x l (λ j k. trailing_before n x j (omega arith))) in
    omega arith

pub trailing_lowest : (n x : ℕ) → x < 2 ^ n → (x ≡ 0 → ⊥) → Lowest x (count_trailing_zeros n x)
trailing_lowest n x l h = record { has = trailing_has n x (trailing_lt n x l h); before = trailing_before n x }

pub lowest_word : (n x : ℕ) → 0 < n → x < 2 ^ n → (x ≡ 0 → ⊥) → (count_trailing_zeros n x % n < n) × Lowest x (count_trailing_zeros n x % n)
lowest_word n x p l h =
    (mod-lt (count_trailing_zeros n x) p, rw (mod-eq_of_lt (trailing_lt n x l h)) (trailing_lowest n x l h))
