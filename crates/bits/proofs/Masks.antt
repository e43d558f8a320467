-- More laws of words as sets: the whole set, the bound of a word, some element, and the number of elements. Assumes nothing.
use mathlib.Core.Bool.{Bool, true, false, not, ◌&&◌, ◌||◌}
use mathlib.Core.List.{List}
use mathlib.Core.Path.{◌≡◌, refl, sym, subst, ap, ◌∙◌}
use Prim.Native.Nat.{ℕ, zero, suc, ◌+◌, ◌*◌, ◌-◌, ◌%◌, ◌^◌, ◌≤◌, ◌<◌}
use native.Mathlib.Omega.{arith}
use native.Mathlib.Nat.{pow-suc, one-mul}
use lib.Bits.{bit_and, bit_xor}
use lib.Count.{ones, count_trailing_zeros}
use lib.Dec.{lit<, ltb, eqb}
use lib.ListN.{get_or}
use lib.Pow.{pow_pos, shl_exact}
use borrow.Author.Tests.{eqb-true, eqb-false, ltb-true, ltb-false}
use Rattle.bits.specs.Below.{count}
use Rattle.bits.specs.Word.{has_bit}
use Rattle.bits.specs.Set.{unlike, Added, Removed, Lowest, FirstAndRest, Mask, Sifted, LeastKey}
use Rattle.bits.proofs.Below.{by_cases, true-false}
use Rattle.bits.proofs.Counting.{is_false, count-false}
use Rattle.bits.proofs.Ones.{ones_bits}
use Rattle.bits.proofs.SetLaws.{and-bit_left, xor_bit, full_has, full_bit, has_below, part_le, trailing_lowest, empty_lacks, zero_empty, added_has}
use Rattle.bits.proofs.SetLaws.{added_other, removed_other, removed_was, removed_differs, removed_less}

pub or_cases : {P : Type 0} (a b : Bool) → a || b ≡ true → (a ≡ true → P) → (b ≡ true → P) → P
or_cases true b h f g = f refl
or_cases false b h f g = g h

pub or_left : (a b : Bool) → a ≡ true → a || b ≡ true
or_left a b h = ap (λ (x : Bool). x || b) h

pub or_right : (a b : Bool) → b ≡ true → a || b ≡ true
or_right true b h = refl
or_right false b h = h

-- all but those of x
pub xor_all : (x j : ℕ) → j < 64 → has_bit (bit_xor x 18446744073709551615) j ≡ not (has_bit x j)
xor_all x j l = xor_bit x 18446744073709551615 j ∙ ap (unlike (has_bit x j)) (full_has 64 j l) ∙ cases (has_bit x j)
  where
    cases : (a : Bool) → unlike a true ≡ not a
    cases true = refl
    cases false = refl

pub all_has : (j : ℕ) → j < 64 → has_bit 18446744073709551615 j ≡ true
all_has j l = full_has 64 j l

-- a set of numbers below n, as a number
pub bits_below : (n x : ℕ) → ((j : ℕ) → has_bit x j ≡ true → j < n) → x < 2 ^ n
bits_below n x h =
    let p : 0 < 2 ^ n = pow_pos n in
    let q : x ≤ 2 ^ n - 1 = part_le x (2 ^ n - 1) (λ j t. full_has n j (h j t)) in
    omega arith

lt-pow : (n : ℕ) → n < 2 ^ n
lt-pow zero = lit< tt
lt-pow (suc n) = let h : n < 2 ^ n = lt-pow n in let e : 2 ^ suc n ≡ 2 ^ n * 2 = pow-suc 2 n in omega arith

-- a set that is not empty has an element
pub some_bit : (x : ℕ) → (x ≡ 0 → ⊥) → (j : ℕ) × (has_bit x j ≡ true)
some_bit x h = (count_trailing_zeros x x, (trailing_lowest x x (lt-pow x) h).has)

-- ---- the lowest element taken out

pub first-and_rest : {m i r : ℕ} → Lowest m i → Removed m i r → FirstAndRest m i r
first-and_rest {m} {i} low gone =
    record { lowest = low; removed = gone; less = removed_less low.has gone; below = λ n l. has_below n m i l low.has }

module _ {m i r : ℕ} (t : FirstAndRest m i r) where
  -- the elements left were there
  pub taken_was : (j : ℕ) → has_bit r j ≡ true → has_bit m j ≡ true
  taken_was j h = removed_was t.removed j h

  -- a set of numbers below n stays one
  pub taken_small : (n : ℕ) → m < 2 ^ n → r < 2 ^ n
  taken_small n l = omega (arith, t.less)

  -- the element taken is one of a set that m is a part of
  pub taken_below : (n all : ℕ) → all < 2 ^ n → ((j : ℕ) → has_bit m j ≡ true → has_bit all j ≡ true) → i < n
  taken_below n all l part = has_below n all i l (part i t.lowest.has)

  -- a part of what is left is less: the measure of a loop that leaves out more
  pub taken_part_less : (other : ℕ) → bit_and r other < m
  taken_part_less other = let a : bit_and r other ≤ r = part_le (bit_and r other) r (and-bit_left r other) in omega (arith, t.less)

count_cut : (n k : ℕ) (f : ℕ → Bool) → ((s : ℕ) → f s ≡ true → s < n) → count (k + n) f ≡ count n f
count_cut n zero f h = let e : 0 + n ≡ n = omega arith in ap (λ (x : ℕ). count x f) e
count_cut n (suc k) f h =
    let e : suc k + n ≡ suc (k + n) = omega arith in
    ap (λ (x : ℕ). count x f) e ∙ count-false (k + n) f (is_false _ (λ t. omega (arith, h (k + n) t))) ∙ count_cut n k f h

-- the machine's count of a set of numbers below n
pub ones-count : (n x : ℕ) → n ≤ 16 → x < 65536 → ((s : ℕ) → has_bit x s ≡ true → s < n) → ones x ≡ count n (has_bit x)
ones-count n x l b h =
    let e : 16 ≡ (16 - n) + n = omega arith in
    ones_bits 16 x b ∙ ap (λ (m : ℕ). count m (has_bit x)) e ∙ count_cut n (16 - n) (has_bit x) h

-- ---- masks of sets

pub mask_has : {S : ℕ → Bool} {r : ℕ} → Mask S r → (i : ℕ) → S i ≡ true → has_bit r i ≡ true
mask_has m i h = m.each i ∙ h

pub mask_in : {S : ℕ → Bool} {r : ℕ} → Mask S r → (i : ℕ) → has_bit r i ≡ true → S i ≡ true
mask_in m i h = sym (m.each i) ∙ h

-- ---- sifting

module _ {all : ℕ} {test : ℕ → Bool} {rest r i rest' : ℕ} where
  -- one element more has been tested: it is in the mask where the test says so, and nothing else has changed
  sifted_next : {r' : ℕ} → Sifted all test rest r → FirstAndRest rest i rest' → has_bit r' i ≡ test i → ((k : ℕ) → (k ≡ i → ⊥) → has_bit r' k ≡ has_bit r k)
      → Sifted all test rest' r'
  sifted_next {r'} w t said same =
      let gone = t.removed in
      record {
        part = λ k h. w.part k (removed_was gone k h);
        done = λ k h.
            by_cases (eqb k i)
            (λ q. let e : k ≡ i = eqb-true k i q in
            subst (λ (x : ℕ). has_bit r' x ≡ has_bit all x && test x) (sym e) (said ∙ sym (ap (λ (b : Bool). b && test i) (w.part i t.lowest.has))))
            (λ q. let d : k ≡ i → ⊥ = eqb-false k i q in
            same k d ∙ w.done k (sym (removed_other gone k d) ∙ h));
        left = λ k h. same k (removed_differs gone k h) ∙ w.left k (removed_was gone k h);
      }

  pub sifted_skip : Sifted all test rest r → FirstAndRest rest i rest' → test i ≡ false → Sifted all test rest' r
  sifted_skip w t fails = sifted_next w t (w.left i t.lowest.has ∙ sym fails) (λ k d. refl)

  pub sifted_take : {r' : ℕ} → Sifted all test rest r → FirstAndRest rest i rest' → test i ≡ true → Added r i r' → Sifted all test rest' r'
  sifted_take w t holds more = sifted_next w t (added_has more ∙ sym holds) (added_other more)

-- with nothing left, the mask is that of a set which the test gives
pub sifted_all : (S : ℕ → Bool) {all : ℕ} {test : ℕ → Bool} {rest r : ℕ} → Sifted all test rest r → rest ≡ 0 → ((i : ℕ) → has_bit all i && test i ≡ S i) → Mask S r
sifted_all S {rest = rest} w e same = record { each = λ i. w.done i (zero_empty rest e i) ∙ same i }

-- the numbers below n are the lowest n bits
pub below_mask : (n word : ℕ) → word ≡ 2 ^ n - 1 → Mask (λ i. ltb i n) word
below_mask n word e = record { each = λ i. ap (λ (x : ℕ). has_bit x i) e ∙ full_bit n i }

-- the shift of a machine word of 16 or 64 bits
pub one_shifted : (w i : ℕ) → i < w → 1 * 2 ^ i % 2 ^ w ≡ 2 ^ i
one_shifted w i l = shl_exact 1 i w (lit< tt) (omega arith) ∙ one-mul (2 ^ i)

pub one_shifted_pos : (w i : ℕ) → i < w → 1 ≤ 1 * 2 ^ i % 2 ^ w
one_shifted_pos w i l = subst (λ (x : ℕ). 1 ≤ x) (sym (one_shifted w i l)) (pow_pos i)

-- ---- the least key

module _ (key : List ℕ) (m : ℕ) where
  module _ {left best i left' : ℕ} (w : LeastKey key m left best) (first : FirstAndRest left i left') where
    -- the least of those passed and of i
    least_more : (k : ℕ) → has_bit m k ≡ true → get_or key k 0 ≤ get_or key best 0 → get_or key k 0 ≤ get_or key i 0 → LeastKey key m left' k
    least_more k h a b =
        record {
          has = h;
          part = λ j x. w.part j (taken_was first j x);
          least = λ j x n.
              by_cases (eqb j i)
              (λ t. subst (λ (y : ℕ). get_or key k 0 ≤ get_or key y 0) (sym (eqb-true j i t)) b)
              (λ t. let l = w.least j x (sym (removed_other first.removed j (eqb-false j i t)) ∙ n) in omega arith);
        }

    pub least_kept : get_or key best 0 ≤ get_or key i 0 → LeastKey key m left' best
    least_kept l = least_more best w.has (omega arith) l

    pub least_new : get_or key i 0 < get_or key best 0 → LeastKey key m left' i
    least_new l = least_more i (w.part i first.lowest.has) (omega arith) (omega arith)

  pub least_all : {left i : ℕ} → LeastKey key m left i → left ≡ 0 → LeastKey key m 0 i
  least_all {left} {i} w e = subst (λ (x : ℕ). LeastKey key m x i) e w

-- a set without elements from n on has as many below any larger bound
pub size_below : (n m x : ℕ) → n ≤ m → x < 2 ^ n → count m (has_bit x) ≡ count n (has_bit x)
size_below n m x l h =
    let e : m ≡ m - n + n = omega arith in
    ap (λ (k : ℕ). count k (has_bit x)) e ∙ count_cut n (m - n) (has_bit x) (λ s t. has_below n x s h t)

-- so it has as many below any two bounds that it keeps to
pub size_same : (n m x : ℕ) → x < 2 ^ n → x < 2 ^ m → count n (has_bit x) ≡ count m (has_bit x)
size_same n m x a b =
    by_cases (ltb m n) (λ t. size_below m n x (let l = ltb-true m n t in omega arith) b)
    (λ t. sym (size_below n m x (ltb-false m n t) a))
