-- The machine's count of a word's set bits is the number of bits of the definition. Assumes nothing.
use mathlib.Core.Bool.{cond}
use mathlib.Core.Path.{◌≡◌, ap, sym, ◌∙◌, subst}
use Prim.Native.Nat.{ℕ, zero, suc, ◌+◌, ◌/◌, ◌%◌, ◌^◌, ◌-◌, ◌<◌}
use native.Mathlib.Omega.{arith}
use native.Mathlib.Nat.{div-lt_iff_lt-mul, mod-lt, pow-succ', zero-add}
use native.Mathlib.Numerals.{one-add}
use borrow.Author.Tests.{eqb-true, eqb-false}
use lib.Count.{ones, ones_cat}
use lib.Dec.{eqb}
use lib.Arith.{lt-one}
use lib.Pow.{pow_pos, split, field, mod-mod-pow}
use Rattle.bits.specs.Below.{count}
use Rattle.bits.specs.Word.{bit, has_bit, bits_set}
use Rattle.bits.proofs.Below.{by_cases}
use Rattle.bits.proofs.Counting.{count_cong}

-- the bits below k of a word are those of its remainder
pub bit-mod : (k x j : ℕ) → j < k → bit (x % 2 ^ k) j ≡ bit x j
bit-mod k x j l =
    let m = k - suc j in
    let e : k ≡ m + 1 + j = omega arith in
    ap (λ (n : ℕ). x % 2 ^ n / 2 ^ j % 2) e
    ∙ ap (λ (n : ℕ). n % 2) (field x (m + 1) j)
    ∙ mod-mod-pow (x / 2 ^ j) m 1

-- the highest of k + 1 bits is 0 or 1
top_bit : (k x : ℕ) → x < 2 ^ suc k → x / 2 ^ k < 2
top_bit k x h = (div-lt_iff_lt-mul (pow_pos k)).1 (subst (λ (n : ℕ). x < n) (pow-succ' 2 k) h)

ones_top : (k x : ℕ) → x < 2 ^ suc k → ones x ≡ ones (x / 2 ^ k) + ones (x % 2 ^ k)
ones_top k x h = ap ones (sym (split x k)) ∙ ones_cat k (x / 2 ^ k) (x % 2 ^ k) (mod-lt x (pow_pos k))

by_top : (a c : ℕ) → a < 2 → ones a + c ≡ cond (eqb (a % 2) 1) (suc c) c
unfolding ones
by_top a c h =
    by_cases (eqb a 0)
    (λ t. rw (eqb-true a 0 t) (zero-add c))
    (λ t. let z : a ≡ 0 → ⊥ = eqb-false a 0 t in let e : a ≡ 1 = omega arith in rw e (one-add c))

pub ones_bits : (k x : ℕ) → x < 2 ^ k → ones x ≡ bits_set k x
unfolding count ones
ones_bits zero x h = ap ones (lt-one h)
ones_bits (suc k) x h =
    ones_top k x h
    ∙ ap (λ (n : ℕ). ones (x / 2 ^ k) + n)
    (ones_bits k (x % 2 ^ k) (mod-lt x (pow_pos k))
    ∙ count_cong k (has_bit (x % 2 ^ k)) (has_bit x) (λ j l. ap (λ (n : ℕ). eqb n 1) (bit-mod k x j l)))
    ∙ by_top (x / 2 ^ k) (bits_set k x) (top_bit k x h)
