-- A signed step is left to its signer alone, in the masks of people. Assumes nothing.
use mathlib.Core.Bool.{Bool, true, false, ◌&&◌, ◌||◌, and-true, and-false}
use mathlib.Core.List.{List}
use mathlib.Core.Path.{◌≡◌, sym, ◌∙◌, ap, subst}
use Prim.Native.Nat.{ℕ, suc, ◌+◌, ◌-◌, ◌≤◌, ◌<◌}
use native.Mathlib.Omega.{arith}
use native.Mathlib.Nat.{not-suc-le-zero}
use native.Mathlib.Numerals.{add-one}
use lib.Dec.{eqb}
use lib.ListN.{length, get_or, set, length-set}
use lib.Seq.{get_or-set_same, get_or-set_other}
use borrow.Author.Tests.{eq-eqb, ne_eqb, eqb-true, eqb-false}
use Rattle.bits.specs.Set.{Added}
use Rattle.bits.specs.Word.{has_bit}
use Rattle.bits.proofs.Below.{by_cases, below_suc}
use Rattle.bits.proofs.SetLaws.{empty_lacks}
use Rattle.signing.specs.Bound.{left_to}
use Rattle.signing.specs.Masks.{Left, BoundMasks}

-- the signer, and nobody else
left_is : (signer p : ℕ) → 1 ≤ signer → left_to signer p ≡ eqb signer (suc p)
left_is signer p h = ap (λ (b : Bool). b || eqb signer (suc p)) (ne_eqb signer 0 (λ e. absurd (omega arith)))

-- an open step is left to everybody
pub left_open : (mask signer : ℕ) → signer ≡ 0 → Left mask signer mask
left_open mask signer e =
    record {
      each = λ p l. sym (ap (λ (b : Bool). has_bit mask p && (b || eqb signer (suc p))) (eq-eqb signer 0 e) ∙ and-true (has_bit mask p));
    }

-- a signed one to nobody where its signer is none of the people
pub left_nobody : (mask signer : ℕ) → 1 ≤ signer → ((p : ℕ) → p < 64 → signer ≡ suc p → has_bit mask p ≡ false) → Left mask signer 0
left_nobody mask signer h lacks =
    record {
      each = λ p l.
          empty_lacks p ∙
          by_cases (eqb signer (suc p))
          (λ t. sym (ap (λ (b : Bool). b && left_to signer p) (lacks p l (eqb-true signer (suc p) t))))
          (λ f. sym (ap (λ (b : Bool). has_bit mask p && b) (left_is signer p h ∙ f) ∙ and-false (has_bit mask p)));
    }

pub left_lacking : (mask signer : ℕ) → 1 ≤ signer → has_bit mask (signer - 1) ≡ false → Left mask signer 0
left_lacking mask signer h lacks =
    left_nobody mask signer h (λ p l e. let d : p ≡ signer - 1 = omega arith in ap (has_bit mask) d ∙ lacks)

-- and else to the signer
pub left_signer : (mask signer r : ℕ) → 1 ≤ signer → has_bit mask (signer - 1) ≡ true → Added 0 (signer - 1) r → Left mask signer r
left_signer mask signer r h has a =
    record {
      each = λ p l.
          a.each p ∙ ap (λ (b : Bool). b || eqb p (signer - 1)) (empty_lacks p) ∙
          by_cases (eqb signer (suc p))
          (λ t.
          let e : signer ≡ suc p = eqb-true signer (suc p) t in
          let d : p ≡ signer - 1 = omega arith in
          eq-eqb p (signer - 1) d
          ∙ sym (ap (λ (b : Bool). has_bit mask p && b) (left_is signer p h ∙ t) ∙ and-true (has_bit mask p) ∙ ap (has_bit mask) d ∙ has))
          (λ f.
          ne_eqb p (signer - 1) (λ d. eqb-false signer (suc p) f (omega arith))
          ∙ sym (ap (λ (b : Bool). has_bit mask p && b) (left_is signer p h ∙ f) ∙ and-false (has_bit mask p)));
    }

-- the masks step by step
module _ (may signer : List ℕ) where
  pub bound_none : (rest : List ℕ) → length rest ≡ 12 → BoundMasks may signer 0 rest
  bound_none rest l = record { sized = l; each = λ s p h k. absurd (not-suc-le-zero h) }

  pub bound_more : (n : ℕ) (rest : List ℕ) (r : ℕ) → n < 12 → BoundMasks may signer n rest → Left (get_or may n 0) (get_or signer n 0) r
      → BoundMasks may signer (n + 1) (set rest n r)
  bound_more n rest r l b w =
      let z = b.sized in
      record {
        sized = length-set rest n r ∙ z;
        each = λ s p h k.
            below_suc n s (subst (λ (x : ℕ). s < x) (add-one n) h)
            (λ q. ap (λ (x : ℕ). has_bit x p) (get_or-set_other rest n s r 0 (omega arith)) ∙ b.each s p q k)
            (λ e. rw e (ap (λ (x : ℕ). has_bit x p) (get_or-set_same rest n r 0 (omega arith)) ∙ w.each p k));
      }

  pub bound_all : (n : ℕ) (rest : List ℕ) → n ≤ 12 → 12 ≤ n → BoundMasks may signer n rest → BoundMasks may signer 12 rest
  bound_all n rest a b k = let e : n ≡ 12 = omega arith in subst (λ (x : ℕ). BoundMasks may signer x rest) e k
