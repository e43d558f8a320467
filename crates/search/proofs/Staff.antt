-- The people and steps that masks hold: the people of a step, the steps that rules name. Assumes nothing.
use mathlib.Core.Bool.{true, false}
use mathlib.Core.List.{List}
use mathlib.Core.Path.{◌≡◌, sym, subst, ◌∙◌}
use Prim.Native.Nat.{ℕ, ◌+◌, ◌≤◌, ◌<◌}
use native.Mathlib.Nat.{not-suc-le-zero}
use native.Mathlib.Omega.{arith}
use lib.Bits.{bit_and}
use lib.Dec.{eqb, ltb}
use lib.ListN.{get_or, set, length-set}
use lib.Seq.{get_or-set_same, get_or-set_other}
use borrow.Author.Tests.{eqb-true, eqb-false, ltb-true, ltb-false, lt-ltb}
use Rattle.bits.specs.Word.{has_bit}
use Rattle.bits.specs.Set.{Added, Lowest, Mask}
use Rattle.bits.proofs.Masks.{some_bit, mask_has, mask_in}
use Rattle.bits.proofs.Below.{by_cases, true-false}
use Rattle.bits.proofs.SetLaws.{and-bit_left, and-bit_right, and_apart, empty_lacks, added_has, added_other}
use Rattle.pattern.specs.Tables.{plan_in}
use Rattle.search.specs.Existence.{Named, GivesFirst}

pub lowest_least : {mask r : ℕ} → Lowest mask r → (p : ℕ) → has_bit mask p ≡ true → r ≤ p
lowest_least {mask} {r} w p h = by_cases (ltb p r) (λ x. true-false h (w.before p (ltb-true p r x))) (λ x. ltb-false p r x)

module _ {people all : ℕ} (everybody : Mask (λ i. ltb i people) all) (m : ℕ) where
  pub somebody : (bit_and m all ≡ 0 → ⊥) → (p : ℕ) × (p < people) × (has_bit m p ≡ true)
  somebody n =
      let b = some_bit (bit_and m all) n in
      (b.0, ltb-true b.0 people (mask_in everybody b.0 (and-bit_right m all b.0 b.1)), and-bit_left m all b.0 b.1)

  pub nobody : bit_and m all ≡ 0 → (p : ℕ) → p < people → has_bit m p ≡ true → ⊥
  nobody e p l h = true-false (mask_has everybody p (lt-ltb p people l)) (and_apart m all p e h)

module _ {n : ℕ} {of : List ℕ} {r : ℕ} (w : Named n of r) where
  pub named_skip : get_or of n 0 ≡ 0 → Named (n + 1) of r
  named_skip e =
      record {
        below = λ s h. let l = w.below s h in omega arith;
        covers = λ s l h.
            by_cases (eqb s n)
            (λ t. subst (λ (k : ℕ). get_or of k 0 ≡ 0) (sym (eqb-true s n t)) e)
            (λ t. let d = eqb-false s n t in w.covers s (omega arith) h);
      }

  pub named_take : {r' : ℕ} → Added r n r' → Named (n + 1) of r'
  named_take {r'} more =
      record {
        below = λ s h.
            by_cases (eqb s n)
            (λ t. let e = eqb-true s n t in omega arith)
            (λ t. let l = w.below s (sym (added_other more s (eqb-false s n t)) ∙ h) in omega arith);
        covers = λ s l h.
            by_cases (eqb s n)
            (λ t. true-false (added_has more) (subst (λ (k : ℕ). has_bit r' k ≡ false) (eqb-true s n t) h))
            (λ t. let d = eqb-false s n t in w.covers s (omega arith) (sym (added_other more s d) ∙ h));
      }

module _ (s : ℕ) (may plan : List ℕ) (w : GivesFirst s may plan) where
  pub spread_more : (p : ℕ) → s < 12 → Lowest (get_or may s 0) p → GivesFirst (s + 1) may (set plan s p)
  spread_more p l f =
      record {
        sized = length-set plan s p ∙ w.sized;
        each = λ t m.
            by_cases (eqb t s)
            (λ x n. subst (λ (v : ℕ). Lowest (get_or may v 0) (plan_in (set plan s p) v)) (sym (eqb-true t s x))
            (subst (Lowest (get_or may s 0)) (sym (get_or-set_same plan s p 0 (omega (arith, w.sized)))) f))
            (λ x n.
            let d : t ≡ s → ⊥ = eqb-false t s x in
            subst (Lowest (get_or may t 0)) (sym (get_or-set_other plan s t p 0 d)) (w.each t (omega arith) n));
      }

  -- nobody may do the step
  pub spread_past : get_or may s 0 ≡ 0 → GivesFirst (s + 1) may plan
  spread_past e =
      record {
        sized = w.sized;
        each = λ t m n.
            by_cases (eqb t s)
            (λ x. absurd (n (subst (λ (v : ℕ). get_or may v 0 ≡ 0) (sym (eqb-true t s x)) e)))
            (λ x. let d : t ≡ s → ⊥ = eqb-false t s x in w.each t (omega arith) n);
      }
