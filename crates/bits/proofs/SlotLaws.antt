-- The first of each slot, one word further: a slot without an entry gets the new place, and another keeps its own. Assumes nothing.
use mathlib.Core.List.{List}
use mathlib.Core.Path.{◌≡◌, ◌∙◌, ap}
use Prim.Native.Nat.{ℕ, ◌+◌, ◌-◌, ◌<◌, ◌≤◌}
use native.Mathlib.Omega.{arith}
use native.Mathlib.Nat.{not-suc-le-zero}
use lib.Dec.{eqb, ltb}
use lib.ListN.{get_or, set, replicate, length-set, length-replicate, get_or-replicate, get_or-eq_default}
use lib.Seq.{get_or-set_same, get_or-set_other}
use borrow.Author.Count.{below_more}
use borrow.Author.Tests.{eqb-true, eqb-false, ltb-true, ltb-false}
use Rattle.bits.specs.Slots.{slot_of, FirstOfSlot, NoneBefore}
use Rattle.bits.proofs.Below.{by_cases}

pub firsts_none : (words : List ℕ) → FirstOfSlot words 0 (replicate {A = ℕ} 1024 0)
firsts_none words =
    record {
      size = length-replicate {A = ℕ} 1024 0;
      below =
          λ h.
          by_cases (ltb h 1024)
          (λ t. omega (arith, get_or-replicate {A = ℕ} 1024 h 0 0 (ltb-true h 1024 t)))
          (λ t. omega (arith, get_or-eq_default (replicate {A = ℕ} 1024 0) 0 (ltb-false h 1024 t)));
      some = λ j h. absurd (not-suc-le-zero h);
      first = λ j h. absurd (not-suc-le-zero h);
    }

module _ (words : List ℕ) (k : ℕ) (firsts : List ℕ) (w : FirstOfSlot words k firsts) where
  -- nobody was in the slot
  module _ (e : get_or firsts (slot_of words k) 0 ≡ 0) where
    free : (j : ℕ) → j < k → slot_of words j ≡ slot_of words k → ⊥
    free j l s = let z : get_or firsts (slot_of words j) 0 ≡ 0 = ap (λ (h : ℕ). get_or firsts h 0) s ∙ e in omega (arith, w.some j l)

    pub none_before_own : NoneBefore words k k
    none_before_own = record { within = omega arith; before = free }

    entered : get_or (set firsts (slot_of words k) (k + 1)) (slot_of words k) 0 ≡ k + 1
    entered = get_or-set_same firsts (slot_of words k) (k + 1) 0 (omega (arith, w.size))

    still : (j : ℕ) → j < k → get_or (set firsts (slot_of words k) (k + 1)) (slot_of words j) 0 ≡ get_or firsts (slot_of words j) 0
    still j l = get_or-set_other firsts (slot_of words k) (slot_of words j) (k + 1) 0 (free j l)

    pub firsts_new : FirstOfSlot words (k + 1) (set firsts (slot_of words k) (k + 1))
    firsts_new =
        record {
          size = length-set firsts (slot_of words k) (k + 1) ∙ w.size;
          below =
              λ h.
              by_cases (eqb h (slot_of words k))
              (λ t. let z : get_or (set firsts (slot_of words k) (k + 1)) h 0 ≡ k + 1 = ap (λ (x : ℕ). get_or (set firsts (slot_of words k) (k + 1)) x 0) (eqb-true _ _ t) ∙ entered in omega arith)
              (λ t. omega (arith, w.below h, get_or-set_other firsts (slot_of words k) h (k + 1) 0 (eqb-false _ _ t)));
          some =
              below_more (λ (j : ℕ). 0 < get_or (set firsts (slot_of words k) (k + 1)) (slot_of words j) 0) k
              (λ j l. omega (arith, still j l, w.some j l)) (omega (arith, entered));
          first =
              below_more (λ (j : ℕ). get_or (set firsts (slot_of words k) (k + 1)) (slot_of words j) 0 ≤ j + 1) k
              (λ j l. omega (arith, still j l, w.first j l)) (omega (arith, entered));
        }

  -- somebody was
  module _ (n : get_or firsts (slot_of words k) 0 ≡ 0 → ⊥) where
    pub none_before_other : NoneBefore words k (get_or firsts (slot_of words k) 0 - 1)
    none_before_other =
        record {
          within = omega (arith, w.below (slot_of words k));
          before =
              λ j l s.
              let z : get_or firsts (slot_of words j) 0 ≡ get_or firsts (slot_of words k) 0 = ap (λ (h : ℕ). get_or firsts h 0) s in
              omega (arith, w.below (slot_of words k), w.first j (omega (arith, w.below (slot_of words k))));
        }

    pub firsts_same : FirstOfSlot words (k + 1) firsts
    firsts_same =
        record {
          size = w.size;
          below = λ h. omega (arith, w.below h);
          some = below_more (λ (j : ℕ). 0 < get_or firsts (slot_of words j) 0) k w.some (omega arith);
          first = below_more (λ (j : ℕ). get_or firsts (slot_of words j) 0 ≤ j + 1) k w.first (omega (arith, w.below (slot_of words k)));
        }
