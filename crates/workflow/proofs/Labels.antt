-- Labels gathered step by step, and counted. Assumes nothing.
use mathlib.Core.Bool.{Bool, true, false, not, ◌&&◌, ◌||◌, or-true, or-false}
use mathlib.Core.Path.{◌≡◌, sym, subst, ap, ◌∙◌}
use Prim.Native.Nat.{ℕ, ◌^◌, ◌<◌}
use lib.Count.{ones}
use lib.Dec.{eqb}
use borrow.Author.Tests.{eqb-true, eqb-false, not-true}
use Rattle.bits.specs.Word.{has_bit}
use Rattle.bits.specs.Set.{Added, FirstAndRest}
use Rattle.bits.proofs.Below.{by_cases, true-false, and_left, and_right}
use Rattle.bits.proofs.Counting.{and_of, is_false, bool_ext, count_cong}
use Rattle.bits.proofs.Masks.{taken_was}
use Rattle.bits.proofs.Ones.{ones_bits}
use Rattle.bits.proofs.SetLaws.{empty_lacks, zero_empty, added_has, added_keeps, added_other, removed_lacks, removed_other, has_below}
use Rattle.workflow.specs.Problem.{distinct}
use Rattle.workflow.proofs.Occurs.{occurs, occurs_of, occurs_at, distinct_occurs}
use Rattle.workflow.specs.Labels.{LabelsOf}

-- the whole is the part and s
pub record Adds (n : ℕ) (part whole : ℕ → Bool) (s : ℕ) : Type 0 where
  pub below : s < n
  pub lacks : part s ≡ false
  pub has : whole s ≡ true
  pub others : (u : ℕ) → (u ≡ s → ⊥) → part u ≡ whole u

-- a label that is had
pub added_had : {labels v : ℕ} → has_bit labels v ≡ true → Added labels v labels
added_had {labels} {v} h =
    record {
      each = λ u. by_cases (eqb u v)
          (λ t. subst (λ (x : ℕ). has_bit labels x ≡ true) (sym (eqb-true u v t)) h ∙ sym (ap (◌||◌ (has_bit labels u)) t ∙ or-true (has_bit labels u)))
          (λ t. sym (ap (◌||◌ (has_bit labels u)) t ∙ or-false (has_bit labels u)));
    }

module _ {n : ℕ} {S : ℕ → Bool} {c : ℕ → ℕ} where
  -- no step, no label
  pub labels_none : ((s : ℕ) → s < n → S s ≡ true → ⊥) → LabelsOf n S c 0
  labels_none h = record { has = λ s l i. absurd (h s l i); only = λ v i. true-false i (empty_lacks v) }

  -- the labels of the same steps
  pub labels_cong : {S' : ℕ → Bool} {labels : ℕ} → ((s : ℕ) → s < n → S s ≡ S' s) → LabelsOf n S c labels → LabelsOf n S' c labels
  labels_cong e w =
      record {
        has = λ s l i. w.has s l (e s l ∙ i);
        only = λ v i. let o = w.only v i in (o.0, o.1, sym (e o.0 o.1) ∙ o.2, o.3);
      }

  -- a step more, and its label
  pub labels_more : {S' : ℕ → Bool} {s labels labels' : ℕ} → LabelsOf n S c labels → Adds n S S' s → Added labels (c s) labels' → LabelsOf n S' c labels'
  labels_more {S'} {s} {labels} {labels'} w adds more =
      record {
        has = λ u l i.
            by_cases (eqb u s)
            (λ t. subst (λ (x : ℕ). has_bit labels' (c x) ≡ true) (sym (eqb-true u s t)) (added_has more))
            (λ t. added_keeps more (c u) (w.has u l (adds.others u (eqb-false u s t) ∙ i)));
        only = λ v i.
            by_cases (eqb v (c s))
            (λ t. (s, adds.below, adds.has, sym (eqb-true v (c s) t)))
            (λ t. let o = w.only v (sym (added_other more v (eqb-false v (c s) t)) ∙ i) in
            (o.0, o.1, sym (adds.others o.0 (λ e. true-false o.2 (ap S e ∙ adds.lacks))) ∙ o.2, o.3));
      }

  -- there are as many as different ones
  pub labels_count : {labels : ℕ} → labels < 2 ^ 64 → LabelsOf n S c labels → ones labels ≡ distinct n S c
  labels_count {labels} fits w =
      ones_bits 64 labels fits
      ∙ count_cong 64 (has_bit labels) (occurs n S c)
      (λ v l. bool_ext _ _
      (λ h. let o = w.only v h in occurs_of S c n v o.0 o.1 o.2 o.3)
      (λ h. let o = occurs_at S c n v h in subst (λ (x : ℕ). has_bit labels x ≡ true) o.3 (w.has o.0 o.1 o.2)))
      ∙ sym (distinct_occurs S c n 64 (λ s l h. has_below 64 labels (c s) fits (w.has s l h)))

-- ---- a walk along the steps of a set

-- the steps that are left are of the set
abbrev pub Part : ℕ → ℕ → Type 0
Part steps left = (s : ℕ) → has_bit left s ≡ true → has_bit steps s ≡ true

-- the steps of a set that are not left
abbrev pub passed : ℕ → ℕ → ℕ → Bool
passed steps left s = has_bit steps s && not (has_bit left s)

module _ (steps : ℕ) where
  pub passed_none : (s : ℕ) → passed steps steps s ≡ true → ⊥
  passed_none s h = true-false (and_left (has_bit steps s) _ h) (not-true _ (and_right (has_bit steps s) _ h))

  pub passed_all : {left : ℕ} → left ≡ 0 → (s : ℕ) → passed steps left s ≡ has_bit steps s
  passed_all {left} e s = bool_ext _ _ (λ h. and_left (has_bit steps s) _ h) (λ h. and_of (has_bit steps s) _ h (ap not (zero_empty left e s)))

  module _ {left s left' : ℕ} (part : Part steps left) (first : FirstAndRest left s left') where
    pub part_rest : Part steps left'
    part_rest u h = part u (taken_was first u h)

    -- the step of a turn
    pub turn_below : (n : ℕ) → steps < 2 ^ n → s < n
    turn_below n k = has_below n steps s k (part s first.lowest.has)

    pub passed_adds : (n : ℕ) → steps < 2 ^ n → Adds n (passed steps left) (passed steps left') s
    passed_adds n k =
        record {
          below = turn_below n k;
          lacks = is_false _ (λ h. true-false first.lowest.has (not-true _ (and_right (has_bit steps s) _ h)));
          has = and_of (has_bit steps s) _ (part s first.lowest.has) (ap not (removed_lacks first.removed));
          others = λ u d. ap (λ (b : Bool). has_bit steps u && not b) (sym (removed_other first.removed u d));
        }

-- ---- a walk that gathers the labels of a set of steps, c giving the label of each

-- where it stands: the labels are those of the steps passed
pub record Gathered (steps : ℕ) (c : ℕ → ℕ) (left labels : ℕ) : Type 0 where
  pub part : Part steps left
  pub so_far : (n : ℕ) → steps < 2 ^ n → LabelsOf n (passed steps left) c labels

module _ {steps : ℕ} {c : ℕ → ℕ} where
  pub gathered_none : Gathered steps c steps 0
  gathered_none = record { part = λ s h. h; so_far = λ n l. labels_none (λ s k h. passed_none steps s h) }

  pub gathered_more : {left labels s left' label labels' : ℕ} → Gathered steps c left labels → FirstAndRest left s left' → label ≡ c s
      → Added labels label labels' → Gathered steps c left' labels'
  gathered_more {left} {labels} {s} {left'} {label} {labels'} w next is more =
      record {
        part = part_rest steps w.part next;
        so_far = λ n l. labels_more (w.so_far n l) (passed_adds steps w.part next n l) (subst (λ (x : ℕ). Added labels x labels') is more);
      }

  pub gathered_all : {left labels : ℕ} → Gathered steps c left labels → left ≡ 0 → (n : ℕ) → steps < 2 ^ n → LabelsOf n (has_bit steps) c labels
  gathered_all w e n l = labels_cong (λ s k. passed_all steps e s) (w.so_far n l)
