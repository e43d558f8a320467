-- Loads tallied step by step, and labels entered step by step. Assumes nothing.
use mathlib.Core.Bool.{Bool, true, ◌&&◌}
use mathlib.Core.List.{List}
use mathlib.Core.Path.{◌≡◌, refl, sym, ap, ◌∙◌}
use Prim.Native.Nat.{ℕ, suc, ◌+◌, ◌%◌, ◌^◌, ◌≤◌, ◌<◌, max}
use native.Mathlib.Omega.{arith}
use lib.Dec.{eqb}
use lib.ListN.{length, get_or, set, replicate, length-set, length-replicate, get_or-replicate}
use lib.Seq.{get_or-set_same, get_or-set_other}
use borrow.Author.Tests.{eqb-true, eqb-false, eq-eqb, ne_eqb}
use Rattle.bits.specs.Set.{FirstAndRest}
use Rattle.bits.specs.Word.{has_bit}
use Rattle.bits.proofs.Below.{by_cases, and_left}
use Rattle.bits.proofs.Counting.{and_of, count_cong, count_insert, count-le, count_none, is_false}
use Rattle.workflow.specs.Problem.{load_of, largest_load}
use Rattle.workflow.proofs.Labels.{Adds, Part, passed, passed_none, passed_all, passed_adds, part_rest}
use Rattle.workflow.proofs.Loads.{load_le_largest, largest_load-le, load_scope_mono, load_le_scope, load_cong, largest_load_few}

-- ---- one step more

module _ {n : ℕ} {part whole : ℕ → Bool} {s : ℕ} (adds : Adds n part whole s) (c : ℕ → ℕ) where
  -- its class holds one step more
  pub load_own : load_of n whole c (c s) ≡ suc (load_of n part c (c s))
  unfolding load_of
  load_own =
      count_insert n (λ u. part u && eqb (c u) (c s)) (λ u. whole u && eqb (c u) (c s)) s adds.below
      (ap (λ (b : Bool). b && eqb (c s) (c s)) adds.lacks) (and_of _ _ adds.has (eq-eqb (c s) (c s) refl))
      (λ u l d. ap (λ (b : Bool). b && eqb (c u) (c s)) (adds.others u d))

  -- and every other what it held
  pub load_other : (v : ℕ) → (v ≡ c s → ⊥) → load_of n whole c v ≡ load_of n part c v
  unfolding load_of
  load_other v d =
      count_cong n (λ u. whole u && eqb (c u) v) (λ u. part u && eqb (c u) v)
      (λ u l. by_cases (eqb u s)
      (λ t. rw (eqb-true u s t, adds.lacks, adds.has, ne_eqb (c s) v (λ e. d (sym e))) refl)
      (λ t. ap (λ (b : Bool). b && eqb (c u) v) (sym (adds.others u (eqb-false u s t)))))

  keeps : (u : ℕ) → u < n → part u ≡ true → whole u ≡ true
  keeps u l h = by_cases (eqb u s) (λ t. rw (eqb-true u s t) adds.has) (λ t. sym (adds.others u (eqb-false u s t)) ∙ h)

  -- so the largest load is what it was, or that of its class
  pub load_more : largest_load n whole c ≡ max (largest_load n part c) (load_of n whole c (c s))
  load_more =
      omega (
        arith,
        load_scope_mono n c part whole keeps,
        load_le_largest n whole c (c s),
        largest_load-le n whole c (max (largest_load n part c) (load_of n whole c (c s)))
            (λ u l h. by_cases (eqb (c u) (c s))
            (λ t. rw (eqb-true (c u) (c s) t) (omega arith))
            (λ t. omega (arith, load_other (c u) (eqb-false (c u) (c s) t), load_le_largest n part c (c u)))),
      )

-- ---- a walk along the steps of a set

-- the tally has the load of each label, and the largest of them
pub record LoadsOf (n : ℕ) (S : ℕ → Bool) (c : ℕ → ℕ) (held : List ℕ) (most : ℕ) : Type 0 where
  pub each : (v : ℕ) → v < 64 → get_or held v 0 ≡ load_of n S c v
  pub largest : most ≡ largest_load n S c

-- where the walk stands: the tally is that of the steps passed
pub record Tallied (steps : ℕ) (c : ℕ → ℕ) (left : ℕ) (held : List ℕ) (most : ℕ) : Type 0 where
  pub part : Part steps left
  pub sized : length held ≡ 64
  pub so_far : (n : ℕ) → steps < 2 ^ n → LoadsOf n (passed steps left) c held most

module _ {steps : ℕ} {c : ℕ → ℕ} where
  pub tallied_none : Tallied steps c steps (replicate {A = ℕ} 64 0) 0
  unfolding load_of
  tallied_none =
      record {
        part = λ s h. h;
        sized = length-replicate {A = ℕ} 64 0;
        so_far = λ n k.
            let none : (v : ℕ) → load_of n (passed steps steps) c v ≡ 0
            = λ v. count_none n _ (λ s l. is_false _ (λ h. absurd (passed_none steps s (and_left (passed steps steps s) _ h))))
            in
            record {
              each = λ v l. get_or-replicate {A = ℕ} 64 v 0 0 l ∙ sym (none v);
              largest = let z = largest_load-le n (passed steps steps) c 0 (λ s l h. absurd (passed_none steps s h)) in omega arith;
            };
      }

  module _ {left : ℕ} {held : List ℕ} {most s left' : ℕ} (w : Tallied steps c left held most) (next : FirstAndRest left s left') (few : steps < 4096) where
    -- no label has more than twelve steps
    pub tally_few : c s < 64 → get_or held (c s) 0 < 12
    tally_few l =
        let adds = passed_adds steps w.part next 12 few in
        omega (arith, (w.so_far 12 few).each (c s) l, load_own adds c, load_le_scope 12 (passed steps left') c (c s), count-le 12 (passed steps left'))

    pub tallied_more : c s < 64 → {most' : ℕ} → most' ≡ max most (get_or held (c s) 0 + 1) → Tallied steps c left' (set held (c s) (get_or held (c s) 0 + 1)) most'
    tallied_more l {most'} e =
        record {
          part = part_rest steps w.part next;
          sized = length-set held (c s) (get_or held (c s) 0 + 1) ∙ w.sized;
          so_far = λ n k.
              let adds = passed_adds steps w.part next n k in
              let own : get_or held (c s) 0 + 1 ≡ load_of n (passed steps left') c (c s) = omega (arith, (w.so_far n k).each (c s) l, load_own adds c) in
              record {
                each = λ v b.
                    by_cases (eqb v (c s))
                    (λ t. rw (eqb-true v (c s) t) (get_or-set_same held (c s) _ 0 (omega (arith, w.sized)) ∙ own))
                    (λ t. get_or-set_other held (c s) v _ 0 (eqb-false v (c s) t) ∙ (w.so_far n k).each v b ∙ sym (load_other adds c v (eqb-false v (c s) t)));
                largest = omega (arith, e, own, (w.so_far n k).largest, load_more adds c);
              };
        }

  pub tally_light : {left : ℕ} {held : List ℕ} {most : ℕ} → Tallied steps c left held most → steps < 4096 → most ≤ 12
  tally_light {left} w few = omega (arith, (w.so_far 12 few).largest, largest_load_few 12 (passed steps left) c)

  pub tallied_all : {left : ℕ} {held : List ℕ} {most : ℕ} → Tallied steps c left held most → left ≡ 0 → (n : ℕ) → steps < 2 ^ n
      → most ≡ largest_load n (has_bit steps) c
  tallied_all {left} {held} {most} w e n k =
      (w.so_far n k).largest
      ∙ omega (
        arith,
        load_scope_mono n c (passed steps left) (has_bit steps) (λ s l h. sym (passed_all steps e s) ∙ h),
        load_scope_mono n c (has_bit steps) (passed steps left) (λ s l h. passed_all steps e s ∙ h),
      )

-- ---- a walk that enters the label of each step of a set, c giving it

-- where it stands: the array has the labels of the steps passed
pub record Entered (steps : ℕ) (c : ℕ → ℕ) (left : ℕ) (labels : List ℕ) : Type 0 where
  pub each : (s : ℕ) → passed steps left s ≡ true → get_or labels s 0 ≡ c s

module _ {steps : ℕ} {c : ℕ → ℕ} where
  pub entered_none : {labels : List ℕ} → Entered steps c steps labels
  entered_none = record { each = λ s h. absurd (passed_none steps s h) }

  pub entered_more : {left s left' v : ℕ} {labels : List ℕ} → Entered steps c left labels → Part steps left → FirstAndRest left s left' → steps < 4096
      → length labels ≡ 12 → v ≡ c s → Entered steps c left' (set labels s v)
  entered_more {left} {s} {left'} {v} {labels} w part next few sized e =
      let adds = passed_adds steps part next 12 few in
      record {
        each = λ u h.
            by_cases (eqb u s)
            (λ t. rw (eqb-true u s t) (get_or-set_same labels s v 0 (omega (arith, sized, adds.below)) ∙ e))
            (λ t. get_or-set_other labels s u v 0 (eqb-false u s t) ∙ w.each u (adds.others u (eqb-false u s t) ∙ h));
      }

  -- at the end those of all
  pub entered_all : {left : ℕ} {labels : List ℕ} → Entered steps c left labels → left ≡ 0 → Entered steps c 0 labels
  entered_all w e = record { each = λ s h. w.each s (passed_all steps e s ∙ sym (passed_all steps refl s) ∙ h) }

  pub entered_at : {labels : List ℕ} → Entered steps c 0 labels → (s : ℕ) → has_bit steps s ≡ true → get_or labels s 0 ≡ c s
  entered_at w s h = w.each s (passed_all steps refl s ∙ h)

-- labels below 64 are tallied as they are
pub tallied_labels : (steps : ℕ) (c : ℕ → ℕ) (labels : List ℕ) → ((s : ℕ) → has_bit steps s ≡ true → get_or labels s 0 ≡ c s)
    → ((s : ℕ) → has_bit steps s ≡ true → c s < 64) → (n : ℕ) → largest_load n (has_bit steps) (λ s. get_or labels s 0 % 64) ≡ largest_load n (has_bit steps) c
tallied_labels steps c labels is small n = load_cong n (has_bit steps) _ _ (λ s l h. omega (arith, is s h, small s h))
