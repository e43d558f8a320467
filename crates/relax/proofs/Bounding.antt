-- The law of the bound: a plan with at most m coarse classes over a scope has at most so many fine ones as m coarse classes have together.
-- Assumes nothing.
use mathlib.Core.Bool.{Bool, true, ◌&&◌}
use mathlib.Core.List.{List}
use mathlib.Core.Path.{◌≡◌, refl, sym, subst, ap, ◌∙◌}
use Prim.Native.Nat.{ℕ, zero, suc, ◌+◌, ◌-◌, ◌≤◌, ◌<◌}
use native.Mathlib.Omega.{arith}
use native.Mathlib.Nat.{not-suc-le-zero}
use lib.Dec.{eqb, leb, ltb}
use lib.ListN.{get_or}
use borrow.Author.Tests.{eqb-true, eq-eqb, ltb-true, ltb-false, leb-true, leb-false, le-leb}
use Rattle.bits.specs.Below.{count}
use Rattle.bits.proofs.Below.{by_cases, true-false, below_suc, and_left, and_right}
use Rattle.bits.proofs.Counting.{and_of, count-true, count_mono, count_grows, count_split}
use Rattle.workflow.specs.Problem.{Plan, opens, distinct}
use Rattle.workflow.proofs.Counts.{opens_of}
use Rattle.workflow.proofs.Occurs.{occurs, occurs_of, occurs_at, distinct_occurs}
use Rattle.pattern.specs.Number.{first_use, classes_before}
use Rattle.pattern.proofs.Number.{use_le, use_class, use_new, use_own, uses_distinct, number_first, number_below}
use Rattle.relax.specs.Bound.{Nests, inside, rank, of_rank, Counted, together, Needs}
use Rattle.relax.proofs.Tallying.{coarse_below, classes_few}

-- numbers that c takes to different ones of g are at most as many
count_into : (n bound : ℕ) (f g : ℕ → Bool) (c : ℕ → ℕ) → ((s : ℕ) → s < n → f s ≡ true → c s < bound) → ((s : ℕ) → s < n → f s ≡ true → g (c s) ≡ true)
    → ((s t : ℕ) → t < s → s < n → f s ≡ true → f t ≡ true → c t ≡ c s → ⊥) → count n f ≤ count bound g
unfolding distinct
count_into n bound f g c below into differ =
    let a : count n f ≤ distinct n f c = count_mono n f (opens f c) (λ s l h. opens_of f c s h (λ t m k e. differ s t m l h k e)) in
    let b : distinct n f c ≡ count bound (occurs n f c) = distinct_occurs f c n bound below in
    let d : count bound (occurs n f c) ≤ count bound g
    = count_mono bound (occurs n f c) g
    (λ v l o. let w = occurs_at f c n v o in subst (λ (x : ℕ). g x ≡ true) w.3 (into w.0 w.1 w.2))
    in
    omega arith

-- the numbers before one that has f are fewer than those before a later one
pub count_before : (m n : ℕ) (f : ℕ → Bool) → f m ≡ true → m < n → count m f < count n f
count_before m zero f h l = absurd (not-suc-le-zero l)
count_before m (suc n) f h l =
    below_suc n m l
    (λ b. omega (arith, count_before m n f h b, count_grows n f))
    (λ e. rw e (omega (arith, count-true n f (subst (λ (x : ℕ). f x ≡ true) e h))))

module _ (people : ℕ) (few : people ≤ 64) (coarse fine : ℕ → ℕ) (nests : Nests people coarse fine) where
  -- the first use of the fine class of each person
  abbrev lead : ℕ → ℕ
  lead = first_use people fine

  -- two fine classes of one coarse class have different ranks
  rank_rises : (s t : ℕ) → t < s → lead t ≡ t → coarse t ≡ coarse s → rank people coarse fine t < rank people coarse fine s
  unfolding rank
  rank_rises s t l h e =
      rw e (count_before t s (inside people coarse fine (coarse s)) (and_of _ _ (eq-eqb (lead t) t h) (eq-eqb (coarse t) (coarse s) e)) l)

  -- a rank is less than the number of fine classes: each class that comes before it is one of them
  rank_below : (p : ℕ) → p < people → lead p ≡ p → rank people coarse fine p < classes_before fine people
  unfolding rank distinct
  rank_below p l e =
      let a : count p (inside people coarse fine (coarse p)) ≤ classes_before fine p
      = count_mono p (inside people coarse fine (coarse p)) (opens (λ t. true) fine)
      (λ t m h.
      let u : lead t ≡ t = eqb-true _ _ (and_left (eqb (lead t) t) _ h) in
      opens_of (λ k. true) fine t refl (λ k n i d. use_new people fine t k (omega arith) d))
      in
      omega (arith, number_first people fine p e, number_below people fine p l)

  -- some fine classes f, by their first uses, which lie in the coarse classes g
  module _ (f g : ℕ → Bool) (firsts : (p : ℕ) → p < people → f p ≡ true → lead p ≡ p) (lies : (p : ℕ) → p < people → f p ≡ true → g (coarse p) ≡ true) where
    -- those of rank r
    abbrev only : ℕ → ℕ → Bool
    only r p = f p && eqb (rank people coarse fine p) r

    -- those of ranks up to r
    abbrev upto : ℕ → ℕ → Bool
    upto r p = f p && leb (rank people coarse fine p) r

    only_lie : (r : ℕ) → count people (only r) ≤ count people g
    only_lie r =
        count_into people people (only r) g coarse
        (λ s l h. coarse_below nests s l)
        (λ s l h. lies s l (and_left (f s) _ h))
        (λ s t m l h k e.
        let a : rank people coarse fine s ≡ r = eqb-true _ _ (and_right (f s) _ h) in
        let b : rank people coarse fine t ≡ r = eqb-true _ _ (and_right (f t) _ k) in
        let d : rank people coarse fine t < rank people coarse fine s = rank_rises s t m (firsts t (omega arith) (and_left (f t) _ k)) e in
        omega arith)

    only_all : (r : ℕ) → count people (only r) ≤ count people (of_rank people coarse fine r)
    only_all r =
        count_mono people (only r) (of_rank people coarse fine r)
        (λ p l h. and_of _ _ (eq-eqb (lead p) p (firsts p l (and_left (f p) _ h))) (and_right (f p) _ h))

    module _ (classes : ℕ) (counts : List ℕ) (w : Counted people coarse fine classes counts) (m : ℕ) (lying : count people g ≤ m) where
      upto_together : (r : ℕ) → r < 64 → count people (upto r) ≤ together counts m r
      unfolding together
      upto_together zero l =
          let a : count people (upto zero) ≤ count people (only zero)
          = count_mono people (upto zero) (only zero)
          (λ p b h. and_of (f p) _ (and_left (f p) _ h)
          (eq-eqb (rank people coarse fine p) zero (let z : rank people coarse fine p ≤ zero = leb-true _ _ (and_right (f p) _ h) in omega arith)))
          in
          omega (arith, only_lie zero)
      upto_together (suc r) l =
          let a : count people (upto r) ≤ together counts m r = upto_together r (omega arith) in
          let b : count people (upto (suc r)) ≤ count people (upto r) + count people (only (suc r))
          = count_split people (upto (suc r)) (upto r) (only (suc r))
          (λ p d h k.
          let x : f p ≡ true = and_left (f p) _ h in
          let y : rank people coarse fine p ≤ suc r = leb-true _ _ (and_right (f p) _ h) in
          and_of (f p) _ x
          (eq-eqb (rank people coarse fine p) (suc r)
          (by_cases (leb (rank people coarse fine p) r)
          (λ t. true-false (and_of (f p) _ x t) k)
          (λ t. let z : r < rank people coarse fine p = leb-false _ _ t in omega arith))))
          in
          by_cases (ltb (get_or counts (suc r) 0) m)
          (λ t. rw t (omega (arith, only_all (suc r), w.by_rank.each (suc r) l)))
          (λ t. rw t (omega (arith, only_lie (suc r))))

      all-together : count people f ≤ together counts m (classes - 1)
      all-together =
          let a : count people f ≤ count people (upto (classes - 1))
          = count_mono people f (upto (classes - 1))
          (λ p l h. and_of (f p) _ h (le-leb (rank people coarse fine p) (classes - 1) (omega (arith, rank_below p l (firsts p l h), w.all))))
          in
          omega (arith, upto_together (classes - 1) (omega (arith, classes_few few w)))

  module _ (steps : ℕ) (scope : ℕ → Bool) (π : Plan) (within : (s : ℕ) → s < steps → π s < people) where
    -- the fine classes that the plan has over the scope, by their first uses
    abbrev fines : ℕ → Bool
    fines = occurs steps scope (λ s. lead (π s))

    abbrev coarses : ℕ → Bool
    coarses = occurs steps scope (λ s. coarse (π s))

    firsts : (p : ℕ) → p < people → fines p ≡ true → lead p ≡ p
    firsts p l o =
        let x = occurs_at scope (λ s. lead (π s)) steps p o in
        subst (λ (v : ℕ). lead v ≡ v) x.3 (use_own people fine (π x.0) (within x.0 x.1))

    lies : (p : ℕ) → p < people → fines p ≡ true → coarses (coarse p) ≡ true
    lies p l o =
        let x = occurs_at scope (λ s. lead (π s)) steps p o in
        let i = within x.0 x.1 in
        occurs_of scope (λ s. coarse (π s)) steps (coarse p) x.0 x.1 x.2
        (nests.up (π x.0) p i l (sym (use_class people fine (π x.0) i) ∙ ap fine x.3))

    -- the law of the bound
    pub bounded : (classes : ℕ) (counts : List ℕ) → Counted people coarse fine classes counts → (m : ℕ) → distinct steps scope (λ s. coarse (π s)) ≤ m
        → distinct steps scope (λ s. fine (π s)) ≤ together counts m (classes - 1)
    bounded classes counts w m lying =
        let a : distinct steps scope (λ s. lead (π s)) ≡ count people fines
        = distinct_occurs scope (λ s. lead (π s)) steps people (λ s l i. omega (arith, use_le people fine (π s), within s l))
        in
        let b : distinct steps scope (λ s. coarse (π s)) ≡ count people coarses
        = distinct_occurs scope (λ s. coarse (π s)) steps people (λ s l i. coarse_below nests (π s) (within s l))
        in
        let d : distinct steps scope (λ s. lead (π s)) ≡ distinct steps scope (λ s. fine (π s)) = uses_distinct people fine steps scope π (λ s l i. within s l) in
        omega (arith, all-together fines coarses firsts lies classes counts w m (omega arith))

    -- so many coarse classes are needed for k fine ones
    pub needed : (classes : ℕ) (counts : List ℕ) → Counted people coarse fine classes counts → (k r : ℕ) → Needs counts (classes - 1) k r
        → 1 ≤ distinct steps scope (λ s. coarse (π s)) → k ≤ distinct steps scope (λ s. fine (π s)) → r ≤ distinct steps scope (λ s. coarse (π s))
    needed classes counts w k r n some enough =
        by_cases (ltb (distinct steps scope (λ s. coarse (π s))) r)
        (λ t. absurd
        (omega (
          arith,
          bounded classes counts w (distinct steps scope (λ s. coarse (π s))) (omega arith),
          n.fewer (distinct steps scope (λ s. coarse (π s))) some (ltb-true _ _ t),
        )))
        (λ t. ltb-false _ _ t)
