-- The laws of first uses and of the numbers of classes. Assumes nothing.
use mathlib.Core.Bool.{Bool, true}
use mathlib.Core.List.{[], ◌∷◌}
use mathlib.Core.Path.{◌≡◌, refl, sym, subst, ap, ◌∙◌}
use Prim.Native.Nat.{ℕ, zero, suc, ◌≤◌, ◌<◌}
use native.Mathlib.Nat.{not-suc-le-zero}
use native.Mathlib.Omega.{arith}
use lib.Dec.{eqb, ltb}
use lib.ListN.{get_or}
use borrow.Author.Tests.{eqb-true, eqb-false, eq-eqb, ltb-true, ltb-false}
use Rattle.bits.specs.Below.{any, first, count}
use Rattle.bits.proofs.Below.{by_cases, below_suc, true-false, first_has, first_none, first_cong}
use Rattle.bits.proofs.Counting.{bool_ext, count-true, count-false, count_grows}
use Rattle.workflow.specs.Problem.{Plan, opens, distinct, largest_load}
use Rattle.workflow.specs.Independent.{Alike}
use Rattle.workflow.proofs.Counts.{opens_new, opens_of, distinct_alike, distinct-le}
use Rattle.workflow.proofs.Loads.{load_alike}
use Rattle.pattern.specs.Number.{first_use, classes_before, number_of, Numbering}

-- ---- numbers below a bound

-- `first` comes no later than a number that has f
pub first_at_most : (n : ℕ) (f : ℕ → Bool) (k : ℕ) → f k ≡ true → first n f ≤ k
first_at_most n f k h =
    by_cases (ltb k (first n f))
    (λ t. true-false h (first_none n f k (ltb-true _ _ t)))
    (λ t. ltb-false _ _ t)

-- there are no fewer below a greater bound
pub count_longer : (m : ℕ) (f : ℕ → Bool) (n : ℕ) → n ≤ m → count n f ≤ count m f
count_longer zero f n l = let e : n ≡ zero = omega arith in subst (λ (x : ℕ). count x f ≤ count zero f) (sym e) (omega arith)
count_longer (suc m) f n l =
    below_suc (suc m) n (omega arith)
    (λ h. omega (arith, count_longer m f n (omega arith), count_grows m f))
    (λ e. subst (λ (x : ℕ). count x f ≤ count (suc m) f) (sym e) (omega arith))

-- ---- the first use of a class; c gives the class of each of so many people

module _ (people : ℕ) (c : ℕ → ℕ) where
  -- those who share a class have one first use
  pub use_same : (p p' : ℕ) → c p ≡ c p' → first_use people c p ≡ first_use people c p'
  unfolding first_use
  use_same p p' e = ap (λ (v : ℕ). first people (λ x. eqb (c x) v)) e

  -- it is at or before each of them
  pub use_le : (p : ℕ) → first_use people c p ≤ p
  unfolding first_use
  use_le p = first_at_most people (λ x. eqb (c x) (c p)) p (eq-eqb (c p) (c p) refl)

  -- and at one of them
  pub use_class : (p : ℕ) → p < people → c (first_use people c p) ≡ c p
  unfolding first_use
  use_class p l = eqb-true _ _ (first_has people (λ x. eqb (c x) (c p)) (omega (arith, first_at_most people (λ x. eqb (c x) (c p)) p (eq-eqb (c p) (c p) refl))))

  -- no one before it shares the class
  pub use_new : (p k : ℕ) → k < first_use people c p → c k ≡ c p → ⊥
  unfolding first_use
  use_new p k l e = true-false (eq-eqb (c k) (c p) e) (first_none people (λ x. eqb (c x) (c p)) k l)

  -- it is its own
  pub use_own : (p : ℕ) → p < people → first_use people c (first_use people c p) ≡ first_use people c p
  use_own p l = use_same (first_use people c p) p (use_class p l)

  -- those who have one first use share a class
  pub use_tells : (p p' : ℕ) → p < people → p' < people → first_use people c p ≡ first_use people c p' → c p ≡ c p'
  use_tells p p' l l' e = sym (use_class p l) ∙ ap c e ∙ use_class p' l'

  -- first uses tell the classes of a plan's people apart
  module _ (n : ℕ) (S : ℕ → Bool) (π : Plan) (within : (s : ℕ) → s < n → S s ≡ true → π s < people) where
    uses_alike : Alike n S (λ s. first_use people c (π s)) (λ s. c (π s))
    uses_alike =
        record {
          forth = λ s t a b h k e. use_tells (π s) (π t) (within s a h) (within t b k) e;
          back = λ s t a b h k e. use_same (π s) (π t) e;
        }

    -- so there are as many of them
    pub uses_distinct : distinct n S (λ s. first_use people c (π s)) ≡ distinct n S (λ s. c (π s))
    uses_distinct = distinct_alike n S _ _ uses_alike

    -- and they hold as many steps
    pub uses_load : largest_load n S (λ s. first_use people c (π s)) ≡ largest_load n S (λ s. c (π s))
    uses_load = load_alike n S _ _ uses_alike

  -- ---- the classes met

  -- a first use is where a class is counted
  opens_use : (p : ℕ) → p < people → opens (λ p'. true) c (first_use people c p) ≡ true
  opens_use p l = opens_of (λ p'. true) c (first_use people c p) refl (λ t m h e. use_new p t m (e ∙ use_class p l))

  use_opens : (p : ℕ) → p < people → opens (λ p'. true) c p ≡ true → first_use people c p ≡ p
  use_opens p l h =
      by_cases (eqb (first_use people c p) p) (λ t. eqb-true _ _ t)
      (λ t. let d : first_use people c p ≡ p → ⊥ = eqb-false _ _ t in
      absurd (opens_new (λ p'. true) c p h (first_use people c p) (omega (arith, use_le p)) refl (use_class p l)))

  -- no fewer are met later
  before_longer : (n m : ℕ) → n ≤ m → classes_before c n ≤ classes_before c m
  unfolding distinct
  before_longer n m l = count_longer m (opens (λ p'. true) c) n l

  -- at a first use there is one more, and else there are as many
  before_new : (p : ℕ) → opens (λ p'. true) c p ≡ true → classes_before c (suc p) ≡ suc (classes_before c p)
  unfolding distinct
  before_new p h = count-true p (opens (λ p'. true) c) h

  before_old : (p : ℕ) → p < people → (first_use people c p ≡ p → ⊥) → classes_before c (suc p) ≡ classes_before c p
  unfolding distinct
  before_old p l d =
      count-false p (opens (λ p'. true) c)
      (by_cases (opens (λ p'. true) c p) (λ t. absurd (d (use_opens p l t))) (λ t. t))

  pub met_new : (p : ℕ) → p < people → first_use people c p ≡ p → classes_before c (suc p) ≡ suc (classes_before c p)
  met_new p l e = before_new p (subst (λ (x : ℕ). opens (λ p'. true) c x ≡ true) e (opens_use p l))

  pub met_old : (p : ℕ) → p < people → (first_use people c p ≡ p → ⊥) → classes_before c (suc p) ≡ classes_before c p
  met_old = before_old

  -- each number below that of the classes met is that of a first use
  used : (n k : ℕ) → n ≤ people → k < classes_before c n → (p : ℕ) × (p < n) × (first_use people c p ≡ p) × (classes_before c p ≡ k)
  used zero k l h = absurd (omega (arith, distinct-le zero (λ p'. true) c))
  used (suc n) k l h =
      by_cases (opens (λ p'. true) c n)
      (λ t.
      below_suc (classes_before c n) k (omega (arith, before_new n t))
      (λ m. let w = used n k (omega arith) m in (w.0, omega (arith, w.1), w.2, w.3))
      (λ e. (n, omega arith, use_opens n (omega arith) t, sym e)))
      (λ t.
      let d : first_use people c n ≡ n → ⊥ = λ e. true-false (subst (λ (x : ℕ). opens (λ p'. true) c x ≡ true) e (opens_use n (omega arith))) t in
      let w = used n k (omega arith) (omega (arith, before_old n (omega arith) d)) in
      (w.0, omega (arith, w.1), w.2, w.3))

  -- ---- the numbers

  -- at a first use, the classes met so far
  pub number_first : (p : ℕ) → first_use people c p ≡ p → number_of people c p ≡ classes_before c p
  unfolding number_of
  number_first p e = ap (classes_before c) e

  -- at a later one, the number that the first one has
  pub number_again : (p : ℕ) → p < people → number_of people c p ≡ number_of people c (first_use people c p)
  unfolding number_of
  number_again p l = ap (classes_before c) (sym (use_own p l))

  pub number_same : (p p' : ℕ) → c p ≡ c p' → number_of people c p ≡ number_of people c p'
  unfolding number_of
  number_same p p' e = ap (classes_before c) (use_same p p' e)

  pub number_le : (p : ℕ) → number_of people c p ≤ p
  unfolding number_of
  number_le p = omega (arith, distinct-le (first_use people c p) (λ p'. true) c, use_le p)

  number_ordered : (p p' : ℕ) → p < people → first_use people c p < first_use people c p' → number_of people c p < number_of people c p'
  unfolding number_of
  number_ordered p p' l h =
      omega (arith, before_new (first_use people c p) (opens_use p l), before_longer (suc (first_use people c p)) (first_use people c p') h)

  pub number_tells : (p p' : ℕ) → p < people → p' < people → number_of people c p ≡ number_of people c p' → c p ≡ c p'
  number_tells p p' l l' e =
      use_tells p p' l l'
      (by_cases (ltb (first_use people c p) (first_use people c p'))
      (λ t. absurd (omega (arith, number_ordered p p' l (ltb-true (first_use people c p) (first_use people c p') t))))
      (λ t. by_cases (ltb (first_use people c p') (first_use people c p))
      (λ u. absurd (omega (arith, number_ordered p' p l' (ltb-true (first_use people c p') (first_use people c p) u))))
      (λ u. omega (arith, ltb-false (first_use people c p) (first_use people c p') t, ltb-false (first_use people c p') (first_use people c p) u))))

  pub number_below : (p : ℕ) → p < people → number_of people c p < classes_before c people
  unfolding number_of
  number_below p l =
      omega (arith, before_new (first_use people c p) (opens_use p l), before_longer (suc (first_use people c p)) people (omega (arith, use_le p)))

  -- a number that is not that of the classes met so far was given before
  pub number_old : (p : ℕ) → p < people → (first_use people c p ≡ p → ⊥) → number_of people c p < classes_before c p
  unfolding number_of
  number_old p l d =
      omega (arith, before_new (first_use people c p) (opens_use p l), before_longer (suc (first_use people c p)) p (omega (arith, use_le p)))

  -- the numbers are what is asked of them
  pub numbering : Numbering people c (number_of people c)
  unfolding number_of
  numbering =
      record {
        same = λ p p' l l' e. number_same p p' e;
        tells = number_tells;
        below = number_below;
        each = λ k l. let w = used people k (omega arith) l in (w.0, w.1, number_first w.0 w.2 ∙ w.3);
        ordered = λ p p' l l' h. number_ordered p p' l h;
      }

  -- where as many classes stand before somebody as people, each of these is a class
  all_new : (n : ℕ) → n ≤ people → classes_before c n ≡ n → (p : ℕ) → p < n → classes_before c p ≡ p
  all_new zero l e p h = absurd (not-suc-le-zero h)
  all_new (suc n) l e p h =
      let a = distinct-le n (λ p'. true) c in
      let k : classes_before c n ≡ n
      = by_cases (eqb (first_use people c n) n)
      (λ t. omega (arith, met_new n (omega arith) (eqb-true (first_use people c n) n t)))
      (λ t. absurd (omega (arith, met_old n (omega arith) (eqb-false (first_use people c n) n t))))
      in
      below_suc n p h (λ m. all_new n (omega arith) k p m) (λ m. subst (λ (x : ℕ). classes_before c x ≡ x) (sym m) k)

  -- where the last person has the last number that people can have, each has his own
  pub number_alone : (n : ℕ) → suc n ≡ people → number_of people c n ≡ n → (p : ℕ) → p < people → number_of people c p ≡ p
  unfolding number_of
  number_alone n last e p l =
      let a = distinct-le (first_use people c n) (λ p'. true) c in
      let f : first_use people c n ≡ n = omega (arith, use_le n) in
      let k : classes_before c n ≡ n = ap (classes_before c) (sym f) ∙ e in
      below_suc n p (omega arith)
      (λ h.
      let m : classes_before c p ≡ p = all_new n (omega arith) k p h in
      let m' : classes_before c (suc p) ≡ suc p
      = below_suc n (suc p) (omega arith) (λ y. all_new n (omega arith) k (suc p) y) (λ y. subst (λ (x : ℕ). classes_before c x ≡ x) (sym y) k)
      in
      let g : first_use people c p ≡ p
      = by_cases (eqb (first_use people c p) p) (λ t. eqb-true (first_use people c p) p t)
      (λ t. absurd (omega (arith, met_old p l (eqb-false (first_use people c p) p t))))
      in
      ap (classes_before c) g ∙ m)
      (λ h. subst (λ (x : ℕ). classes_before c (first_use people c x) ≡ x) (sym h) e)

  -- there are at most as many as people
  pub number_few : (p : ℕ) → p < people → number_of people c p < people
  number_few p l = omega (arith, number_le p)

-- what is asked of numbers is asked of equal ones
pub numbering_as : (people : ℕ) (c number number' : ℕ → ℕ) → ((p : ℕ) → p < people → number' p ≡ number p) → Numbering people c number → Numbering people c number'
numbering_as people c number number' e w =
    record {
      same = λ p p' l l' h. e p l ∙ w.same p p' l l' h ∙ sym (e p' l');
      tells = λ p p' l l' h. w.tells p p' l l' (sym (e p l) ∙ h ∙ e p' l');
      below = λ p l. omega (arith, w.below p l, e p l);
      each = λ k l. let x = w.each k l in (x.0, x.1, e x.0 x.1 ∙ x.2);
      ordered = λ p p' l l' h. omega (arith, w.ordered p p' l l' h, e p l, e p' l');
    }

-- the same classes have the same numbers
module _ (people : ℕ) (c d : ℕ → ℕ) (forth : (p p' : ℕ) → p < people → p' < people → c p ≡ c p' → d p ≡ d p')
    (back : (p p' : ℕ) → p < people → p' < people → d p ≡ d p' → c p ≡ c p') where
  use_moves : (p : ℕ) → p < people → first_use people c p ≡ first_use people d p
  unfolding first_use
  use_moves p l =
      first_cong people _ _
      (λ x k. bool_ext _ _ (λ t. eq-eqb _ _ (forth x p k l (eqb-true _ _ t))) (λ t. eq-eqb _ _ (back x p k l (eqb-true _ _ t))))

  pub number_moves : (p : ℕ) → p < people → number_of people c p ≡ number_of people d p
  unfolding number_of
  number_moves p l =
      distinct_alike (first_use people c p) (λ p'. true) c d
      (record {
        forth = λ s t a b h k e. forth s t (omega (arith, use_le people c p)) (omega (arith, use_le people c p)) e;
        back = λ s t a b h k e. back s t (omega (arith, use_le people c p)) (omega (arith, use_le people c p)) e;
      })
      ∙ ap (classes_before d) (use_moves p l)

-- ---- computed: the classes 7, 3, 7, 9, 3, 8 of six people have the numbers 0, 1, 0, 2, 1, 3

example : ℕ → ℕ
example p = number_of 6 (λ x. get_or (7 ∷ 3 ∷ 7 ∷ 9 ∷ 3 ∷ 8 ∷ []) x 0) p

computed : (example 0 ≡ 0) × (example 1 ≡ 1) × (example 2 ≡ 0) × (example 3 ≡ 2) × (example 4 ≡ 1) × (example 5 ≡ 3)
unfolding example number_of first_use distinct opens first count any
computed = (refl, refl, refl, refl, refl, refl)
