-- The number of different classes over a scope: what it depends on, its bounds, and its value at a scope of two steps. Assumes nothing.
use mathlib.Core.Bool.{Bool, true, false, cond, ◌&&◌}
use mathlib.Core.Path.{◌≡◌, refl, sym, subst, ◌∙◌}
use Prim.Native.Nat.{ℕ, ◌≤◌, ◌<◌}
use native.Mathlib.Omega.{arith}
use lib.Dec.{eqb, ltb}
use borrow.Author.Tests.{eqb-true, eq-eqb, eqb-false, ltb-true, ltb-false, not-true}
use Rattle.bits.specs.Below.{count, first}
use Rattle.bits.proofs.Below.{by_cases, true-false, first_has, first_none, and_left, and_right}
use Rattle.bits.proofs.Counting.{and_of, is_false, any_of, none_any, count_mono, count_some, count-le, count_two, Two}
use Rattle.workflow.specs.Problem.{opens, distinct}
use Rattle.workflow.specs.Independent.{Alike}

-- a step that opens a class is in the scope
pub opens_scope : (scope : ℕ → Bool) (c : ℕ → ℕ) (s : ℕ) → opens scope c s ≡ true → scope s ≡ true
unfolding opens
opens_scope scope c s h = and_left (scope s) _ h

-- and no step of the scope before it has its class
pub opens_new : (scope : ℕ → Bool) (c : ℕ → ℕ) (s : ℕ) → opens scope c s ≡ true → (t : ℕ) → t < s → scope t ≡ true → c t ≡ c s → ⊥
unfolding opens
opens_new scope c s h t l i e =
    true-false
    (any_of s (λ t. scope t && eqb (c t) (c s)) t l (and_of _ _ i (eq-eqb _ _ e)))
    (not-true _ (and_right (scope s) _ h))

-- and these two make it open the class
pub opens_of : (scope : ℕ → Bool) (c : ℕ → ℕ) (s : ℕ) → scope s ≡ true → ((t : ℕ) → t < s → scope t ≡ true → c t ≡ c s → ⊥) → opens scope c s ≡ true
unfolding opens
opens_of scope c s h new =
    and_of (scope s) _ h
    (rw (none_any s (λ t. scope t && eqb (c t) (c s))
    (λ t l. is_false _ (λ b. absurd (new t l (and_left (scope t) _ b) (eqb-true _ _ (and_right (scope t) _ b)))))) refl)

module _ (n : ℕ) (scope : ℕ → Bool) (c d : ℕ → ℕ) where
  -- where steps that share a class of d share one of c, c has no more classes
  pub distinct_finer : ((s t : ℕ) → s < n → t < n → scope s ≡ true → scope t ≡ true → d s ≡ d t → c s ≡ c t) → distinct n scope c ≤ distinct n scope d
  unfolding distinct
  distinct_finer h =
      count_mono n (opens scope c) (opens scope d)
      (λ s l o.
      let i = opens_scope scope c s o in
      opens_of scope d s i (λ t m k e. opens_new scope c s o t m k (h t s (omega arith) l k i e)))

module _ (n : ℕ) (scope : ℕ → Bool) (c d : ℕ → ℕ) where
  -- the number depends only on which steps of the scope share a class
  pub distinct_alike : Alike n scope c d → distinct n scope c ≡ distinct n scope d
  distinct_alike a =
      let x : distinct n scope c ≤ distinct n scope d = distinct_finer n scope c d a.back in
      let y : distinct n scope d ≤ distinct n scope c = distinct_finer n scope d c a.forth in
      omega arith

  -- above all on the classes of the scope's steps
  pub distinct_cong : ((s : ℕ) → s < n → scope s ≡ true → c s ≡ d s) → distinct n scope c ≡ distinct n scope d
  distinct_cong h =
      distinct_alike
      (record {
        forth = λ s t l m i k e. sym (h s l i) ∙ e ∙ h t m k;
        back = λ s t l m i k e. h s l i ∙ e ∙ sym (h t m k);
      })

module _ (n : ℕ) (scope : ℕ → Bool) (c : ℕ → ℕ) where
  -- there are at most as many classes as steps in the scope
  pub distinct-le_scope : distinct n scope c ≤ count n scope
  unfolding distinct
  distinct-le_scope = count_mono n (opens scope c) scope (λ s l. opens_scope scope c s)

  -- and at most as many as steps
  pub distinct-le : distinct n scope c ≤ n
  distinct-le = omega (arith, distinct-le_scope, count-le n scope)

  -- and at least one, where the scope has a step
  pub distinct_some : (s : ℕ) → s < n → scope s ≡ true → 1 ≤ distinct n scope c
  unfolding distinct
  distinct_some s l h =
      let u : ℕ = first n scope in
      let b : u < n = first_below in
      count_some n (opens scope c) u b
      (opens_of scope c u (first_has n scope b) (λ t m i e. true-false i (first_none n scope t m)))
    where
      first_below : first n scope < n
      first_below =
          by_cases (ltb (first n scope) n) (λ t. ltb-true _ _ t)
          (λ t. let z : n ≤ first n scope = ltb-false _ _ t in true-false h (first_none n scope s (omega arith)))

  -- a scope of two steps has one class or two
  pub distinct_pair : (w : Two n scope) → distinct n scope c ≡ cond (eqb (c w.low) (c w.high)) 1 2
  unfolding distinct
  distinct_pair w =
      count_two n (opens scope c) w.low w.high w.ordered w.below low_opens
      (λ k l x y. is_false _ (λ o. true-false (opens_scope scope c k o) (w.only k l x y)))
      ∙ by_cases (eqb (c w.low) (c w.high))
      (λ e. rw (e, high_shut (eqb-true _ _ e)) refl)
      (λ e. rw (e, high_opens (eqb-false _ _ e)) refl)
    where
      before_low : (t : ℕ) → t < w.low → scope t ≡ false
      before_low t l = w.only t (omega (arith, w.ordered, w.below)) (λ e. omega arith) (λ e. omega (arith, w.ordered))

      low_opens : opens scope c w.low ≡ true
      low_opens = opens_of scope c w.low w.has_low (λ t m i e. true-false i (before_low t m))

      high_shut : c w.low ≡ c w.high → opens scope c w.high ≡ false
      high_shut e = is_false _ (λ o. opens_new scope c w.high o w.low w.ordered w.has_low e)

      high_opens : (c w.low ≡ c w.high → ⊥) → opens scope c w.high ≡ true
      high_opens d =
          opens_of scope c w.high w.has_high
          (λ t m i e. by_cases (eqb t w.low)
          (λ y. d (subst (λ (x : ℕ). c x ≡ c w.high) (eqb-true _ _ y) e))
          (λ y. true-false i (w.only t (omega (arith, w.below)) (eqb-false _ _ y) (λ z. omega arith))))
