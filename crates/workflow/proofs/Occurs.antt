-- The number of different classes is the number of classes that occur; so it grows with the scope, by at most the steps added.
-- Assumes nothing.
use mathlib.Core.Bool.{Bool, true, false, ◌&&◌}
use mathlib.Core.Path.{◌≡◌, refl, sym, subst, ◌∙◌}
use Prim.Native.Nat.{ℕ, zero, suc, ◌+◌, ◌≤◌, ◌<◌}
use native.Mathlib.Omega.{arith}
use native.Mathlib.Nat.{not-suc-le-zero}
use lib.Dec.{eqb}
use borrow.Author.Tests.{eqb-true, eq-eqb}
use Rattle.bits.specs.Below.{any, count}
use Rattle.bits.proofs.Below.{by_cases, true-false, below_suc, and_left, and_right}
use Rattle.bits.proofs.Counting.{and_of, is_false, bool_ext, any_of, any_at, count_cong, count-true, count-false, count-zero, count_none, count_mono, count_insert, count_split}
use Rattle.workflow.specs.Problem.{opens, distinct}
use Rattle.workflow.proofs.Counts.{opens_scope, opens_new, opens_of, distinct-le_scope}

-- some step of the scope below n has class v
unfoldable pub occurs : ℕ → (ℕ → Bool) → (ℕ → ℕ) → ℕ → Bool
occurs n scope c v = any n (λ t. scope t && eqb (c t) v)

module _ (scope : ℕ → Bool) (c : ℕ → ℕ) where
  pub occurs_of : (n v s : ℕ) → s < n → scope s ≡ true → c s ≡ v → occurs n scope c v ≡ true
  unfolding occurs
  occurs_of n v s l i e = any_of n (λ t. scope t && eqb (c t) v) s l (and_of _ _ i (eq-eqb (c s) v e))

  pub occurs_at : (n v : ℕ) → occurs n scope c v ≡ true → (s : ℕ) × (s < n) × (scope s ≡ true) × (c s ≡ v)
  unfolding occurs
  occurs_at n v h =
      let w = any_at n (λ t. scope t && eqb (c t) v) h in
      (w.0, w.1, and_left (scope w.0) _ w.2, eqb-true (c w.0) v (and_right (scope w.0) _ w.2))

  -- one step more makes its own class occur and no other
  occurs_more : (n v : ℕ) → (scope n ≡ true → c n ≡ v → occurs n scope c v ≡ true) → occurs n scope c v ≡ occurs (suc n) scope c v
  occurs_more n v h =
      bool_ext _ _
      (λ o. let w = occurs_at n v o in occurs_of (suc n) v w.0 (omega (arith, w.1)) w.2 w.3)
      (λ o. let w = occurs_at (suc n) v o in
      below_suc n w.0 w.1
      (λ m. occurs_of n v w.0 m w.2 w.3)
      (λ e. h (subst (λ (x : ℕ). scope x ≡ true) e w.2) (subst (λ (x : ℕ). c x ≡ v) e w.3)))

  -- "the number of different classes": of the classes below a bound, those that occur
  pub distinct_occurs : (n bound : ℕ) → ((s : ℕ) → s < n → scope s ≡ true → c s < bound) → distinct n scope c ≡ count bound (occurs n scope c)
  unfolding distinct
  distinct_occurs zero bound h =
      count-zero (opens scope c)
      ∙ sym (count_none bound (occurs zero scope c) (λ v l. is_false _ (λ o. absurd (not-suc-le-zero (occurs_at zero v o).1))))
  distinct_occurs (suc n) bound h =
      let r : count n (opens scope c) ≡ count bound (occurs n scope c) = distinct_occurs n bound (λ s l. h s (omega arith)) in
      by_cases (opens scope c n)
      (λ t.
      let i = opens_scope scope c n t in
      let new : occurs n scope c (c n) ≡ false = is_false _ (λ o. let w = occurs_at n (c n) o in opens_new scope c n t w.0 w.1 w.2 w.3) in
      let more : count bound (occurs (suc n) scope c) ≡ suc (count bound (occurs n scope c))
      = count_insert bound (occurs n scope c) (occurs (suc n) scope c) (c n) (h n (omega arith) i) new
      (occurs_of (suc n) (c n) n (omega arith) i refl)
      (λ v l d. occurs_more n v (λ k e. absurd (d (sym e))))
      in
      omega (arith, count-true n (opens scope c) t))
      (λ t.
      let still : count bound (occurs n scope c) ≡ count bound (occurs (suc n) scope c)
      = count_cong bound (occurs n scope c) (occurs (suc n) scope c) (λ v l. occurs_more n v (λ k e. seen n t v k e))
      in
      omega (arith, count-false n (opens scope c) t))
    where
      seen : (n : ℕ) → opens scope c n ≡ false → (v : ℕ) → scope n ≡ true → c n ≡ v → occurs n scope c v ≡ true
      seen n t v k e =
          by_cases (occurs n scope c v) (λ o. o)
          (λ o. true-false (opens_of scope c n k (λ s l i d. true-false (occurs_of n v s l i (d ∙ e)) o)) t)

-- a bound for the classes of the steps below n
class_bound : (n : ℕ) (c : ℕ → ℕ) → (b : ℕ) × ((s : ℕ) → s < n → c s < b)
class_bound zero c = (0, λ s l. absurd (not-suc-le-zero l))
class_bound (suc n) c =
    let w = class_bound n c in (
      w.0 + suc (c n),
      λ s l. below_suc n s l (λ m. omega (arith, w.1 s m)) (λ e. rw e (omega arith)),
    )

module _ (n : ℕ) (c : ℕ → ℕ) where
  -- a larger scope has no fewer classes
  pub distinct_scope_mono : (part scope : ℕ → Bool) → ((s : ℕ) → s < n → part s ≡ true → scope s ≡ true) → distinct n part c ≤ distinct n scope c
  distinct_scope_mono part scope h =
      let w = class_bound n c in
      let a : distinct n part c ≡ count w.0 (occurs n part c) = distinct_occurs part c n w.0 (λ s l i. w.1 s l) in
      let b : distinct n scope c ≡ count w.0 (occurs n scope c) = distinct_occurs scope c n w.0 (λ s l i. w.1 s l) in
      let m : count w.0 (occurs n part c) ≤ count w.0 (occurs n scope c)
      = count_mono w.0 (occurs n part c) (occurs n scope c)
      (λ v l o. let x = occurs_at part c n v o in occurs_of scope c n v x.0 x.1 (h x.0 x.1 x.2) x.3)
      in
      omega arith

  -- and at most one more for each step that the part lacks
  pub distinct_scope_split : (scope part rest : ℕ → Bool) → ((s : ℕ) → s < n → scope s ≡ true → part s ≡ false → rest s ≡ true)
      → distinct n scope c ≤ distinct n part c + count n rest
  distinct_scope_split scope part rest h =
      let w = class_bound n c in
      let a : distinct n scope c ≡ count w.0 (occurs n scope c) = distinct_occurs scope c n w.0 (λ s l i. w.1 s l) in
      let b : distinct n part c ≡ count w.0 (occurs n part c) = distinct_occurs part c n w.0 (λ s l i. w.1 s l) in
      let d : distinct n rest c ≡ count w.0 (occurs n rest c) = distinct_occurs rest c n w.0 (λ s l i. w.1 s l) in
      let m : count w.0 (occurs n scope c) ≤ count w.0 (occurs n part c) + count w.0 (occurs n rest c)
      = count_split w.0 (occurs n scope c) (occurs n part c) (occurs n rest c)
      (λ v l o u. let x = occurs_at scope c n v o in
      by_cases (part x.0)
      (λ t. true-false (occurs_of part c n v x.0 x.1 t x.3) u)
      (λ t. occurs_of rest c n v x.0 x.1 (h x.0 x.1 x.2 t) x.3))
      in
      omega (arith, distinct-le_scope n rest c)
