-- The number of different classes over a scope is what it says. Assumes nothing.
use mathlib.Core.Bool.{Bool, true, false, cond, ◌&&◌}
use mathlib.Core.Path.{◌≡◌, refl, sym, subst, ap, ◌∙◌}
use Prim.Native.Nat.{ℕ, zero, suc, ◌≤◌, ◌<◌}
use native.Mathlib.Omega.{arith}
use lib.Dec.{eqb, ltb}
use borrow.Author.Tests.{eqb-true, eq-eqb, ne_eqb, ltb-true, ltb-false}
use Rattle.bits.specs.Below.{any, count, first}
use Rattle.bits.proofs.Below.{by_cases, true-false, below_suc, and_left, and_right, first_has, first_none}
use Rattle.bits.proofs.Counting.{any_at, any_none, count-true, count-false, count-zero, count-le}
use Rattle.workflow.specs.Problem.{opens, distinct, DifferentClasses}
use Rattle.workflow.proofs.Counts.{opens_scope, opens_new, opens_of}
use Rattle.workflow.proofs.Occurs.{occurs, distinct_occurs}

module _ {scope : ℕ → Bool} {c : ℕ → ℕ} {n m : ℕ} (w : DifferentClasses n scope c m) where
  -- a step whose class is had before, or that is not in the scope
  different_old : (scope n ≡ true → (t : ℕ) × (t < n) × (scope t ≡ true) × (c t ≡ c n)) → DifferentClasses (suc n) scope c m
  different_old had =
      record {
        at = w.at;
        below = λ k l. omega (arith, w.below k l);
        inside = w.inside;
        once = w.once;
        every = λ s l h.
            below_suc n s l (λ b. w.every s b h)
            (λ e.
            let o = had (subst (λ (x : ℕ). scope x ≡ true) e h) in
            let v = w.every o.0 o.1 o.2 in
            (v.0, v.1, v.2 ∙ o.3 ∙ ap c (sym e)));
      }

  -- a step of the scope with a new class
  module _ (h : scope n ≡ true) (new : (t : ℕ) → t < n → scope t ≡ true → c t ≡ c n → ⊥) where
    place : ℕ → ℕ
    place k = cond (eqb k m) n (w.at k)

    last : place m ≡ n
    unfolding place
    last = rw (eq-eqb m m refl) refl

    earlier : (k : ℕ) → k < m → place k ≡ w.at k
    unfolding place
    earlier k l = rw (ne_eqb k m (λ e. absurd (omega arith))) refl

    -- a number below suc m is the last or an earlier one
    which : {P : Type 0} (k : ℕ) → k < suc m → (k < m → P) → (k ≡ m → P) → P
    which k l f g = below_suc m k l f g

    differs : (k : ℕ) → k < m → c (place k) ≡ c n → ⊥
    differs k l e = new (w.at k) (w.below k l) (w.inside k l) (ap c (sym (earlier k l)) ∙ e)

    different_new : DifferentClasses (suc n) scope c (suc m)
    different_new =
        record {
          at = place;
          below = λ k l. which k l (λ b. omega (arith, earlier k b, w.below k b)) (λ e. rw e (omega (arith, last)));
          inside = λ k l.
              which k l (λ b. subst (λ (x : ℕ). scope x ≡ true) (sym (earlier k b)) (w.inside k b))
              (λ e. subst (λ (x : ℕ). scope x ≡ true) (sym (ap place e ∙ last)) h);
          once = λ k l a b e.
              which k a
              (λ x. which l b (λ y. w.once k l x y (ap c (sym (earlier k x)) ∙ e ∙ ap c (earlier l y)))
              (λ y. absurd (differs k x (e ∙ ap c (ap place y ∙ last)))))
              (λ x. which l b (λ y. absurd (differs l y (sym e ∙ ap c (ap place x ∙ last)))) (λ y. x ∙ sym y));
          every = λ s l i.
              below_suc n s l
              (λ b. let v = w.every s b i in (v.0, omega (arith, v.1), ap c (earlier v.0 v.1) ∙ v.2))
              (λ e. (m, omega arith, ap c (last ∙ sym e)));
        }

-- a step of the scope that opens no class has one that is had before
had_before : (scope : ℕ → Bool) (c : ℕ → ℕ) (n : ℕ) → opens scope c n ≡ false → scope n ≡ true → (t : ℕ) × (t < n) × (scope t ≡ true) × (c t ≡ c n)
had_before scope c n closed h =
    by_cases (any n (λ t. scope t && eqb (c t) (c n)))
    (λ e. let o = any_at n (λ t. scope t && eqb (c t) (c n)) e in
    (o.0, o.1, and_left (scope o.0) _ o.2, eqb-true (c o.0) (c n) (and_right (scope o.0) _ o.2)))
    (λ e. true-false
    (opens_of scope c n h (λ t l i d. true-false (rw (i, eq-eqb (c t) (c n) d) refl) (any_none n (λ t. scope t && eqb (c t) (c n)) e t l)))
    closed)

pub distinct_different : (n : ℕ) (scope : ℕ → Bool) (c : ℕ → ℕ) → DifferentClasses n scope c (distinct n scope c)
unfolding distinct
distinct_different zero scope c =
    subst (DifferentClasses zero scope c) (sym (count-zero (opens scope c)))
    (record {
      at = λ k. 0;
      below = λ k l. absurd (omega arith);
      inside = λ k l. absurd (omega arith);
      once = λ k l a b e. absurd (omega arith);
      every = λ s l h. absurd (omega arith);
    })
distinct_different (suc n) scope c =
    by_cases (opens scope c n)
    (λ e. subst (DifferentClasses (suc n) scope c) (sym (count-true n (opens scope c) e))
    (different_new (distinct_different n scope c) (opens_scope scope c n e) (opens_new scope c n e)))
    (λ e. subst (DifferentClasses (suc n) scope c) (sym (count-false n (opens scope c) e))
    (different_old (distinct_different n scope c) (had_before scope c n e)))

-- ---- and no other number is

count-all : (n : ℕ) (f : ℕ → Bool) → ((k : ℕ) → k < n → f k ≡ true) → count n f ≡ n
count-all zero f h = count-zero f
count-all (suc n) f h = count-true n f (h n (omega arith)) ∙ ap suc (count-all n f (λ k l. h k (omega arith)))

-- where each number below a has one of its own below b, b is not less
into : (a b : ℕ) (f : ℕ → ℕ) → ((k : ℕ) → k < a → f k < b) → ((k l : ℕ) → k < a → l < a → f k ≡ f l → k ≡ l) → a ≤ b
unfolding distinct
into a b f within once =
    let each : count a (opens (λ k. true) f) ≡ a
    = count-all a (opens (λ k. true) f) (λ k l. opens_of (λ k. true) f k refl (λ t m h e. absurd (omega (arith, once t k (omega arith) l e)))) in
    omega (arith, each, distinct_occurs (λ k. true) f a b (λ s l h. within s l), count-le b (occurs a (λ k. true) f))

module _ {n : ℕ} {scope : ℕ → Bool} {c : ℕ → ℕ} {a b : ℕ} (v : DifferentClasses n scope c a) (w : DifferentClasses n scope c b) where
  -- where w has the class that v has at k
  there : ℕ → ℕ
  there k = first b (λ m. eqb (c (w.at m)) (c (v.at k)))

  there_below : (k : ℕ) → k < a → there k < b
  unfolding there
  there_below k l =
      let o = w.every (v.at k) (v.below k l) (v.inside k l) in
      let place = first b (λ m. eqb (c (w.at m)) (c (v.at k))) in
      by_cases (ltb o.0 place)
      (λ t. true-false (eq-eqb _ _ o.2) (first_none b (λ m. eqb (c (w.at m)) (c (v.at k))) o.0 (ltb-true o.0 place t)))
      (λ t. omega (arith, ltb-false o.0 place t, o.1))

  there_class : (k : ℕ) → k < a → c (w.at (there k)) ≡ c (v.at k)
  unfolding there
  there_class k l = eqb-true _ _ (first_has b (λ m. eqb (c (w.at m)) (c (v.at k))) (there_below k l))

  not_more : a ≤ b
  not_more = into a b there there_below (λ k l x y e. v.once k l x y (sym (there_class k x) ∙ ap (λ (m : ℕ). c (w.at m)) e ∙ there_class l y))

pub different_unique : {n : ℕ} {scope : ℕ → Bool} {c : ℕ → ℕ} {a b : ℕ} → DifferentClasses n scope c a → DifferentClasses n scope c b → a ≡ b
different_unique v w = omega (arith, not_more v w, not_more w v)
