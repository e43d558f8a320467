-- The largest load of a class: it is what it says, what it depends on, its bounds, and how many classes hold so many steps. Assumes nothing.
use mathlib.Core.Bool.{Bool, true, false, cond, ◌&&◌}
use mathlib.Core.Logic.{◌⊎◌, inl, inr}
use mathlib.Core.Path.{◌≡◌, refl, sym, ap, ◌∙◌}
use Prim.Native.Nat.{ℕ, zero, suc, ◌+◌, ◌*◌, ◌-◌, ◌/◌, ◌≤◌, ◌<◌, max}
use native.Mathlib.Omega.{arith}
use native.Mathlib.Nat.{div-lt_iff_lt-mul, div-zero, suc-mul}
use lib.Dec.{eqb, leb, ltb}
use borrow.Author.Tests.{eqb-true, eq-eqb, leb-true, leb-false, ltb-true, ltb-false, lt-ltb}
use Rattle.bits.specs.Below.{count, first}
use Rattle.bits.proofs.Below.{by_cases, true-false, below_suc, and_left, and_right, first_has, first_none}
use Rattle.bits.proofs.Counting.{and_of, is_false, count_mono, count_at, count-le, count_some, count_none, count_split}
use Rattle.workflow.specs.Problem.{load_of, largest, largest_load, HeldBySome, LargestLoad, distinct, DifferentClasses, fewest}
use Rattle.workflow.specs.Independent.{Alike}
use Rattle.workflow.proofs.Different.{distinct_different}

-- ---- the largest of some numbers

pub largest_at : (n : ℕ) (f : ℕ → ℕ) (s : ℕ) → s < n → f s ≤ largest n f
unfolding largest
largest_at zero f s l = absurd (omega arith)
largest_at (suc n) f s l =
    below_suc n s l (λ b. omega (arith, largest_at n f s b)) (λ e. rw e (omega arith))

pub largest-le : (n : ℕ) (f : ℕ → ℕ) (k : ℕ) → ((s : ℕ) → s < n → f s ≤ k) → largest n f ≤ k
unfolding largest
largest-le zero f k h = omega arith
largest-le (suc n) f k h = omega (arith, largest-le n f k (λ s l. h s (omega arith)), h n (omega arith))

-- it is one of them, or 0
pub largest_some : (n : ℕ) (f : ℕ → ℕ) → ((s : ℕ) × (s < n) × (f s ≡ largest n f)) ⊎ (largest n f ≡ 0)
unfolding largest
largest_some zero f = inr refl
largest_some (suc n) f =
    by_cases (leb (largest n f) (f n))
    (λ t. let l : largest n f ≤ f n = leb-true (largest n f) (f n) t in inl (n, omega arith, omega arith))
    (λ t. let l = leb-false (largest n f) (f n) t in earlier (largest_some n f) (omega arith))
  where
    earlier : ((s : ℕ) × (s < n) × (f s ≡ largest n f)) ⊎ (largest n f ≡ 0) → f n < largest n f
        → ((s : ℕ) × (s < suc n) × (f s ≡ max (largest n f) (f n))) ⊎ (max (largest n f) (f n) ≡ 0)
    earlier (inl w) l = inl (w.0, omega (arith, w.1), omega (arith, w.2))
    earlier (inr e) l = absurd (omega arith)

-- ---- the largest load

module _ (n : ℕ) (scope : ℕ → Bool) (c : ℕ → ℕ) where
  abbrev load_at : ℕ → ℕ
  load_at s = cond (scope s) (load_of n scope c (c s)) 0

  -- a step of the scope counts for its class
  pub load_some : (s : ℕ) → s < n → scope s ≡ true → 1 ≤ load_of n scope c (c s)
  unfolding load_of
  load_some s l h = count_some n (λ t. scope t && eqb (c t) (c s)) s l (and_of _ _ h (eq-eqb (c s) (c s) refl))

  -- a class that holds a step is the class of one
  pub load_held : (v : ℕ) → 1 ≤ load_of n scope c v → (s : ℕ) × (s < n) × (scope s ≡ true) × (c s ≡ v)
  unfolding load_of
  load_held v l =
      let w = count_at n (λ t. scope t && eqb (c t) v) l in
      (w.0, w.1, and_left (scope w.0) _ w.2, eqb-true (c w.0) v (and_right (scope w.0) _ w.2))

  -- no class holds more
  pub load_le_largest : (v : ℕ) → load_of n scope c v ≤ largest_load n scope c
  unfolding largest_load
  load_le_largest v =
      by_cases (leb 1 (load_of n scope c v))
      (λ t. let w = load_held v (leb-true 1 (load_of n scope c v) t) in
      let e : load_at w.0 ≡ load_of n scope c v = rw (w.2, w.3) refl in
      omega (arith, largest_at n load_at w.0 w.1))
      (λ t. let l = leb-false 1 (load_of n scope c v) t in omega arith)

  -- a bound on the load of each class of a step is one on the largest
  pub largest_load-le : (k : ℕ) → ((s : ℕ) → s < n → scope s ≡ true → load_of n scope c (c s) ≤ k) → largest_load n scope c ≤ k
  unfolding largest_load
  largest_load-le k h =
      largest-le n load_at k
      (λ s l. by_cases (scope s) (λ t. rw t (h s l t)) (λ t. rw t (omega arith)))

  -- some class holds so many
  held_some : leb 1 (count n scope) ≡ true → HeldBySome n scope c (largest_load n scope c)
  unfolding largest_load
  held_some t =
      let w = count_at n scope (leb-true 1 (count n scope) t) in
      let one = load_some w.0 w.1 w.2 in
      let up = load_le_largest (c w.0) in
      found (largest_some n load_at) (omega arith)
    where
      found : ((s : ℕ) × (s < n) × (load_at s ≡ largest n load_at)) ⊎ (largest n load_at ≡ 0) → 1 ≤ largest n load_at → HeldBySome n scope c (largest n load_at)
      found (inr e) l = absurd (omega arith)
      found (inl w) l =
          by_cases (scope w.0)
          (λ h. let e : load_at w.0 ≡ load_of n scope c (c w.0) = rw h refl in inl (w.0, w.1, h, sym e ∙ w.2))
          (λ h. let e : load_at w.0 ≡ 0 = rw h refl in absurd (omega (arith, w.2)))

  -- or there is no step
  held_none : leb 1 (count n scope) ≡ false → HeldBySome n scope c (largest_load n scope c)
  held_none t =
      let z : count n scope ≡ 0 = (let l = leb-false 1 (count n scope) t in omega arith) in
      let e : largest_load n scope c ≤ 0 = largest_load-le 0 (λ s l h. absurd (omega (arith, count_some n scope s l h))) in
      inr (z, omega arith)

  -- the number is what it says
  pub largest_load_is : LargestLoad n scope c (largest_load n scope c)
  largest_load_is = record { held = by_cases (leb 1 (count n scope)) held_some held_none; none_more = load_le_largest }

  -- at most as many as steps in the scope
  pub load_le_scope : (v : ℕ) → load_of n scope c v ≤ count n scope
  unfolding load_of
  load_le_scope v = count_mono n (λ s. scope s && eqb (c s) v) scope (λ s l h. and_left (scope s) _ h)

  pub largest_load_scope : largest_load n scope c ≤ count n scope
  largest_load_scope = largest_load-le (count n scope) (λ s l h. load_le_scope (c s))

  pub largest_load_few : largest_load n scope c ≤ n
  largest_load_few = omega (arith, largest_load_scope, count-le n scope)

-- no other number is
pub largest_load_unique : {n : ℕ} {scope : ℕ → Bool} {c : ℕ → ℕ} {a b : ℕ} → LargestLoad n scope c a → LargestLoad n scope c b → a ≡ b
largest_load_unique {n} {scope} {c} {a} {b} v w = omega (arith, up v w, up w v)
  where
    up : {x y : ℕ} → LargestLoad n scope c x → LargestLoad n scope c y → x ≤ y
    up {x} {y} f g = go f.held
      where
        go : HeldBySome n scope c x → x ≤ y
        go (inl h) = omega (arith, g.none_more (c h.0), h.3)
        go (inr h) = omega (arith, h.1)

-- ---- what it depends on

module _ (n : ℕ) (scope more : ℕ → Bool) (c d : ℕ → ℕ) where
  -- where steps that share a class of d share one of c, and a wider scope has them, no class of d holds more: a limit holds at every finer level
  pub load_finer : ((s : ℕ) → s < n → scope s ≡ true → more s ≡ true)
      → ((s t : ℕ) → s < n → t < n → scope s ≡ true → scope t ≡ true → d s ≡ d t → c s ≡ c t) → largest_load n scope d ≤ largest_load n more c
  unfolding load_of
  load_finer wider h =
      largest_load-le n scope d (largest_load n more c)
      (λ s l i.
      let up = count_mono n (λ t. scope t && eqb (d t) (d s)) (λ t. more t && eqb (c t) (c s))
      (λ t m k.
      let j = and_left (scope t) _ k in
      and_of _ _ (wider t m j) (eq-eqb _ _ (h t s m l j i (eqb-true _ _ (and_right (scope t) _ k)))))
      in
      omega (arith, load_le_largest n more c (c s)))

module _ (n : ℕ) (scope : ℕ → Bool) (c d : ℕ → ℕ) where
  -- it depends only on which steps of the scope share a class
  pub load_alike : Alike n scope c d → largest_load n scope c ≡ largest_load n scope d
  load_alike a =
      let x = load_finer n scope scope c d (λ s l h. h) a.back in
      let y = load_finer n scope scope d c (λ s l h. h) a.forth in
      omega arith

  pub load_cong : ((s : ℕ) → s < n → scope s ≡ true → c s ≡ d s) → largest_load n scope c ≡ largest_load n scope d
  load_cong h =
      load_alike
      (record {
        forth = λ s t l m i k e. sym (h s l i) ∙ e ∙ h t m k;
        back = λ s t l m i k e. h s l i ∙ e ∙ sym (h t m k);
      })

-- a wider scope has no smaller load
pub load_scope_mono : (n : ℕ) (c : ℕ → ℕ) (scope more : ℕ → Bool) → ((s : ℕ) → s < n → scope s ≡ true → more s ≡ true)
    → largest_load n scope c ≤ largest_load n more c
load_scope_mono n c scope more h = load_finer n scope more c c h (λ s t l m i k e. e)

-- ---- how many classes hold so many steps

-- steps numbered below m, at most `load` with each number
count_numbered : (n load : ℕ) (scope : ℕ → Bool) (number : ℕ → ℕ) (m : ℕ) → ((k : ℕ) → k < m → count n (λ s. scope s && eqb (number s) k) ≤ load)
    → count n (λ s. scope s && ltb (number s) m) ≤ m * load
count_numbered n load scope number zero h =
    let e = count_none n (λ s. scope s && ltb (number s) 0)
    (λ s l. is_false _ (λ t. let z = ltb-true (number s) 0 (and_right (scope s) _ t) in absurd (omega arith))) in
    omega arith
count_numbered n load scope number (suc m) h =
    let before = count_numbered n load scope number m (λ k l. h k (omega arith)) in
    let last = h m (omega arith) in
    let split = count_split n (λ s. scope s && ltb (number s) (suc m)) (λ s. scope s && ltb (number s) m) (λ s. scope s && eqb (number s) m)
    (λ s l t f.
    let i = and_left (scope s) _ t in
    and_of _ _ i
    (by_cases (eqb (number s) m) (λ e. e)
    (λ e. true-false
    (and_of (scope s) (ltb (number s) m) i
    (lt-ltb (number s) m (below_suc m (number s) (ltb-true _ _ (and_right (scope s) _ t)) (λ b. b) (λ d. true-false (eq-eqb _ _ d) e))))
    f)))
    in
    omega (arith, suc-mul m load)

-- the steps of a scope are at most those that its classes can hold
pub count_load : (n : ℕ) (scope : ℕ → Bool) (c : ℕ → ℕ) (load : ℕ) → largest_load n scope c ≤ load → count n scope ≤ distinct n scope c * load
unfolding load_of
count_load n scope c load l =
    let up = count_mono n scope (λ s. scope s && ltb (number s) (distinct n scope c)) (λ s a h. and_of _ _ h (lt-ltb _ _ (number_below s a h))) in
    let all = count_numbered n load scope number (distinct n scope c) (λ k b.
    let own = count_mono n (λ s. scope s && eqb (number s) k) (λ s. scope s && eqb (c s) (c (w.at k)))
    (λ s a h.
    let i = and_left (scope s) _ h in
    and_of _ _ i (eq-eqb (c s) (c (w.at k)) (sym (number_class s a i) ∙ ap (λ (x : ℕ). c (w.at x)) (eqb-true (number s) k (and_right (scope s) _ h)))))
    in
    omega (arith, load_le_largest n scope c (c (w.at k))))
    in
    omega arith
  where
    w : DifferentClasses n scope c (distinct n scope c)
    w = distinct_different n scope c

    -- the number of a step's class
    number : ℕ → ℕ
    number s = first (distinct n scope c) (λ k. eqb (c (w.at k)) (c s))

    number_below : (s : ℕ) → s < n → scope s ≡ true → number s < distinct n scope c
    number_below s a h =
        let o = w.every s a h in
        let place = first (distinct n scope c) (λ k. eqb (c (w.at k)) (c s)) in
        by_cases (ltb o.0 place)
        (λ t. true-false (eq-eqb _ _ o.2) (first_none (distinct n scope c) (λ k. eqb (c (w.at k)) (c s)) o.0 (ltb-true o.0 place t)))
        (λ t. omega (arith, ltb-false o.0 place t, o.1))

    number_class : (s : ℕ) → s < n → scope s ≡ true → c (w.at (number s)) ≡ c s
    number_class s a h = eqb-true _ _ (first_has (distinct n scope c) (λ k. eqb (c (w.at k)) (c s)) (number_below s a h))

-- rounded up: so many classes at least
pub fewest-le : (size load m : ℕ) → size ≤ m * load → fewest size load ≤ m
unfolding fewest
fewest-le size zero m l = let e : (size + (zero - 1)) / zero ≡ 0 = div-zero (size + (zero - 1)) in omega arith
fewest-le size (suc k) m l =
    let b : (size + (suc k - 1)) / suc k < suc m
    = (div-lt_iff_lt-mul {k = suc k} {x = size + (suc k - 1)} {y = suc m} (omega arith)).1 (omega (arith, suc-mul m (suc k)))
    in
    omega arith
