-- More laws of `all`, `any` and `count`: what they depend on, and how many a count counts. Assumes nothing.
use mathlib.Core.Bool.{Bool, true, false, cond, ◌&&◌}
use mathlib.Core.Path.{◌≡◌, refl, sym, subst, ◌∙◌}
use Prim.Native.Nat.{ℕ, zero, suc, ◌+◌, ◌≤◌, ◌<◌}
use native.Mathlib.Omega.{arith}
use native.Mathlib.Nat.{not-suc-le-zero}
use Rattle.bits.specs.Below.{all, any, count}
use Rattle.bits.proofs.Below.{by_cases, true-false, below_suc}

pub and_of : (a b : Bool) → a ≡ true → b ≡ true → a && b ≡ true
and_of true b h k = k
and_of false b h k = h

-- a test is false where true would be absurd
pub is_false : (b : Bool) → (b ≡ true → ⊥) → b ≡ false
is_false true h = absurd (h refl)
is_false false h = refl

-- two tests are equal where each follows from the other
pub bool_ext : (a b : Bool) → (a ≡ true → b ≡ true) → (b ≡ true → a ≡ true) → a ≡ b
bool_ext true b h k = sym (h refl)
bool_ext false b h k = sym (is_false b (λ t. true-false (k t) refl))

pub any_of : (n : ℕ) (f : ℕ → Bool) (k : ℕ) → k < n → f k ≡ true → any n f ≡ true
unfolding any
any_of zero f k l h = absurd (not-suc-le-zero l)
any_of (suc n) f k l h =
    below_suc n k l
    (λ m. rw (any_of n f k m h) refl)
    (λ e. by_cases (any n f) (λ t. rw t refl) (λ t. rw t (subst (λ (x : ℕ). f x ≡ true) e h)))

pub any_at : (n : ℕ) (f : ℕ → Bool) → any n f ≡ true → (k : ℕ) × (k < n) × (f k ≡ true)
unfolding any
any_at zero f h = true-false h refl
any_at (suc n) f h =
    by_cases (any n f)
    (λ t. let w : (k : ℕ) × (k < n) × (f k ≡ true) = any_at n f t in (w.0, omega (arith, w.1), w.2))
    (λ t. (n, omega arith, rw t at h))

pub any_none : (n : ℕ) (f : ℕ → Bool) → any n f ≡ false → (k : ℕ) → k < n → f k ≡ false
any_none n f h k l = is_false (f k) (λ t. true-false (any_of n f k l t) h)

pub none_any : (n : ℕ) (f : ℕ → Bool) → ((k : ℕ) → k < n → f k ≡ false) → any n f ≡ false
none_any n f h = is_false (any n f) (λ t. let w = any_at n f t in true-false w.2 (h w.0 w.1))

pub all_cong : (n : ℕ) (f g : ℕ → Bool) → ((k : ℕ) → k < n → f k ≡ g k) → all n f ≡ all n g
unfolding all
all_cong zero f g h = refl
all_cong (suc n) f g h = rw (all_cong n f g (λ k l. h k (omega arith)), h n (omega arith)) refl

pub any_cong : (n : ℕ) (f g : ℕ → Bool) → ((k : ℕ) → k < n → f k ≡ g k) → any n f ≡ any n g
unfolding any
any_cong zero f g h = refl
any_cong (suc n) f g h = rw (any_cong n f g (λ k l. h k (omega arith)), h n (omega arith)) refl

pub count_cong : (n : ℕ) (f g : ℕ → Bool) → ((k : ℕ) → k < n → f k ≡ g k) → count n f ≡ count n g
unfolding count
count_cong zero f g h = refl
count_cong (suc n) f g h = rw (count_cong n f g (λ k l. h k (omega arith)), h n (omega arith)) refl

-- a count at one number more
pub count-true : (n : ℕ) (f : ℕ → Bool) → f n ≡ true → count (suc n) f ≡ suc (count n f)
unfolding count
count-true n f h = rw h refl

pub count-false : (n : ℕ) (f : ℕ → Bool) → f n ≡ false → count (suc n) f ≡ count n f
unfolding count
count-false n f h = rw h refl

pub count-zero : (f : ℕ → Bool) → count zero f ≡ 0
unfolding count
count-zero f = refl

pub count_mono : (n : ℕ) (f g : ℕ → Bool) → ((k : ℕ) → k < n → f k ≡ true → g k ≡ true) → count n f ≤ count n g
unfolding count
count_mono zero f g h = omega arith
count_mono (suc n) f g h =
    let r : count n f ≤ count n g = count_mono n f g (λ k l. h k (omega arith)) in
    by_cases (f n)
    (λ t. rw (t, h n (omega arith) t) (omega arith))
    (λ t. by_cases (g n) (λ u. rw (t, u) (omega arith)) (λ u. rw (t, u) (omega arith)))

pub count-le : (n : ℕ) (f : ℕ → Bool) → count n f ≤ n
unfolding count
count-le zero f = omega arith
count-le (suc n) f =
    let r : count n f ≤ n = count-le n f in
    by_cases (f n) (λ t. rw t (omega arith)) (λ t. rw t (omega arith))

-- a count with more numbers is no smaller
pub count_grows : (n : ℕ) (f : ℕ → Bool) → count n f ≤ count (suc n) f
unfolding count
count_grows n f = by_cases (f n) (λ t. rw t (omega arith)) (λ t. rw t (omega arith))

pub count_some : (n : ℕ) (f : ℕ → Bool) (k : ℕ) → k < n → f k ≡ true → 1 ≤ count n f
count_some zero f k l h = absurd (not-suc-le-zero l)
count_some (suc n) f k l h =
    below_suc n k l
    (λ m. omega (arith, count_some n f k m h, count_grows n f))
    (λ e. omega (arith, count-true n f (subst (λ (x : ℕ). f x ≡ true) e h)))

pub count_none : (n : ℕ) (f : ℕ → Bool) → ((k : ℕ) → k < n → f k ≡ false) → count n f ≡ 0
count_none zero f h = count-zero f
count_none (suc n) f h = count-false n f (h n (omega arith)) ∙ count_none n f (λ k l. h k (omega arith))

-- a number that is counted
pub count_at : (n : ℕ) (f : ℕ → Bool) → 1 ≤ count n f → (k : ℕ) × (k < n) × (f k ≡ true)
count_at n f h =
    any_at n f
    (by_cases (any n f) (λ t. t) (λ t. absurd (omega (arith, count_none n f (any_none n f t)))))

-- one number has f, and no other
pub count_one : (n : ℕ) (f : ℕ → Bool) (s : ℕ) → s < n → f s ≡ true → ((k : ℕ) → k < n → (k ≡ s → ⊥) → f k ≡ false) → count n f ≡ 1
count_one zero f s l h only = absurd (not-suc-le-zero l)
count_one (suc n) f s l h only =
    below_suc n s l
    (λ m. count-false n f (only n (omega arith) (λ e. omega arith)) ∙ count_one n f s m h (λ k b. only k (omega arith)))
    (λ e. omega (
      arith,
      count-true n f (subst (λ (x : ℕ). f x ≡ true) e h),
      count_none n f (λ k b. only k (omega arith) (λ d. omega arith)),
    ))

-- s has f, t may have it, and no other
pub count_two : (n : ℕ) (f : ℕ → Bool) (s t : ℕ) → s < t → t < n → f s ≡ true
    → ((k : ℕ) → k < n → (k ≡ s → ⊥) → (k ≡ t → ⊥) → f k ≡ false) → count n f ≡ cond (f t) 2 1
count_two zero f s t l m h only = absurd (not-suc-le-zero m)
count_two (suc n) f s t l m h only =
    below_suc n t m
    (λ b. count-false n f (only n (omega arith) (λ e. omega arith) (λ e. omega arith)) ∙ count_two n f s t l b h (λ k a. only k (omega arith)))
    (λ e. rw e (last (count_one n f s (omega arith) h (λ k a d. only k (omega arith) d (λ x. omega arith)))))
  where
    last : count n f ≡ 1 → count (suc n) f ≡ cond (f n) 2 1
    last c = by_cases (f n) (λ y. count-true n f y ∙ rw (y, c) refl) (λ y. count-false n f y ∙ rw (y, c) refl)

-- g has one number more than f
pub count_insert : (n : ℕ) (f g : ℕ → Bool) (v : ℕ) → v < n → f v ≡ false → g v ≡ true → ((k : ℕ) → k < n → (k ≡ v → ⊥) → f k ≡ g k)
    → count n g ≡ suc (count n f)
count_insert zero f g v l a b h = absurd (not-suc-le-zero l)
count_insert (suc n) f g v l a b h =
    below_suc n v l
    (λ m.
    let r : count n g ≡ suc (count n f) = count_insert n f g v m a b (λ k d. h k (omega arith)) in
    let same : f n ≡ g n = h n (omega arith) (λ e. omega arith) in
    by_cases (f n)
    (λ t. omega (arith, count-true n f t, count-true n g (sym same ∙ t)))
    (λ t. omega (arith, count-false n f t, count-false n g (sym same ∙ t))))
    (λ e.
    let r : count n f ≡ count n g = count_cong n f g (λ k d. h k (omega arith) (λ z. omega arith)) in
    omega (arith, count-false n f (subst (λ (x : ℕ). f x ≡ false) e a), count-true n g (subst (λ (x : ℕ). g x ≡ true) e b)))

-- what h counts, f or g counts
pub count_split : (n : ℕ) (h f g : ℕ → Bool) → ((k : ℕ) → k < n → h k ≡ true → f k ≡ false → g k ≡ true) → count n h ≤ count n f + count n g
count_split zero h f g c = omega (arith, count-zero h)
count_split (suc n) h f g c =
    let r : count n h ≤ count n f + count n g = count_split n h f g (λ k l. c k (omega arith)) in
    by_cases (h n)
    (λ t. by_cases (f n)
    (λ u. omega (arith, count-true n h t, count-true n f u, count_grows n g))
    (λ u. omega (arith, count-true n h t, count-false n f u, count-true n g (c n (omega arith) t u))))
    (λ t. omega (arith, count-false n h t, count_grows n f, count_grows n g))

-- the two numbers below n that have f
pub record Two (n : ℕ) (f : ℕ → Bool) : Type 0 where
  pub low : ℕ
  pub high : ℕ
  pub ordered : low < high
  pub below : high < n
  pub has_low : f low ≡ true
  pub has_high : f high ≡ true
  pub only : (k : ℕ) → k < n → (k ≡ low → ⊥) → (k ≡ high → ⊥) → f k ≡ false

-- the one number below n that has f
record One (n : ℕ) (f : ℕ → Bool) : Type 0 where
  it : ℕ
  below : it < n
  has : f it ≡ true
  only : (k : ℕ) → k < n → (k ≡ it → ⊥) → f k ≡ false

count_is_zero : (n : ℕ) (f : ℕ → Bool) → count n f ≡ 0 → (k : ℕ) → k < n → f k ≡ false
count_is_zero n f h k l = is_false (f k) (λ t. omega (arith, count_some n f k l t))

count_is_one : (n : ℕ) (f : ℕ → Bool) → count n f ≡ 1 → One n f
count_is_one zero f h = absurd (omega (arith, count-zero f))
count_is_one (suc n) f h =
    by_cases (f n)
    (λ t. record {
      it = n;
      below = omega arith;
      has = t;
      only = λ k l d. count_is_zero n f (omega (arith, count-true n f t)) k (omega arith);
    })
    (λ t. let w : One n f = count_is_one n f (omega (arith, count-false n f t)) in
    record {
      it = w.it;
      below = omega (arith, w.below);
      has = w.has;
      only = λ k l d. below_suc n k l (λ m. w.only k m d) (λ e. subst (λ (x : ℕ). f x ≡ false) (sym e) t);
    })

pub count_is_two : (n : ℕ) (f : ℕ → Bool) → count n f ≡ 2 → Two n f
count_is_two zero f h = absurd (omega (arith, count-zero f))
count_is_two (suc n) f h =
    by_cases (f n)
    (λ t. let w : One n f = count_is_one n f (omega (arith, count-true n f t)) in
    record {
      low = w.it;
      high = n;
      ordered = w.below;
      below = omega arith;
      has_low = w.has;
      has_high = t;
      only = λ k l d e. w.only k (omega arith) d;
    })
    (λ t. let w : Two n f = count_is_two n f (omega (arith, count-false n f t)) in
    record {
      low = w.low;
      high = w.high;
      ordered = w.ordered;
      below = omega (arith, w.below);
      has_low = w.has_low;
      has_high = w.has_high;
      only = λ k l d e. below_suc n k l (λ m. w.only k m d e) (λ x. subst (λ (x : ℕ). f x ≡ false) (sym x) t);
    })
