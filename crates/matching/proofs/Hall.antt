-- Why a failed search leaves no assignment. A set of classes is closed for a group when it has the group's class, and each class
-- in it has a holder whose own class is in it too. Take the group's class out: the set is closed for the holder of that class.
-- Assumes nothing.
use mathlib.Core.Bool.{Bool, true, false, not, ◌&&◌, and-false, and-true, cond}
use mathlib.Core.Path.{◌≡◌, refl, sym, ap, ◌∙◌, subst}
use Prim.Native.Nat.{ℕ, zero, suc, ◌≤◌, ◌<◌}
use native.Mathlib.Omega.{arith}
use native.Mathlib.Nat.{not-suc-le-zero, le_refl}
use lib.Dec.{eqb}
use borrow.Author.Tests.{ne_eqb, eq-eqb}
use Rattle.bits.specs.Below.{count}
use Rattle.bits.proofs.Below.{true-false, and_left, and_right, below_suc}
use Rattle.matching.specs.Assignment.{Assignment}

-- the set S less c
abbrev less : (ℕ → Bool) → ℕ → ℕ → Bool
less S c d = S d && not (eqb d c)

less_in : (S : ℕ → Bool) (c d : ℕ) → S d ≡ true → (d ≡ c → ⊥) → less S c d ≡ true
less_in S c d s n = rw (s, ne_eqb d c n) refl

less_was : (S : ℕ → Bool) (c d : ℕ) → less S c d ≡ true → S d ≡ true
less_was S c d h = and_left (S d) (not (eqb d c)) h

less_other : (S : ℕ → Bool) (c d : ℕ) → less S c d ≡ true → d ≡ c → ⊥
less_other S c d h e =
    true-false (rw (eq-eqb d c e) at (and_right (S d) (not (eqb d c)) h)) refl

less_same : (S : ℕ → Bool) (c d : ℕ) → (d ≡ c → ⊥) → less S c d ≡ S d
less_same S c d n = rw (ne_eqb d c n) (and-true (S d))

less_gone : (S : ℕ → Bool) (c : ℕ) → less S c c ≡ false
less_gone S c = rw (eq-eqb c c refl) (and-false (S c))

count_same : (n : ℕ) (f g : ℕ → Bool) → ((k : ℕ) → k < n → f k ≡ g k) → count n f ≡ count n g
unfolding count
count_same zero f g h = refl
count_same (suc n) f g h = rw (h n (omega arith), count_same n f g (λ k l. h k (omega arith))) refl

-- a set less something that it has is smaller
count_less : (n : ℕ) (S : ℕ → Bool) (c : ℕ) → c < n → S c ≡ true → suc (count n (less S c)) ≡ count n S
unfolding count
count_less zero S c l s = absurd (not-suc-le-zero l)
count_less (suc n) S c l s =
    below_suc n c l
    (λ m. step (S n) m (less_same S c n (λ e. omega arith)) refl (count_less n S c m s))
    (λ e. top e)
  where
    step : (b : Bool) → c < n → less S c n ≡ S n → S n ≡ b → suc (count n (less S c)) ≡ count n S
        → suc (cond (less S c n) (suc (count n (less S c))) (count n (less S c))) ≡ cond (S n) (suc (count n S)) (count n S)
    step true m q e r = rw (q, e, r) refl
    step false m q e r = rw (q, e, r) refl

    top : c ≡ n → suc (cond (less S c n) (suc (count n (less S c))) (count n (less S c))) ≡ cond (S n) (suc (count n S)) (count n S)
    top e =
        let p : S n ≡ true = subst (λ (x : ℕ). S x ≡ true) e s in
        let q : less S c n ≡ false = subst (λ (x : ℕ). less S c x ≡ false) e (less_gone S c) in
        rw (q, p, count_same n (less S c) S (λ k l. less_same S c k (λ d. omega arith))) refl

-- ---- the argument, from an assignment f; `at` is the class that each holder has
module _ (group : ℕ → Bool) (edge : ℕ → ℕ → Bool) (f at : ℕ → ℕ) (a : Assignment group edge f) where
  -- a group other than g that has class c, and whose class under f is in S
  pub record Inside (S : ℕ → Bool) (g c : ℕ) : Type 0 where
    pub who : ℕ
    pub has : at who ≡ c
    pub known : group who ≡ true
    pub inside : S (f who) ≡ true
    pub other : who ≡ g → ⊥

  closed : (n : ℕ) (S : ℕ → Bool) (g : ℕ) → count 64 S ≤ n → ((c : ℕ) → S c ≡ true → c < 64)
      → group g ≡ true → S (f g) ≡ true → ((c : ℕ) → S c ≡ true → Inside S g c) → ⊥
  closed zero S g l b k s holds =
      let z : suc (count 64 (less S (f g))) ≡ count 64 S = count_less 64 S (f g) (b (f g) s) s in omega arith
  closed (suc n) S g l b k s holds =
      let z : suc (count 64 (less S (f g))) ≡ count 64 S = count_less 64 S (f g) (b (f g) s) s in
      let h = holds (f g) s in
      closed n (less S (f g)) h.who (omega arith) (λ c t. b c (less_was S (f g) c t)) h.known
      (less_in S (f g) (f h.who) h.inside (λ e. h.other (a.apart h.who g h.known k e)))
      (λ c t. next c t (holds c (less_was S (f g) c t)))
    where
      next : (c : ℕ) → less S (f g) c ≡ true → Inside S g c → Inside (less S (f g)) (holds (f g) s).who c
      next c t r = record {
        who = r.who;
        has = r.has;
        known = r.known;
        inside = less_in S (f g) (f r.who) r.inside (λ e. r.other (a.apart r.who g r.known k e));
        other = λ e. less_other S (f g) c t (sym r.has ∙ ap at e ∙ (holds (f g) s).has);
      }

  -- so no set is closed
  pub none_closed : (S : ℕ → Bool) (g : ℕ) → ((c : ℕ) → S c ≡ true → c < 64) → group g ≡ true → S (f g) ≡ true
      → ((c : ℕ) → S c ≡ true → Inside S g c) → ⊥
  none_closed S g = closed (count 64 S) S g (le_refl (count 64 S))
