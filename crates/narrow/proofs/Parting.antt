-- Steps that cannot share a class, taken one by one, and their number: each has a class of its own. Assumes nothing.
use mathlib.Core.Bool.{Bool, true, false, ◌&&◌, ◌||◌}
use mathlib.Core.List.{List}
use mathlib.Core.Path.{◌≡◌, refl, sym, subst, ap, ◌∙◌}
use Prim.Native.Nat.{ℕ, zero, suc, ◌+◌, ◌≤◌, ◌<◌}
use native.Mathlib.Omega.{arith}
use lib.Bits.{bit_and, bit_or}
use lib.Dec.{eqb, ltb}
use lib.ListN.{get_or}
use borrow.Author.Tests.{eqb-true, eqb-false, lt-ltb, ltb-true}
use Rattle.bits.specs.Below.{count}
use Rattle.bits.specs.Word.{has_bit}
use Rattle.bits.specs.Set.{Added, FirstAndRest}
use Rattle.bits.proofs.Below.{by_cases, true-false, and_left, and_right}
use Rattle.bits.proofs.Counting.{and_of, is_false, bool_ext, count-zero, count-true, count-false}
use Rattle.bits.proofs.SetLaws.{or-bit, empty_lacks, and_apart, added_other}
use Rattle.workflow.specs.Problem.{distinct}
use Rattle.workflow.proofs.Occurs.{distinct_scope_mono}
use Rattle.workflow.proofs.Labels.{Adds}
use Rattle.pattern.proofs.Counted.{distinct_new}
use Rattle.pattern.specs.Tables.{may_in}
use Rattle.narrow.specs.Fixing.{Reaching}
use Rattle.narrow.specs.Parting.{Apart}
use Rattle.bits.proofs.Masks.{or_cases, or_left, or_right, taken_was}
use Rattle.narrow.proofs.Settling.{bound_of}

-- the steps left are of the steps
pub record Parting (people : ℕ) (c : ℕ → ℕ) (steps used : ℕ) (dom : List ℕ) (left all heads : ℕ) : Type 0 where
  pub apart : Apart people c steps used dom all heads
  pub rest : (s : ℕ) → has_bit left s ≡ true → has_bit steps s ≡ true

module _ {people : ℕ} {c : ℕ → ℕ} {steps used : ℕ} {dom : List ℕ} where
  module _ {left all heads s left' : ℕ} (w : Parting people c steps used dom left all heads) (taken : FirstAndRest left s left') where
    -- the step is passed
    pub parting_skip : Parting people c steps used dom left' all heads
    parting_skip = record { apart = w.apart; rest = λ u h. w.rest u (taken_was taken u h) }

    -- its domain reaches none of the classes so far
    module _ {crowd heads' : ℕ} (reach : Reaching people c (get_or dom s 0) 0 crowd) (clear : bit_and crowd all ≡ 0) (more : Added heads s heads') where
      -- a head is the step or was one before
      by_head : {P : Type 0} (u : ℕ) → has_bit heads' u ≡ true → (u ≡ s → P) → (has_bit heads u ≡ true → P) → P
      by_head u h f g = by_cases (eqb u s) (λ x. f (eqb-true u s x)) (λ x. g (sym (added_other more u (eqb-false u s x)) ∙ h))

      outside : (p : ℕ) → p < people → may_in dom s p ≡ true → has_bit all p ≡ false
      outside p l h = and_apart crowd all p clear (reach.has p p l l h (empty_lacks p) refl)

      at : (u p : ℕ) → u ≡ s → may_in dom u p ≡ true → may_in dom s p ≡ true
      at u p e h = subst (λ (x : ℕ). may_in dom x p ≡ true) e h

      -- the class of somebody of the step's domain is none of those of a head before
      clash : (u p q : ℕ) → has_bit heads u ≡ true → p < people → q < people → may_in dom u p ≡ true → may_in dom s q ≡ true → c p ≡ c q → ⊥
      clash u p q h l m i k e = true-false ((w.apart.reaches u h).has p q l m i (empty_lacks p) e) (outside q m k)

      pub parting_take : Parting people c steps used dom left' (bit_or all crowd) heads'
      parting_take =
          record {
            apart = record {
              among = λ u h. by_head u h (λ e. subst (λ (x : ℕ). has_bit steps x ≡ true) (sym e) (w.rest s taken.lowest.has)) (w.apart.among u);
              keeps = λ p h. or-bit all crowd p ∙ or_left (has_bit all p) (has_bit crowd p) (w.apart.keeps p h);
              reaches = λ u h. record {
                has = λ p q l m i k e.
                    or-bit all crowd q
                    ∙ by_head u h
                    (λ x. or_right (has_bit all q) (has_bit crowd q) (reach.has p q l m (at u p x i) k e))
                    (λ x. or_left (has_bit all q) (has_bit crowd q) ((w.apart.reaches u x).has p q l m i k e));
              };
              new = λ u p h l i.
                  by_head u h
                  (λ x. is_false _ (λ k. true-false (w.apart.keeps p k) (outside p l (at u p x i))))
                  (λ x. w.apart.new u p x l i);
              differ = λ u t p q h k d l m i j e.
                  by_head u h
                  (λ x. by_head t k (λ y. d (x ∙ sym y)) (λ y. clash t q p y m l j (at u p x i) (sym e)))
                  (λ x. by_head t k (λ y. clash u p q x l m i (at t q y j) e) (λ y. w.apart.differ u t p q x y d l m i j e));
            };
            rest = λ u h. w.rest u (taken_was taken u h);
          }

-- where each step of `more` has a class that no step of the part has and no other of `more`, the scope has as many classes more
pub classes_from : (n : ℕ) (scope part more : ℕ → Bool) (c : ℕ → ℕ) → ((s : ℕ) → s < n → part s ≡ true → scope s ≡ true)
    → ((s : ℕ) → s < n → more s ≡ true → scope s ≡ true)
    → ((s u : ℕ) → s < n → u < n → more s ≡ true → part u ≡ true → c u ≡ c s → ⊥)
    → ((s t : ℕ) → s < n → t < n → more s ≡ true → more t ≡ true → (s ≡ t → ⊥) → c s ≡ c t → ⊥)
    → distinct n part c + count n more ≤ distinct n scope c
classes_from n scope part more c inside also new differ =
    let a : distinct n part c + count n more ≤ distinct n (so_far n) c = grow n (omega arith) in
    let b : distinct n (so_far n) c ≤ distinct n scope c
    = distinct_scope_mono n c (so_far n) scope
    (λ u l h. or_cases (part u) _ h (λ x. inside u l x) (λ x. also u l (and_left (more u) _ x))) in
    omega arith
  where
    -- the part, and those of `more` below k
    so_far : ℕ → ℕ → Bool
    so_far k u = part u || (more u && ltb u k)

    wider : (k u : ℕ) → so_far k u ≡ true → so_far (suc k) u ≡ true
    wider k u h =
        or_cases (part u) _ h (λ x. or_left (part u) _ x)
        (λ x. or_right (part u) _
        (and_of (more u) _ (and_left (more u) _ x) (lt-ltb u (suc k) (omega (arith, ltb-true u k (and_right (more u) _ x))))))

    adds : (k : ℕ) → k < n → more k ≡ true → Adds n (so_far k) (so_far (suc k)) k
    adds k l h =
        record {
          below = l;
          lacks = is_false _
              (λ x. or_cases (part k) _ x (λ y. new k k l l h y refl) (λ y. omega (arith, ltb-true k k (and_right (more k) _ y))));
          has = or_right (part k) _ (and_of (more k) _ h (lt-ltb k (suc k) (omega arith)));
          others = λ u d.
              ap (λ (b : Bool). part u || (more u && b))
              (bool_ext _ _
              (λ x. lt-ltb u (suc k) (omega (arith, ltb-true u k x)))
              (λ x. lt-ltb u k (omega (arith, ltb-true u (suc k) x))));
        }

    grow : (k : ℕ) → k ≤ n → distinct n part c + count k more ≤ distinct n (so_far k) c
    grow zero l =
        let a : distinct n part c ≤ distinct n (so_far zero) c
        = distinct_scope_mono n c part (so_far zero) (λ u m h. or_left (part u) _ h) in
        omega (arith, count-zero more)
    grow (suc k) l =
        let a : distinct n part c + count k more ≤ distinct n (so_far k) c = grow k (omega arith) in
        by_cases (more k)
        (λ t.
        let b = bound_of n c in
        let d : distinct n (so_far (suc k)) c ≡ suc (distinct n (so_far k) c)
        = distinct_new n b.0 (so_far k) (so_far (suc k)) c k (adds k l t) (λ u m h. b.1 u m)
        (λ u m h e. or_cases (part u) _ h (λ x. new k u l m t x e)
        (λ x. differ u k m l (and_left (more u) _ x) t (λ y. omega (arith, ltb-true u k (and_right (more u) _ x))) e)) in
        omega (arith, count-true k more t))
        (λ t.
        let d : distinct n (so_far k) c ≤ distinct n (so_far (suc k)) c
        = distinct_scope_mono n c (so_far k) (so_far (suc k)) (λ u m h. wider k u h) in
        omega (arith, count-false k more t))
