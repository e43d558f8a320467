-- The fine classes counted person by person, and what some coarse classes have together rank by rank. Assumes nothing.
use mathlib.Core.Bool.{Bool, true, false, cond, ◌&&◌}
use mathlib.Core.List.{List}
use mathlib.Core.Path.{◌≡◌, refl, sym, subst, ap, ◌∙◌}
use Prim.Native.Nat.{ℕ, zero, suc, ◌+◌, ◌-◌, ◌≤◌, ◌<◌}
use native.Mathlib.Numerals.{add-one}
use native.Mathlib.Omega.{arith}
use lib.Dec.{eqb, ltb}
use lib.ListN.{get_or, set, replicate, length-set, length-replicate, get_or-replicate}
use lib.Seq.{get_or-set_same, get_or-set_other}
use borrow.Author.Tests.{eqb-true, eqb-false, eq-eqb, lt-ltb, le-ltb}
use Rattle.bits.proofs.Below.{by_cases, and_left, and_right}
use Rattle.bits.proofs.Counting.{and_of, is_false, count-true, count-false, count-zero, count-le}
use Rattle.workflow.proofs.Counts.{distinct-le}
use Rattle.pattern.specs.Number.{first_use, classes_before}
use Rattle.pattern.proofs.Number.{met_new, met_old, number_first, number_old, number_few}
use Rattle.relax.specs.Bound.{Nests, inside, rank, of_rank, Tally, Counted, together, Needs}

module _ (f : ℕ → ℕ → Bool) where
  pub tally_none : Tally 0 f (replicate {A = ℕ} 64 0)
  tally_none = record { sized = length-replicate {A = ℕ} 64 0; each = λ e l. get_or-replicate {A = ℕ} 64 e 0 0 l ∙ sym (count-zero (f e)) }

  module _ (n : ℕ) (tally : List ℕ) (w : Tally n f tally) where
    -- no entry counts the next
    pub tally_past : ((e : ℕ) → f e n ≡ false) → Tally (n + 1) f tally
    tally_past h = rw (add-one n) (record { sized = w.sized; each = λ e l. w.each e l ∙ sym (count-false n (f e) (h e)) })

    -- entry k alone counts the next
    pub tally_more : (k : ℕ) → k < 64 → f k n ≡ true → ((e : ℕ) → (e ≡ k → ⊥) → f e n ≡ false) → Tally (n + 1) f (set tally k (get_or tally k 0 + 1))
    tally_more k b h only =
        rw (add-one n)
        (record {
          sized = length-set tally k (get_or tally k 0 + 1) ∙ w.sized;
          each = λ e l.
              by_cases (eqb e k)
              (λ t. rw (eqb-true e k t, get_or-set_same tally k (get_or tally k 0 + 1) 0 (omega (arith, w.sized)), count-true n (f k) h)
              (omega (arith, w.each k b)))
              (λ t. let d = eqb-false e k t in
              get_or-set_other tally k e (get_or tally k 0 + 1) 0 d ∙ w.each e l ∙ sym (count-false n (f e) (only e d)));
        })

    pub tally_le : (e : ℕ) → e < 64 → get_or tally e 0 ≤ n
    tally_le e l = let a = count-le n (f e) in omega (arith, w.each e l)

-- the numbers of classes are below the number of people
module _ {people : ℕ} {coarse fine : ℕ → ℕ} (nests : Nests people coarse fine) where
  pub coarse_below : (p : ℕ) → p < people → coarse p < people
  coarse_below p l = omega (arith, nests.coarse_number p l, number_few people coarse p l)

-- and there are at most as many classes as people
pub classes_few : {people : ℕ} {coarse fine : ℕ → ℕ} {classes : ℕ} {counts : List ℕ} → people ≤ 64 → Counted people coarse fine classes counts → classes ≤ 64
classes_few {people} {fine = fine} few w = omega (arith, w.all, distinct-le people (λ p. true) fine)

-- the fine classes met at the first n people, by coarse class and by rank
pub record Ranking (people n : ℕ) (coarse fine : ℕ → ℕ) (met : ℕ) (sizes counts : List ℕ) : Type 0 where
  pub so_far : met ≡ classes_before fine n
  pub by_class : Tally n (inside people coarse fine) sizes
  pub by_rank : Tally n (of_rank people coarse fine) counts

pub ranking_none : (people : ℕ) (coarse fine : ℕ → ℕ) → Ranking people 0 coarse fine 0 (replicate {A = ℕ} 64 0) (replicate {A = ℕ} 64 0)
ranking_none people coarse fine =
    record {
      so_far = omega (arith, distinct-le 0 (λ p. true) fine);
      by_class = tally_none (inside people coarse fine);
      by_rank = tally_none (of_rank people coarse fine);
    }

module _ {people n : ℕ} {coarse fine : ℕ → ℕ} {met : ℕ} {sizes counts : List ℕ} (w : Ranking people n coarse fine met sizes counts) where
  pub ranked : n ≡ people → Counted people coarse fine met counts
  ranked e =
      record { all = w.so_far ∙ ap (classes_before fine) e; by_rank = subst (λ (k : ℕ). Tally k (of_rank people coarse fine) counts) e w.by_rank }

  module _ (few : people ≤ 64) (nests : Nests people coarse fine) (below : n < people) where
    -- a class that was met before
    pub ranking_past : (fine n ≡ met → ⊥) → Ranking people (n + 1) coarse fine met sizes counts
    ranking_past old =
        record {
          so_far = rw (add-one n) (w.so_far ∙ sym (met_old people fine n below again));
          by_class = tally_past (inside people coarse fine) n sizes w.by_class (λ e. not_first _);
          by_rank = tally_past (of_rank people coarse fine) n counts w.by_rank (λ e. not_first _);
        }
      where
        again : first_use people fine n ≡ n → ⊥
        again e = old (nests.fine_number n below ∙ number_first people fine n e ∙ sym w.so_far)

        not_first : (b : Bool) → eqb (first_use people fine n) n && b ≡ false
        not_first b = is_false _ (λ h. again (eqb-true _ _ (and_left (eqb (first_use people fine n) n) b h)))

    -- a new class
    module _ (new : fine n ≡ met) where
      is_first : first_use people fine n ≡ n
      is_first =
          by_cases (eqb (first_use people fine n) n) (λ t. eqb-true _ _ t)
          (λ t. absurd (omega (arith, number_old people fine n below (eqb-false _ _ t), nests.fine_number n below, w.so_far)))

      pub coarse_few : coarse n < 64
      coarse_few = omega (arith, coarse_below nests n below)

      pub rank_few : get_or sizes (coarse n) 0 < 64
      rank_few = omega (arith, tally_le (inside people coarse fine) n sizes w.by_class (coarse n) coarse_few)

      pub count_few : get_or counts (get_or sizes (coarse n) 0) 0 < 64
      count_few = omega (arith, tally_le (of_rank people coarse fine) n counts w.by_rank (get_or sizes (coarse n) 0) rank_few)

      its_rank : get_or sizes (coarse n) 0 ≡ rank people coarse fine n
      unfolding rank
      its_rank = w.by_class.each (coarse n) coarse_few

      pub ranking_more : Ranking people (n + 1) coarse fine (met + 1) (set sizes (coarse n) (get_or sizes (coarse n) 0 + 1))
          (set counts (get_or sizes (coarse n) 0) (get_or counts (get_or sizes (coarse n) 0) 0 + 1))
      ranking_more =
          record {
            so_far = rw (add-one n) (omega (arith, w.so_far, met_new people fine n below is_first));
            by_class = tally_more (inside people coarse fine) n sizes w.by_class (coarse n) coarse_few
                (and_of _ _ (eq-eqb (first_use people fine n) n is_first) (eq-eqb (coarse n) (coarse n) refl))
                (λ e d. is_false _ (λ h. d (sym (eqb-true _ _ (and_right (eqb (first_use people fine n) n) _ h)))));
            by_rank = tally_more (of_rank people coarse fine) n counts w.by_rank (get_or sizes (coarse n) 0) rank_few
                (and_of _ _ (eq-eqb (first_use people fine n) n is_first) (eq-eqb (rank people coarse fine n) (get_or sizes (coarse n) 0) (sym its_rank)))
                (λ e d. is_false _ (λ h. d (sym (eqb-true _ _ (and_right (eqb (first_use people fine n) n) _ h)) ∙ sym its_rank)));
          }

module _ (counts : List ℕ) (m : ℕ) where
  pub together-zero : together counts m 0 ≡ m
  unfolding together
  together-zero = refl

  -- as many as m, and as have the next rank
  least : ℕ → ℕ
  least r = cond (ltb (get_or counts r 0) m) (get_or counts r 0) m

  together-suc : (r : ℕ) → together counts m (suc r) ≡ together counts m r + least (suc r)
  unfolding together least
  together-suc r = refl

  together_next : (r sum x : ℕ) → 1 ≤ r → sum ≡ together counts m (r - 1) → least r ≡ x → sum + x ≡ together counts m (r + 1 - 1)
  together_next zero sum x l e h = absurd (omega arith)
  together_next (suc r) sum x l e h =
      let a : suc r + 1 - 1 ≡ suc r = omega arith in
      let b : suc r - 1 ≡ r = omega arith in
      let d : together counts m (suc r) ≡ together counts m r + least (suc r) = together-suc r in
      cc

  pub together-all : (r sum : ℕ) → 1 ≤ r → sum ≡ together counts m (r - 1) → get_or counts r 0 < m → sum + get_or counts r 0 ≡ together counts m (r + 1 - 1)
  unfolding least
  together-all r sum a e l = together_next r sum (get_or counts r 0) a e (rw (lt-ltb (get_or counts r 0) m l) refl)

  pub together_part : (r sum : ℕ) → 1 ≤ r → sum ≡ together counts m (r - 1) → m ≤ get_or counts r 0 → sum + m ≡ together counts m (r + 1 - 1)
  unfolding least
  together_part r sum a e l = together_next r sum m a e (rw (le-ltb (get_or counts r 0) m l) refl)

  pub together_end : (r sum last : ℕ) → sum ≡ together counts m (r - 1) → r - 1 ≡ last → sum ≡ together counts m last
  together_end r sum last e l = cc

  -- m or more in all
  pub together_from : (r : ℕ) → m ≤ together counts m r
  unfolding together
  together_from zero = omega arith
  together_from (suc r) = let a = together_from r in omega arith

module _ (counts : List ℕ) (last k : ℕ) where
  pub needs_more : (r : ℕ) → Needs counts last k r → r < k → together counts r last < k → Needs counts last k (r + 1)
  needs_more r w l b =
      record {
        from = omega arith;
        to = omega arith;
        fewer = λ m a d.
            by_cases (eqb m r)
            (λ t. rw (eqb-true m r t) b)
            (λ t. let e : m ≡ r → ⊥ = eqb-false m r t in w.fewer m a (omega arith));
      }

  pub needs_all : (r : ℕ) → r ≡ k → Needs counts last k r → Needs counts last k k
  needs_all r e w = subst (λ (x : ℕ). Needs counts last k x) e w
