-- The tests say what the records say, and what validity depends on. Assumes nothing.
use mathlib.Core.Bool.{true, false, ◌&&◌}
use mathlib.Core.Path.{◌≡◌, subst, ap}
use Prim.Native.Nat.{ℕ, ◌<◌}
use lib.Dec.{leb, ltb}
use borrow.Author.Tests.{leb-true, le-leb, ltb-true, lt-ltb}
use Rattle.bits.specs.Below.{all}
use Rattle.bits.proofs.Below.{true-false, all_at, all_of, and_left, and_right}
use Rattle.bits.proofs.Counting.{and_of}
use Rattle.workflow.specs.Problem.{Rule, Job, May, Plan, Agree, class_count, class_load, InBounds, Met, met, Valid, authorised_test, eligible_test, valid, Satisfiable}
use Rattle.workflow.specs.Independent.{Alike, classes_of}
use Rattle.workflow.proofs.Counts.{distinct_alike, distinct_cong}
use Rattle.workflow.proofs.Loads.{load_alike, load_cong}

-- the bounds of a rule hold of other figures that are the same
pub bounds_same : (r : Rule) {n n' l l' : ℕ} → n ≡ n' → l ≡ l' → InBounds r n l → InBounds r n' l'
bounds_same r {n} {n'} {l} {l'} e d b = subst (λ (x : ℕ). InBounds r x l') e (subst (InBounds r n) d b)

module _ (j : Job) (r : Rule) (π : Plan) where
  pub met_sound : met j r π ≡ true → Met j r π
  met_sound h =
      let counted = and_left (leb r.least (class_count j r π) && leb (class_count j r π) r.most) _ h in
      record {
        least = leb-true _ _ (and_left (leb r.least (class_count j r π)) _ counted);
        most = leb-true _ _ (and_right (leb r.least (class_count j r π)) _ counted);
        load = leb-true _ _ (and_right (leb r.least (class_count j r π) && leb (class_count j r π) r.most) _ h);
      }

  pub met_complete : Met j r π → met j r π ≡ true
  met_complete h = and_of _ _ (and_of _ _ (le-leb _ _ h.least) (le-leb _ _ h.most)) (le-leb _ _ h.load)

module _ (j : Job) (may : May) (π : Plan) where
  pub valid_sound : valid j may π ≡ true → Valid j may π
  unfolding valid authorised_test eligible_test
  valid_sound h =
      let a = and_left (all j.steps (λ s. ltb (π s) j.people && may s (π s))) _ h in
      let e = and_right (all j.steps (λ s. ltb (π s) j.people && may s (π s))) _ h in
      record {
        within = λ s l. ltb-true _ _ (and_left (ltb (π s) j.people) _ (all_at j.steps _ a s l));
        authorised = λ s l. and_right (ltb (π s) j.people) _ (all_at j.steps _ a s l);
        eligible = λ i l. met_sound j (j.rule i) π (all_at j.rules _ e i l);
      }

  pub valid_complete : Valid j may π → valid j may π ≡ true
  unfolding valid authorised_test eligible_test
  valid_complete v =
      and_of _ _
      (all_of j.steps _ (λ s l. and_of _ _ (lt-ltb _ _ (v.within s l)) (v.authorised s l)))
      (all_of j.rules _ (λ i l. met_complete j (j.rule i) π (v.eligible i l)))

  pub not_valid : valid j may π ≡ false → Valid j may π → ⊥
  not_valid h v = true-false (valid_complete v) h

module _ (j : Job) (r : Rule) (π σ : Plan) where
  -- a count depends only on which steps of the scope share a class of the level
  pub count_alike : Alike j.steps r.scope (classes_of j r.level π) (classes_of j r.level σ) → class_count j r π ≡ class_count j r σ
  count_alike a = distinct_alike j.steps r.scope _ _ a

  -- so does the largest load
  pub loads_alike : Alike j.steps r.scope (classes_of j r.level π) (classes_of j r.level σ) → class_load j r π ≡ class_load j r σ
  loads_alike a = load_alike j.steps r.scope _ _ a

  -- and so does whether the rule is met
  pub met_alike : Alike j.steps r.scope (classes_of j r.level π) (classes_of j r.level σ) → Met j r π → Met j r σ
  met_alike a m = bounds_same r (count_alike a) (loads_alike a) m

  -- and it depends on the classes of the scope's steps only
  pub met_cong : ((s : ℕ) → s < j.steps → r.scope s ≡ true → j.class r.level (π s) ≡ j.class r.level (σ s)) → Met j r π → Met j r σ
  met_cong h m = bounds_same r (distinct_cong j.steps r.scope _ _ h) (load_cong j.steps r.scope _ _ h) m

-- validity depends on the people of the job's steps only
pub valid_agree : (j : Job) (may : May) (π σ : Plan) → Agree j.steps π σ → Valid j may π → Valid j may σ
valid_agree j may π σ a v =
    record {
      within = λ s l. subst (λ (p : ℕ). p < j.people) (a s l) (v.within s l);
      authorised = λ s l. subst (λ (p : ℕ). may s p ≡ true) (a s l) (v.authorised s l);
      eligible = λ i l. met_cong j (j.rule i) π σ (λ s b k. ap (j.class (j.rule i).level) (a s b)) (v.eligible i l);
    }

-- more may be permitted
pub valid_mono : (j : Job) (may more : May) (π : Plan) → ((s p : ℕ) → s < j.steps → p < j.people → may s p ≡ true → more s p ≡ true) → Valid j may π → Valid j more π
valid_mono j may more π h v =
    record {
      within = v.within;
      authorised = λ s l. h s (π s) l (v.within s l) (v.authorised s l);
      eligible = v.eligible;
    }

pub satisfiable_mono : (j : Job) (may more : May) → ((s p : ℕ) → s < j.steps → p < j.people → may s p ≡ true → more s p ≡ true) → Satisfiable j may → Satisfiable j more
satisfiable_mono j may more h w = (w.0, valid_mono j may more w.0 h w.1)
