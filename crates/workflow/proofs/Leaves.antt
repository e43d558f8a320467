-- The plans of the job of the remaining steps are those of the job as its sheet has it, in the same order. Assumes nothing.
use mathlib.Core.Bool.{Bool, true, false, not, ◌&&◌}
use mathlib.Core.Logic.{◌↔◌, inl, inr}
use mathlib.Core.Path.{◌≡◌, refl, sym, subst, ap, ◌∙◌}
use Prim.Native.Nat.{ℕ, ◌<◌, ◌≤◌}
use native.Mathlib.Omega.{arith}
use lib.Dec.{eqb, ltb}
use borrow.Author.Tests.{eqb-true, eqb-false, eq-eqb, ltb-true, ltb-false, not-true}
use Rattle.bits.specs.Below.{count, first}
use Rattle.bits.proofs.Below.{by_cases, true-false, and_left, and_right, first_has, first_none}
use Rattle.bits.proofs.Counting.{and_of, count_cong, bool_ext}
use Rattle.workflow.specs.Problem.{Job, May, Plan, Agree, Asks, Fits, Valid, Satisfiable, figure_of, opens, distinct, load_of, largest_load, HeldBySome}
use Rattle.workflow.specs.First.{Earlier, FirstValid}
use Rattle.workflow.specs.Skipped.{MarkedJob, scope_left, size_left, figure_left, AsksLeft, ValidLeft, SatisfiableLeft, EarlierLeft, FirstValidLeft, ValidWhole}
use Rattle.workflow.specs.Leaves.{Leaves, plan_left, may_left}
use Rattle.workflow.proofs.Counts.{opens_of, opens_scope}
use Rattle.workflow.proofs.Different.{distinct_different, different_unique}
use Rattle.workflow.proofs.Loads.{load_scope_mono, largest_load_is, largest_load_unique}
use Rattle.workflow.proofs.Occurs.{distinct_scope_mono}
use Rattle.workflow.proofs.Order.{earlier_agree, earlier_agree_second}
use Rattle.workflow.proofs.Rules.{figures_ask, figures_least, figures_most, figures_load, asks_whole}
use Rattle.workflow.proofs.Valid.{valid_agree}

-- how many steps a scope has is how many classes it has where each step is one
count-distinct : (n : ℕ) (scope : ℕ → Bool) (c : ℕ → ℕ) → ((s t : ℕ) → s < t → t < n → c s ≡ c t → ⊥) → count n scope ≡ distinct n scope c
unfolding distinct
count-distinct n scope c differ =
    count_cong n scope (opens scope c)
    (λ s l. bool_ext (scope s) (opens scope c s) (λ h. opens_of scope c s h (λ t m k e. differ t s m l e)) (opens_scope scope c s))

not_skipped : (b : Bool) → b ≡ false → not b ≡ true
not_skipped b e = rw e refl

module _ {m : MarkedJob} {j : Job} {at : ℕ → ℕ} (w : Leaves m j at) where
  -- no step is there twice
  at_once : (k l : ℕ) → k < j.steps → l < j.steps → at k ≡ at l → k ≡ l
  at_once k l a b e =
      by_cases (ltb k l)
      (λ t. absurd (omega (arith, w.ordered k l (ltb-true k l t) b)))
      (λ t. by_cases (ltb l k)
      (λ u. absurd (omega (arith, w.ordered l k (ltb-true l k u) a)))
      (λ u. omega (arith, ltb-false k l t, ltb-false l k u)))

  at_less : (k l : ℕ) → k < j.steps → l < j.steps → at k < at l → k < l
  at_less k l a b e =
      by_cases (ltb k l) (λ t. ltb-true k l t)
      (λ t. by_cases (eqb k l)
      (λ u. let d : at k ≡ at l = ap at (eqb-true k l u) in absurd (omega arith))
      (λ u. let d = eqb-false k l u in let c = ltb-false k l t in absurd (omega (arith, w.ordered l k (omega arith) a))))

  -- the classes over a scope are counted alike
  distinct_left : (S T : ℕ → Bool) (c d : ℕ → ℕ)
      → ((k : ℕ) → k < j.steps → T k ≡ S (at k))
      → ((k : ℕ) → k < j.steps → d k ≡ c (at k))
      → distinct j.steps T d ≡ distinct m.steps (λ s. S s && not (m.skipped s)) c
  distinct_left S T c d scoped classed =
      let v = distinct_different j.steps T d in
      different_unique {n = m.steps} {scope = λ s. S s && not (m.skipped s)} {c = c}
      (record {
        at = λ k. at (v.at k);
        below = λ k l. w.below (v.at k) (v.below k l);
        inside = λ k l.
            and_of (S (at (v.at k))) _ (sym (scoped (v.at k) (v.below k l)) ∙ v.inside k l)
            (not_skipped _ (w.remains (v.at k) (v.below k l)));
        once = λ k l a b e.
            v.once k l a b (classed (v.at k) (v.below k a) ∙ e ∙ sym (classed (v.at l) (v.below l b)));
        every = λ s l h.
            let k = w.every s l (not-true (m.skipped s) (and_right (S s) _ h)) in
            let o = v.every k.0 k.1 (scoped k.0 k.1 ∙ ap S k.2 ∙ and_left (S s) _ h) in
            (o.0, o.1, sym (classed (v.at o.0) (v.below o.0 o.1)) ∙ o.2 ∙ classed k.0 k.1 ∙ ap c k.2);
      })
      (distinct_different m.steps (λ s. S s && not (m.skipped s)) c)

  -- and so are the steps of a scope
  count_left : (S T : ℕ → Bool) → ((k : ℕ) → k < j.steps → T k ≡ S (at k))
      → count j.steps T ≡ count m.steps (λ s. S s && not (m.skipped s))
  count_left S T scoped =
      count-distinct j.steps T at (λ k l a b e. absurd (omega (arith, w.ordered k l a b)))
      ∙ distinct_left S T (λ s. s) at scoped (λ k l. refl)
      ∙ sym (count-distinct m.steps (λ s. S s && not (m.skipped s)) (λ s. s) (λ s t l b e. omega arith))

  -- so each class holds as many steps
  module _ (S T : ℕ → Bool) (c d : ℕ → ℕ) (scoped : (k : ℕ) → k < j.steps → T k ≡ S (at k)) (classed : (k : ℕ) → k < j.steps → d k ≡ c (at k)) where
    abbrev remaining : ℕ → Bool
    remaining s = S s && not (m.skipped s)

    each : (v : ℕ) → load_of j.steps T d v ≡ load_of m.steps remaining c v
    unfolding load_of
    each v =
        count_left (λ s. S s && eqb (c s) v) (λ k. T k && eqb (d k) v) (λ k l. rw (scoped k l, classed k l) refl)
        ∙ count_cong m.steps _ _ (λ s l. turned (S s) (eqb (c s) v) (not (m.skipped s)))
      where
        turned : (x y z : Bool) → x && y && z ≡ x && z && y
        turned x y z =
            bool_ext _ _
            (λ h. and_of _ _ (and_of _ _ (and_left x y (and_left (x && y) z h)) (and_right (x && y) z h)) (and_right x y (and_left (x && y) z h)))
            (λ h. and_of _ _ (and_of _ _ (and_left x z (and_left (x && z) y h)) (and_right (x && z) y h)) (and_right x z (and_left (x && z) y h)))

    held_left : (number : ℕ) → HeldBySome j.steps T d number → HeldBySome m.steps remaining c number
    held_left number (inl (k, l, h, e)) =
        inl (
          at k,
          w.below k l,
          and_of _ _ (sym (scoped k l) ∙ h) (not_skipped _ (w.remains k l)),
          sym (each (c (at k))) ∙ ap (load_of j.steps T d) (sym (classed k l)) ∙ e,
        )
    held_left number (inr (z, e)) = inr (sym (count_left S T scoped) ∙ z, e)

    load_left_lem : largest_load j.steps T d ≡ largest_load m.steps remaining c
    load_left_lem =
        let is = largest_load_is j.steps T d in
        largest_load_unique {n = m.steps} {scope = remaining} {c = c}
        (record { held = held_left _ is.held; none_more = λ v. omega (arith, each v, is.none_more v) })
        (largest_load_is m.steps remaining c)

  -- of each rule
  module _ (i : ℕ) (l : i < m.rules) where
    pub size_left_lem : count j.steps (j.rule i).scope ≡ size_left m (m.rule i)
    size_left_lem = count_left (m.rule i).scope (j.rule i).scope (λ k a. w.scope i k l a)

    -- the classes of the steps left
    abbrev seen : Plan → ℕ → ℕ
    seen π k = j.class (j.rule i).level (plan_left at π k)

    pub figure_left_lem : (π : Plan) → ((k : ℕ) → k < j.steps → π (at k) < m.people)
        → figure_of (m.rule i).kind j.steps (j.rule i).scope (seen π) ≡ figure_left m (m.rule i) π
    figure_left_lem π within =
        rw (
          distinct_left (m.rule i).scope (j.rule i).scope (λ s. m.class (m.rule i).level (π s)) (seen π)
              (λ k a. w.scope i k l a) (λ k a. w.class i (π (at k)) l (within k a)),
          load_left_lem (m.rule i).scope (j.rule i).scope (λ s. m.class (m.rule i).level (π s)) (seen π)
              (λ k a. w.scope i k l a) (λ k a. w.class i (π (at k)) l (within k a)),
        ) refl

  -- "the law that its plans and these are the same"
  pub valid_left : (may : May) (π : Plan) → ValidLeft m may π ↔ Valid j (may_left at may) (plan_left at π)
  valid_left may π = (forth, back)
    where
      forth : ValidLeft m may π → Valid j (may_left at may) (plan_left at π)
      forth v =
          let within : (k : ℕ) → k < j.steps → π (at k) < m.people = λ k l. v.within (at k) (w.below k l) (w.remains k l) in
          record {
            within = λ k l. omega (arith, within k l, w.people);
            authorised = λ k l. v.authorised (at k) (w.below k l) (w.remains k l);
            eligible = λ i a.
                let l : i < m.rules = omega (arith, w.rules) in
                let asked : AsksLeft (m.rule i).kind (m.rule i).limit (count j.steps (j.rule i).scope) (figure_of (m.rule i).kind j.steps (j.rule i).scope (seen i l π))
                = rw (size_left_lem i l, figure_left_lem i l π within) (v.eligible i l) in
                record {
                  least = omega (arith, w.least i l, figures_least j.steps (j.rule i).scope (seen i l π) (m.rule i).limit (m.rule i).kind asked);
                  most = omega (arith, w.most i l, figures_most j.steps (j.rule i).scope (seen i l π) (m.rule i).limit (m.rule i).kind asked);
                  load = omega (arith, w.load i l, figures_load j.steps (j.rule i).scope (seen i l π) (m.rule i).limit (m.rule i).kind asked);
                };
          }

      back : Valid j (may_left at may) (plan_left at π) → ValidLeft m may π
      back v =
          let within : (k : ℕ) → k < j.steps → π (at k) < m.people = λ k l. omega (arith, v.within k l, w.people) in
          record {
            within = λ s l h. let k = w.every s l h in subst (λ (t : ℕ). π t < m.people) k.2 (within k.0 k.1);
            authorised = λ s l h. let k = w.every s l h in subst (λ (t : ℕ). may t (π t) ≡ true) k.2 (v.authorised k.0 k.1);
            eligible = λ i l.
                let met = v.eligible i (omega (arith, w.rules)) in
                rw (sym (size_left_lem i l), sym (figure_left_lem i l π within))
                (figures_ask j.steps (j.rule i).scope (seen i l π) (m.rule i).limit (m.rule i).kind
                (omega (arith, w.least i l, met.least)) (omega (arith, w.most i l, met.most)) (omega (arith, w.load i l, met.load)));
          }

  -- a plan of the remaining steps, as one of all steps
  pub spread : Plan → Plan
  spread σ s = σ (first j.steps (λ k. eqb (at k) s))

  pub spread_at : (σ : Plan) → Agree j.steps σ (plan_left at (spread σ))
  unfolding spread
  spread_at σ k l =
      let f : ℕ = first j.steps (λ i. eqb (at i) (at k)) in
      let b : f ≤ k
      = by_cases (ltb k f) (λ t. true-false (eq-eqb (at k) (at k) refl) (first_none j.steps (λ i. eqb (at i) (at k)) k (ltb-true k f t))) (λ t. ltb-false k f t)
      in
      let z : f < j.steps = omega arith in
      ap σ (sym (at_once f k z l (eqb-true _ _ (first_has j.steps (λ i. eqb (at i) (at k)) z))))

  pub spread_valid : (may : May) (σ : Plan) → Valid j (may_left at may) σ → ValidLeft m may (spread σ)
  spread_valid may σ v = (valid_left may (spread σ)).1 (valid_agree j (may_left at may) σ (plan_left at (spread σ)) (spread_at σ) v)

  pub satisfiable_left : (may : May) → SatisfiableLeft m may ↔ Satisfiable j (may_left at may)
  satisfiable_left may = (λ v. (plan_left at v.0, (valid_left may v.0).0 v.1), λ v. (spread v.0, spread_valid may v.0 v.1))

  -- "in the same order"
  pub earlier_left : (σ π : Plan) → EarlierLeft m σ π ↔ Earlier j.steps (plan_left at σ) (plan_left at π)
  earlier_left σ π = (
    λ e.
        let k = w.every e.at e.below e.remains in
        record {
          at = k.0;
          below = k.1;
          less = subst (λ (s : ℕ). σ s < π s) (sym k.2) e.less;
          before = λ t l.
              let b : t < j.steps = omega (arith, k.1) in
              e.before (at t) (omega (arith, w.ordered t k.0 l k.1, k.2)) (w.remains t b);
        },
    λ e.
        record {
          at = at e.at;
          below = w.below e.at e.below;
          remains = w.remains e.at e.below;
          less = e.less;
          before = λ t l h.
              let k = w.every t (omega (arith, w.below e.at e.below)) h in
              subst (λ (s : ℕ). σ s ≡ π s) k.2 (e.before k.0 (at_less k.0 e.at k.1 e.below (omega (arith, k.2))));
        },
  )

  pub first_left : (may : May) (π : Plan) → FirstValidLeft m may π ↔ FirstValid j (may_left at may) (plan_left at π)
  first_left may π = (
    λ f.
        record {
          valid = (valid_left may π).0 f.valid;
          first = λ σ v e.
              f.first (spread σ) (spread_valid may σ v)
              ((earlier_left (spread σ) π).1 (earlier_agree j.steps σ (plan_left at (spread σ)) (plan_left at π) (spread_at σ) e));
        },
    λ f.
        record {
          valid = (valid_left may π).1 f.valid;
          first = λ σ v e. f.first (plan_left at σ) ((valid_left may σ).0 v) ((earlier_left σ π).0 e);
        },
  )

  -- the first plan of the remaining steps, as one of all steps
  pub first_spread : (may : May) (σ : Plan) → FirstValid j (may_left at may) σ → FirstValidLeft m may (spread σ)
  first_spread may σ f =
      (first_left may (spread σ)).1
      (record {
        valid = valid_agree j (may_left at may) σ (plan_left at (spread σ)) (spread_at σ) f.valid;
        first = λ τ v e. f.first τ v (earlier_agree_second j.steps τ (plan_left at (spread σ)) σ (λ k l. sym (spread_at σ k l)) e);
      })

-- where no step is skipped a valid plan is what it was
module _ (m : MarkedJob) (none : (s : ℕ) → s < m.steps → m.skipped s ≡ false)
    (fits : (i : ℕ) → i < m.rules → Fits (m.rule i).kind (m.rule i).limit (count m.steps (m.rule i).scope)) (may : May) (π : Plan) where
  scope_whole : (i s : ℕ) → s < m.steps → scope_left m (m.rule i) s ≡ (m.rule i).scope s
  scope_whole i s l = bool_ext _ _ (λ h. and_left ((m.rule i).scope s) _ h) (λ h. and_of ((m.rule i).scope s) _ h (not_skipped _ (none s l)))

  size_whole : (i : ℕ) → size_left m (m.rule i) ≡ count m.steps (m.rule i).scope
  size_whole i = count_cong m.steps _ _ (scope_whole i)

  figure_whole : (i : ℕ) → figure_left m (m.rule i) π ≡ figure_of (m.rule i).kind m.steps (m.rule i).scope (λ s. m.class (m.rule i).level (π s))
  figure_whole i =
      let c : ℕ → ℕ = λ s. m.class (m.rule i).level (π s) in
      let counted : distinct m.steps (scope_left m (m.rule i)) c ≡ distinct m.steps (m.rule i).scope c
      = omega (
        arith,
        distinct_scope_mono m.steps c (scope_left m (m.rule i)) (m.rule i).scope (λ s l h. sym (scope_whole i s l) ∙ h),
        distinct_scope_mono m.steps c (m.rule i).scope (scope_left m (m.rule i)) (λ s l h. scope_whole i s l ∙ h),
      )
      in
      let loaded : largest_load m.steps (scope_left m (m.rule i)) c ≡ largest_load m.steps (m.rule i).scope c
      = omega (
        arith,
        load_scope_mono m.steps c (scope_left m (m.rule i)) (m.rule i).scope (λ s l h. sym (scope_whole i s l) ∙ h),
        load_scope_mono m.steps c (m.rule i).scope (scope_left m (m.rule i)) (λ s l h. scope_whole i s l ∙ h),
      )
      in
      rw (counted, loaded) refl

  asks_same : (i : ℕ) → i < m.rules
      → AsksLeft (m.rule i).kind (m.rule i).limit (size_left m (m.rule i)) (figure_left m (m.rule i) π)
      ↔ Asks (m.rule i).kind (m.rule i).limit (figure_of (m.rule i).kind m.steps (m.rule i).scope (λ s. m.class (m.rule i).level (π s)))
  asks_same i l = rw (size_whole i, figure_whole i) (asks_whole (m.rule i).kind (m.rule i).limit _ _ (fits i l))

  pub valid_whole : ValidLeft m may π ↔ ValidWhole m may π
  valid_whole = (
    λ v.
        record {
          within = λ s l. v.within s l (none s l);
          authorised = λ s l. v.authorised s l (none s l);
          eligible = λ i l. (asks_same i l).0 (v.eligible i l);
        },
    λ v.
        record {
          within = λ s l h. v.within s l;
          authorised = λ s l h. v.authorised s l;
          eligible = λ i l. (asks_same i l).1 (v.eligible i l);
        },
  )
