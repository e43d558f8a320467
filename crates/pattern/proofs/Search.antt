-- The laws of the search: where it begins, how it branches, when it may stop, and when it has found a plan. Assumes nothing.
use mathlib.Core.Bool.{Bool, true, false, not}
use mathlib.Core.Logic.{◌↔◌}
use mathlib.Core.Path.{◌≡◌, refl, sym, subst}
use Prim.Native.Nat.{ℕ, ◌≤◌, ◌<◌}
use borrow.Author.Tests.{not-true}
use Rattle.bits.proofs.Below.{by_cases, true-false}
use Rattle.workflow.specs.Problem.{Job, May, Plan, InBounds, Valid, Satisfiable}
use Rattle.pattern.specs.Pattern.{Label, Pattern, Refining, Has}
use Rattle.pattern.specs.Place.{with_step, grown, Way}
use Rattle.pattern.specs.Eligible.{group_count, group_load, Possible, AllNamed}
use Rattle.pattern.specs.Realize.{Realizes, Realized}
use Rattle.pattern.specs.Search.{Searchable, Exists, Complete, completed}
use Rattle.pattern.proofs.Sets.{choice}
use Rattle.pattern.proofs.Patterns.{has_cong, has_agree, nothing_has}
use Rattle.pattern.proofs.Ways.{grown_before, way_exists}
use Rattle.pattern.proofs.Eligible.{met_possible, met_exact}

module _ (j : Job) (may : May) (placed : ℕ → Bool) (label : Label) where
  -- nothing placed: any valid plan will do
  pub exists_nothing : ((s : ℕ) → s < j.steps → placed s ≡ false) → Exists j may placed label ↔ Satisfiable j may
  exists_nothing h = (
    λ e. (e.plan, e.valid),
    λ w. record { plan = w.0; valid = w.1; has = nothing_has j placed label w.0 h },
  )

  -- only the labels of the placed steps at the job's levels count
  pub exists_cong : (label' : Label) → ((q s : ℕ) → 1 ≤ q → q ≤ j.levels → s < j.steps → placed s ≡ true → label q s ≡ label' q s)
      → Exists j may placed label → Exists j may placed label'
  exists_cong label' h e = record { plan = e.plan; valid = e.valid; has = has_cong j placed label label' e.plan h e.has }

  -- the placed part of a valid plan is realized
  pub exists_realized : Exists j may placed label → Realized j may label 0 placed (λ p. true)
  exists_realized e = (
    e.plan,
    record {
      within = λ s l h. e.valid.within s l;
      inside = λ s l h. refl;
      authorised = λ s l h. e.valid.authorised s l;
      alike = e.has.alike;
    },
  )

  -- and each rule is possible on it
  pub exists_possible : Searchable j → Exists j may placed label → (i : ℕ) → i < j.rules → Possible j.steps placed label (j.rule i)
  exists_possible ok e i l = met_possible j placed label e.plan e.has (j.rule i) (ok.rule_ok i l) (e.valid.eligible i l)

module _ (j : Job) (may : May) (placed : ℕ → Bool) (label : Label) (pattern : Pattern j.steps j.levels placed label)
    (s : ℕ) (below : s < j.steps) (unplaced : placed s ≡ false) where
  -- a plan with a grown pattern is one with the pattern
  pub grown_exists : (t d : ℕ) → Exists j may (with_step placed s) (grown label s t d) → Exists j may placed label
  grown_exists t d e =
      record {
        plan = e.plan;
        valid = e.valid;
        has = grown_before j placed label pattern s below unplaced e.plan t d e.has;
      }

  -- and one with the pattern is one with some grown pattern: a group of some level, named by its label, is joined, or none
  pub exists_grown : Refining j → Exists j may placed label
      → (t : ℕ) × (d : ℕ) × Way j.steps j.levels placed t d × (1 ≤ d → label d t ≡ t) × Exists j may (with_step placed s) (grown label s t d)
  exists_grown refining e =
      let w = way_exists j placed label pattern s below unplaced e.plan refining e.valid.within e.has in
      (w.0, w.1, w.2, w.3, record { plan = e.plan; valid = e.valid; has = w.4 })

module _ (placed : ℕ → Bool) (π σ : Plan) (s : ℕ) where
  pub completed_placed : placed s ≡ true → completed placed π σ s ≡ π s
  unfolding completed
  completed_placed h = rw h refl

  pub completed_other : placed s ≡ false → completed placed π σ s ≡ σ s
  unfolding completed
  completed_other h = rw h refl

module _ (j : Job) (may : May) (placed : ℕ → Bool) (label : Label) (ok : Searchable j) (named : AllNamed j placed) where
  scope_placed : (i : ℕ) → i < j.rules → (s : ℕ) → s < j.steps → (j.rule i).scope s ≡ true → placed s ≡ true
  scope_placed i l s m h = by_cases (placed s) (λ t. t) (λ t. true-false h (named i s l m t))

  -- the plan found: that of the placed steps, and anybody permitted for the others
  pub completed_exists : (π σ : Plan) → Realizes j may label 0 placed (λ p. true) π
      → ((i : ℕ) → i < j.rules → InBounds (j.rule i) (group_count j.steps placed label (j.rule i)) (group_load j.steps placed label (j.rule i)))
      → ((s : ℕ) → s < j.steps → placed s ≡ false → (σ s < j.people) × (may s (σ s) ≡ true))
      → Valid j may (completed placed π σ) × Has j placed label (completed placed π σ)
  completed_exists π σ r exact others = (
    record {
      within = λ s l. either s (λ (p : ℕ). p < j.people) (λ h. r.within s l h) (λ h. (others s l h).0);
      authorised = λ s l. either s (λ (p : ℕ). may s p ≡ true) (λ h. r.authorised s l h) (λ h. (others s l h).1);
      eligible = λ i l. (met_exact j placed label _ has (j.rule i) (ok.rule_ok i l) (scope_placed i l)).1 (exact i l);
    },
    has,
  )
    where
      either : (s : ℕ) (P : ℕ → Type 0) → (placed s ≡ true → P (π s)) → (placed s ≡ false → P (σ s)) → P (completed placed π σ s)
      either s P a b =
          by_cases (placed s)
          (λ h. subst P (sym (completed_placed placed π σ s h)) (a h))
          (λ h. subst P (sym (completed_other placed π σ s h)) (b h))

      has : Has j placed label (completed placed π σ)
      has =
          has_agree j placed label π (completed placed π σ) (λ s l h. sym (completed_placed placed π σ s h))
          (record { alike = r.alike })

  -- once every step that a rule names is placed, the tests on the pattern decide
  pub exists_complete : Exists j may placed label ↔ Complete j may placed label
  exists_complete = (
    λ e. record {
      eligible = λ i l. (met_exact j placed label e.plan e.has (j.rule i) (ok.rule_ok i l) (scope_placed i l)).0 (e.valid.eligible i l);
      realized = exists_realized j may placed label e;
      others = λ s l h. (e.plan s, e.valid.within s l, e.valid.authorised s l);
    },
    λ c.
        let w = choice j.steps (λ s. not (placed s)) (λ (s p : ℕ). (p < j.people) × (may s p ≡ true)) 0
        (λ s l h. let x = c.others s l (not-true (placed s) h) in (x.0, (x.1, x.2)))
        in
        let v = completed_exists c.realized.0 w.0 c.realized.1 c.eligible (λ s l h. w.1 s l (rw h refl)) in
        record { plan = completed placed c.realized.0 w.0; valid = v.0; has = v.1 },
  )
