-- Realizing a set of steps: what it depends on, what it asks with no level left, and how the plans of groups make one. Assumes nothing.
use mathlib.Core.Bool.{Bool, true}
use mathlib.Core.Logic.{◌↔◌}
use mathlib.Core.Path.{◌≡◌, refl, sym, subst, ap, ◌∙◌}
use Prim.Native.Nat.{ℕ, suc, ◌≤◌, ◌<◌}
use native.Mathlib.Omega.{arith}
use lib.Dec.{eqb}
use borrow.Author.Tests.{eqb-true, eqb-false}
use Rattle.bits.proofs.Below.{by_cases}
use Rattle.workflow.specs.Problem.{Job, May, Plan}
use Rattle.workflow.specs.Independent.{Alike, classes_of}
use Rattle.pattern.specs.Pattern.{Label, Labelled, Consistent, Refining}
use Rattle.pattern.specs.Realize.{Realizes, Realized, Staffed, fibre, groups}
use Rattle.pattern.proofs.Levels.{refining_up, consistent_up}
use Rattle.pattern.proofs.Sets.{fibre_of, fibre_in, fibre_at, groups_of, alike_part, alike_cong, alike_trans, choice}

-- fewer steps, more people, the same labels
pub realizes_mono : (j : Job) (may : May) (label label' : Label) (q : ℕ) (S S' C C' : ℕ → Bool) (π : Plan)
    → ((s : ℕ) → s < j.steps → S' s ≡ true → S s ≡ true)
    → ((p : ℕ) → p < j.people → C p ≡ true → C' p ≡ true)
    → ((r s : ℕ) → q < r → r ≤ j.levels → s < j.steps → S' s ≡ true → label r s ≡ label' r s)
    → Realizes j may label q S C π → Realizes j may label' q S' C' π
realizes_mono j may label label' q S S' C C' π less more same w =
    record {
      within = λ s l h. w.within s l (less s l h);
      inside = λ s l h. more (π s) (w.within s l (less s l h)) (w.inside s l (less s l h));
      authorised = λ s l h. w.authorised s l (less s l h);
      alike = λ r a b.
          alike_trans j.steps S' (classes_of j r π) (label r) (label' r)
          (alike_part j.steps S' S (classes_of j r π) (label r) less (w.alike r a b))
          (alike_cong j.steps S' (label r) (label' r) (λ s l h. same r s a b l h));
    }

pub realized_mono : (j : Job) (may : May) (label label' : Label) (q : ℕ) (S S' C C' : ℕ → Bool)
    → ((s : ℕ) → s < j.steps → S' s ≡ true → S s ≡ true)
    → ((p : ℕ) → p < j.people → C p ≡ true → C' p ≡ true)
    → ((r s : ℕ) → q < r → r ≤ j.levels → s < j.steps → S' s ≡ true → label r s ≡ label' r s)
    → Realized j may label q S C → Realized j may label' q S' C'
realized_mono j may label label' q S S' C C' less more same w =
    (w.0, realizes_mono j may label label' q S S' C C' w.0 less more same w.1)

-- only the people of the steps of S count
pub realizes_agree : (j : Job) (may : May) (label : Label) (q : ℕ) (S C : ℕ → Bool) (π σ : Plan)
    → ((s : ℕ) → s < j.steps → S s ≡ true → π s ≡ σ s) → Realizes j may label q S C π → Realizes j may label q S C σ
realizes_agree j may label q S C π σ e w =
    record {
      within = λ s l h. subst (λ (p : ℕ). p < j.people) (e s l h) (w.within s l h);
      inside = λ s l h. subst (λ (p : ℕ). C p ≡ true) (e s l h) (w.inside s l h);
      authorised = λ s l h. subst (λ (p : ℕ). may s p ≡ true) (e s l h) (w.authorised s l h);
      alike = λ r a b.
          alike_trans j.steps S (classes_of j r σ) (classes_of j r π) (label r)
          (alike_cong j.steps S (classes_of j r σ) (classes_of j r π) (λ s l h. ap (j.class r) (sym (e s l h)))) (w.alike r a b);
    }

module _ (j : Job) (may : May) (label : Label) (q : ℕ) (last : j.levels ≤ q) (S C : ℕ → Bool) where
  -- with no level left, a plan need only give each step somebody
  pub realizes_last : (π : Plan) → ((s : ℕ) → s < j.steps → S s ≡ true → (π s < j.people) × (C (π s) ≡ true) × (may s (π s) ≡ true))
      → Realizes j may label q S C π
  realizes_last π w =
      record {
        within = λ s l h. (w s l h).0;
        inside = λ s l h. (w s l h).1;
        authorised = λ s l h. (w s l h).2;
        alike = λ r a b. absurd (omega arith);
      }

  -- so each step asks for somebody, whoever does the others
  pub realized_last : Realized j may label q S C ↔ Staffed j may S C
  realized_last = (
    λ w s l h. (w.0 s, w.1.within s l h, w.1.inside s l h, w.1.authorised s l h),
    λ st.
        let w = choice j.steps S (λ (s p : ℕ). (p < j.people) × (C p ≡ true) × (may s p ≡ true)) 0
        (λ s l h. let x = st s l h in (x.0, (x.1, x.2, x.3)))
        in
        (w.0, realizes_last w.0 w.1),
  )

module _ (j : Job) (may : May) (label : Label) (q : ℕ) (deep : q < j.levels) (S C : ℕ → Bool) (f : ℕ → ℕ)
    (refining : Refining j) (consistent : Consistent j.steps j.levels S label) (lab : Labelled j.steps S (label (suc q)))
    (differ : (g h : ℕ) → g < j.steps → h < j.steps → groups S (label (suc q)) g ≡ true → groups S (label (suc q)) h ≡ true
    → f g ≡ f h → g ≡ h) where
  -- a plan that takes each group g of S to class f g, different groups to different classes, realizes S
  pub realizes_glue : (π : Plan)
      → ((g : ℕ) → g < j.steps → groups S (label (suc q)) g ≡ true
      → Realizes j may label (suc q) (fibre S (label (suc q)) g) (fibre C (j.class (suc q)) (f g)) π)
      → Realizes j may label q S C π
  realizes_glue π sends =
      record {
        within = within;
        inside = λ s l h. fibre_in C k (f (c s)) (π s) ((of s l h).inside s l (mine s h));
        authorised = λ s l h. (of s l h).authorised s l (mine s h);
        alike = λ r a b. record { forth = forth r a b; back = back r a b };
      }
    where
      c : ℕ → ℕ
      c = label (suc q)

      k : ℕ → ℕ
      k = j.class (suc q)

      group : (s : ℕ) → s < j.steps → S s ≡ true → groups S c (c s) ≡ true
      group s l h = groups_of S c (c s) (lab.among s l h) (lab.own s l h)

      of : (s : ℕ) → s < j.steps → S s ≡ true → Realizes j may label (suc q) (fibre S c (c s)) (fibre C k (f (c s))) π
      of s l h = sends (c s) (lab.below s l h) (group s l h)

      mine : (s : ℕ) → S s ≡ true → fibre S c (c s) s ≡ true
      mine s h = fibre_of S c (c s) s h refl

      within : (s : ℕ) → s < j.steps → S s ≡ true → π s < j.people
      within s l h = (of s l h).within s l (mine s h)

      -- the class of a step is that of its group
      sent : (s : ℕ) → s < j.steps → S s ≡ true → k (π s) ≡ f (c s)
      sent s l h = fibre_at C k (f (c s)) (π s) ((of s l h).inside s l (mine s h))

      -- steps of one class are of one group
      one_group : (s t : ℕ) → s < j.steps → t < j.steps → S s ≡ true → S t ≡ true → k (π s) ≡ k (π t) → c s ≡ c t
      one_group s t l m h i e =
          differ (c s) (c t) (lab.below s l h) (lab.below t m i) (group s l h) (group t m i) (sym (sent s l h) ∙ e ∙ sent t m i)

      -- levels below that of the groups are settled within a group
      inner : (r : ℕ) → suc q < r → r ≤ j.levels → (s : ℕ) → s < j.steps → S s ≡ true → Alike j.steps (fibre S c (c s)) (classes_of j r π) (label r)
      inner r a b s l h = (of s l h).alike r a b

      forth : (r : ℕ) → q < r → r ≤ j.levels → (s t : ℕ) → s < j.steps → t < j.steps → S s ≡ true → S t ≡ true
          → classes_of j r π s ≡ classes_of j r π t → label r s ≡ label r t
      forth r a b s t l m h i e =
          let one : c s ≡ c t
          = one_group s t l m h i (refining_up j refining (suc q) r (omega arith) a b (π s) (π t) (within s l h) (within t m i) e)
          in
          by_cases (eqb r (suc q))
          (λ x. subst (λ (y : ℕ). label y s ≡ label y t) (sym (eqb-true r (suc q) x)) one)
          (λ x. let d : r ≡ suc q → ⊥ = eqb-false r (suc q) x in
          (inner r (omega arith) b s l h).forth s t l m (mine s h) (fibre_of S c (c s) t i (sym one)) e)

      back : (r : ℕ) → q < r → r ≤ j.levels → (s t : ℕ) → s < j.steps → t < j.steps → S s ≡ true → S t ≡ true
          → label r s ≡ label r t → classes_of j r π s ≡ classes_of j r π t
      back r a b s t l m h i e =
          let one : c s ≡ c t = consistent_up j.steps j.levels S label consistent (suc q) r (omega arith) a b s t l m h i e in
          by_cases (eqb r (suc q))
          (λ x. subst (λ (y : ℕ). classes_of j y π s ≡ classes_of j y π t) (sym (eqb-true r (suc q) x))
          (sent s l h ∙ ap f one ∙ sym (sent t m i)))
          (λ x. let d : r ≡ suc q → ⊥ = eqb-false r (suc q) x in
          (inner r (omega arith) b s l h).back s t l m (mine s h) (fibre_of S c (c s) t i (sym one)) e)

  -- plans for the groups, one each, make such a plan: each step goes where the plan of its group sends it
  pub realized-glue
      : ((g : ℕ) → g < j.steps → groups S (label (suc q)) g ≡ true
      → Realized j may label (suc q) (fibre S (label (suc q)) g) (fibre C (j.class (suc q)) (f g)))
      → Realized j may label q S C
  realized-glue plans =
      let w = choice j.steps (groups S c) Sends (λ s. 0) plans in (
        λ s. w.0 (c s) s,
        realizes_glue (λ s. w.0 (c s) s)
            (λ g l h. realizes_agree j may label (suc q) (fibre S c g) _ (w.0 g) (λ s. w.0 (c s) s)
            (λ s m i. ap (λ (x : ℕ). w.0 x s) (sym (fibre_at S c g s i))) (w.1 g l h)),
      )
    where
      c : ℕ → ℕ
      c = label (suc q)

      Sends : ℕ → Plan → Type 0
      Sends g σ = Realizes j may label (suc q) (fibre S c g) (fibre C (j.class (suc q)) (f g)) σ
