-- Lemma 3.9 with groups by name and classes by number, over any edges that say which class of the next level a group can go to. Assumes nothing.
use mathlib.Core.Bool.{Bool, true}
use mathlib.Core.Logic.{◌↔◌}
use mathlib.Core.Path.{◌≡◌, refl, sym, ◌∙◌}
use Prim.Native.Nat.{ℕ, zero, suc, ◌≤◌, ◌<◌}
use native.Mathlib.Omega.{arith}
use borrow.Author.Tests.{eqb-true, eq-eqb}
use Rattle.workflow.specs.Problem.{Job, May, Plan}
use Rattle.pattern.specs.Pattern.{Label, Labelled, Consistent, Pattern, Refining}
use Rattle.pattern.specs.Realize.{Realizes, Realized, Staffed, fibre, groups, Whole, Hosts, Matching, group_of, class_of, RealizedAt, HostsAt}
use Rattle.pattern.proofs.Sets.{fibre_of, fibre_in, fibre_at, groups_in_lem, groups_own}
use Rattle.pattern.proofs.Realize.{realizes_mono, realized_mono, realized_last, realizes_glue}
use Rattle.pattern.proofs.Matching.{matching_map, realized_match, match_realized}

module _ (j : Job) (placed : ℕ → Bool) (label : Label) where
  pub group_placed : (q g s : ℕ) → group_of placed label q g s ≡ true → placed s ≡ true
  unfolding group_of
  group_placed zero g s h = h
  group_placed (suc q) g s h = fibre_in placed (label (suc q)) g s h

  pub group_consistent : (q g : ℕ) → Pattern j.steps j.levels placed label → Consistent j.steps j.levels (group_of placed label q g) label
  group_consistent q g p =
      record { finer = λ r s t a b l m h k e. p.consistent.finer r s t a b l m (group_placed q g s h) (group_placed q g t k) e }

  -- a group holds the groups of the next level whole
  pub group_labelled : (q g : ℕ) → q < j.levels → Pattern j.steps j.levels placed label → Labelled j.steps (group_of placed label q g) (label (suc q))
  unfolding group_of
  group_labelled zero g d p = p.labelled 1 (omega arith) d
  group_labelled (suc q) g d p =
      let w : Labelled j.steps placed (label (suc (suc q))) = p.labelled (suc (suc q)) (omega arith) d in
      record {
        below = λ s l h. w.below s l (fibre_in placed (label (suc q)) g s h);
        among = λ s l h.
            let i = fibre_in placed (label (suc q)) g s h in
            fibre_of placed (label (suc q)) g _ (w.among s l i)
            (p.consistent.finer (suc q) _ s (omega arith) d (w.below s l i) l (w.among s l i) i (w.own s l i) ∙ fibre_at placed (label (suc q)) g s h);
        own = λ s l h. w.own s l (fibre_in placed (label (suc q)) g s h);
      }

  -- and such a group is the same within it
  pub group_next : (q g h : ℕ) → q < j.levels → Pattern j.steps j.levels placed label → h < j.steps
      → groups (group_of placed label q g) (label (suc q)) h ≡ true → (s : ℕ) → s < j.steps
      → fibre (group_of placed label q g) (label (suc q)) h s ≡ true ↔ group_of placed label (suc q) h s ≡ true
  unfolding group_of
  group_next zero g h d p b i s l = (λ x. x, λ x. x)
  group_next (suc q) g h d p b i s l = (
    λ x. fibre_of placed (label (suc (suc q))) h s
        (fibre_in placed (label (suc q)) g s (fibre_in (fibre placed (label (suc q)) g) (label (suc (suc q))) h s x))
        (fibre_at (fibre placed (label (suc q)) g) (label (suc (suc q))) h s x),
    λ x.
        let w = groups_in_lem (fibre placed (label (suc q)) g) (label (suc (suc q))) h i in
        let o = groups_own (fibre placed (label (suc q)) g) (label (suc (suc q))) h i in
        let y = fibre_in placed (label (suc (suc q))) h s x in
        let z = fibre_at placed (label (suc (suc q))) h s x in
        fibre_of (fibre placed (label (suc q)) g) (label (suc (suc q))) h s
        (fibre_of placed (label (suc q)) g s y
        (p.consistent.finer (suc q) s h (omega arith) d l b y (fibre_in placed (label (suc q)) g h w) (z ∙ sym o)
        ∙ fibre_at placed (label (suc q)) g h w))
        z,
  )

module _ (j : Job) (refining : Refining j) where
  -- a class holds the classes of the next level whole
  pub class_whole : (q u : ℕ) → q < j.levels → Whole j (suc q) (class_of j q u)
  unfolding class_of
  class_whole zero u d = record { classmate = λ p p' l l' e h. refl }
  class_whole (suc q) u d =
      record {
        classmate = λ p p' l l' e h. eq-eqb _ _ (sym (refining.finer (suc q) p p' (omega arith) d l l' e) ∙ eqb-true _ _ h);
      }

  -- and such a class is the same within it, where it has somebody there
  pub class_in_lem : (q u v p : ℕ) → fibre (class_of j q u) (j.class (suc q)) v p ≡ true → class_of j (suc q) v p ≡ true
  unfolding class_of
  class_in_lem q u v p x = eq-eqb (j.class (suc q) p) v (fibre_at (class_of j q u) (j.class (suc q)) v p x)

  pub class_of_lem : (q u v : ℕ) → q < j.levels → (p' : ℕ) → p' < j.people → class_of j q u p' ≡ true → j.class (suc q) p' ≡ v → (p : ℕ) → p < j.people
      → class_of j (suc q) v p ≡ true → fibre (class_of j q u) (j.class (suc q)) v p ≡ true
  unfolding class_of
  class_of_lem q u v d p' b i is p l x =
      let e : j.class (suc q) p ≡ v = eqb-true _ _ x in
      fibre_of (class_of j q u) (j.class (suc q)) v p ((class_whole q u d).classmate p' p b l (is ∙ sym e) i) e

module _ (j : Job) (may : May) (placed : ℕ → Bool) (label : Label) (refining : Refining j) (pattern : Pattern j.steps j.levels placed label) where
  -- the edges by sets and by numbers
  pub hosts_at : (q g u h v : ℕ) → q < j.levels → h < j.steps → groups (group_of placed label q g) (label (suc q)) h ≡ true
      → Hosts j may label q (group_of placed label q g) (class_of j q u) h v ↔ HostsAt j may placed label q u h v
  hosts_at q g u h v d b i = (
    λ x.
        let S = group_of placed label q g in
        let mine = fibre_of S (label (suc q)) h h (groups_in_lem S (label (suc q)) h i) (groups_own S (label (suc q)) h i) in
        let w = x.1.inside h b mine in
        record {
          person = x.0 h;
          below = x.1.within h b mine;
          inside = fibre_in (class_of j q u) (j.class (suc q)) v (x.0 h) w;
          class = fibre_at (class_of j q u) (j.class (suc q)) v (x.0 h) w;
          realized = realized_mono j may label label (suc q) _ _ _ _
              (λ s l. (group_next j placed label q g h d pattern b i s l).1)
              (λ p l. class_in_lem j refining q u v p) (λ r s a b l i. refl) x;
        },
    λ x.
        realized_mono j may label label (suc q) _ _ _ _
        (λ s l. (group_next j placed label q g h d pattern b i s l).0)
        (λ p l. class_of_lem j refining q u v d x.person x.below x.inside x.class p l) (λ r s a b l i. refl) x.realized,
  )

  -- group g of level q can go to class u exactly where its groups can be matched with classes inside it
  pub realized_step : (q g u : ℕ) → q < j.levels
      → RealizedAt j may placed label q g u
      ↔ ((f : ℕ → ℕ) × Matching j.steps (groups (group_of placed label q g) (label (suc q))) (HostsAt j may placed label q u) f)
  realized_step q g u d = (
    λ w.
        let m = realized_match j may label q d _ _ w in
        (m.0, matching_map j.steps _ _ _ m.0 (λ h v b i. (hosts_at q g u h v d b i).0) m.1),
    λ m.
        match_realized j may label q d _ _ refining (group_consistent j placed label q g pattern) (group_labelled j placed label q g d pattern) m.0
        (matching_map j.steps _ _ _ m.0 (λ h v b i. (hosts_at q g u h v d b i).1) m.1),
  )

  -- a plan that takes each group inside g to a class of its own inside class u takes g to class u
  pub realizes_step : (q g u : ℕ) → q < j.levels → (f : ℕ → ℕ) (π : Plan)
      → ((h h' : ℕ) → h < j.steps → h' < j.steps → groups (group_of placed label q g) (label (suc q)) h ≡ true
      → groups (group_of placed label q g) (label (suc q)) h' ≡ true → f h ≡ f h' → h ≡ h')
      → ((h : ℕ) → h < j.steps → groups (group_of placed label q g) (label (suc q)) h ≡ true
      → ((p : ℕ) × (p < j.people) × (class_of j q u p ≡ true) × (j.class (suc q) p ≡ f h))
      × Realizes j may label (suc q) (group_of placed label (suc q) h) (class_of j (suc q) (f h)) π)
      → Realizes j may label q (group_of placed label q g) (class_of j q u) π
  realizes_step q g u d f π differ sends =
      realizes_glue j may label q d _ _ f refining (group_consistent j placed label q g pattern) (group_labelled j placed label q g d pattern) differ π
      (λ h b i. let w = sends h b i in
      realizes_mono j may label label (suc q) _ _ _ _ π
      (λ s l. (group_next j placed label q g h d pattern b i s l).0)
      (λ p l. class_of_lem j refining q u (f h) d w.0.0 w.0.1 w.0.2 w.0.3 p l) (λ r s a b l i. refl) w.1)

  -- the matching may go along any edges that decide which class hosts a group
  pub realized_edges : (q g u : ℕ) → q < j.levels → (Edge : ℕ → ℕ → Type 0)
      → ((h v : ℕ) → h < j.steps → groups (group_of placed label q g) (label (suc q)) h ≡ true → Edge h v ↔ HostsAt j may placed label q u h v)
      → RealizedAt j may placed label q g u
      ↔ ((f : ℕ → ℕ) × Matching j.steps (groups (group_of placed label q g) (label (suc q))) Edge f)
  realized_edges q g u d Edge e = (
    λ w. let m = (realized_step q g u d).0 w in (m.0, matching_map j.steps _ _ _ m.0 (λ h v b i. (e h v b i).1) m.1),
    λ m. (realized_step q g u d).1 (m.0, matching_map j.steps _ _ _ m.0 (λ h v b i. (e h v b i).0) m.1),
  )

-- with no level left, each step of the group asks for somebody in the class
pub realized_at_last : (j : Job) (may : May) (placed : ℕ → Bool) (label : Label) (q g u : ℕ) → j.levels ≤ q
    → RealizedAt j may placed label q g u ↔ Staffed j may (group_of placed label q g) (class_of j q u)
realized_at_last j may placed label q g u d = realized_last j may label q d (group_of placed label q g) (class_of j q u)

-- level 0 has one group and one class
pub realized_top : (j : Job) (may : May) (placed : ℕ → Bool) (label : Label) (g u : ℕ)
    → RealizedAt j may placed label 0 g u ↔ Realized j may label 0 placed (λ p. true)
unfolding group_of class_of
realized_top j may placed label g u = (λ w. w, λ w. w)
