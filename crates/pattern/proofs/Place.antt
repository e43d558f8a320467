-- A grown pattern is a pattern; a plan has it for exactly one way to place the step. Assumes nothing.
use mathlib.Core.Bool.{Bool, true, false}
use mathlib.Core.Logic.{◌↔◌}
use mathlib.Core.Path.{◌≡◌, refl, sym, subst, ap, ◌∙◌}
use Prim.Native.Nat.{ℕ, suc, ◌≤◌, ◌<◌}
use native.Mathlib.Omega.{arith}
use lib.Dec.{eqb, leb}
use borrow.Author.Tests.{eqb-true, eq-eqb, eqb-false, ne_eqb, leb-true, le-leb, leb-false}
use Rattle.bits.proofs.Below.{by_cases, true-false}
use Rattle.workflow.specs.Independent.{Alike}
use Rattle.pattern.specs.Pattern.{Label, Labelled, Pattern}
use Rattle.pattern.specs.Place.{with_step, grown, Way}

module _ (S : ℕ → Bool) (s : ℕ) where
  pub with_own : with_step S s s ≡ true
  unfolding with_step
  with_own = by_cases (S s) (λ t. rw t refl) (λ t. rw t (eq-eqb s s refl))

  pub with_old : (u : ℕ) → S u ≡ true → with_step S s u ≡ true
  unfolding with_step
  with_old u h = rw h refl

  -- a step of the larger set is s or one of the old
  pub with_cases : {P : Type 0} (u : ℕ) → with_step S s u ≡ true → (u ≡ s → P) → ((u ≡ s → ⊥) → S u ≡ true → P) → P
  unfolding with_step
  with_cases u h new old =
      by_cases (eqb u s)
      (λ t. new (eqb-true u s t))
      (λ t. by_cases (S u) (λ i. old (eqb-false u s t) i) (λ i. true-false (rw i at h) t))

module _ (label : Label) (s t d q : ℕ) where
  pub grown_old : (u : ℕ) → (u ≡ s → ⊥) → grown label s t d q u ≡ label q u
  unfolding grown
  grown_old u h = rw (ne_eqb u s h) refl

  pub grown-joined : q ≤ d → grown label s t d q s ≡ label q t
  unfolding grown
  grown-joined h = rw (eq-eqb s s refl, le-leb q d h) refl

  pub grown_apart : d < q → grown label s t d q s ≡ s
  unfolding grown
  grown_apart h = rw (eq-eqb s s refl, leb-not h) refl
    where
      leb-not : d < q → leb q d ≡ false
      leb-not l = by_cases (leb q d) (λ x. absurd (omega (arith, leb-true q d x))) (λ x. x)

-- what agrees on S, and between s and S, agrees on both together
pub alike_with : (n : ℕ) (S : ℕ → Bool) (s : ℕ) (c d : ℕ → ℕ) → Alike n S c d
    → ((v : ℕ) → v < n → S v ≡ true → (c s ≡ c v) ↔ (d s ≡ d v)) → Alike n (with_step S s) c d
alike_with n S s c d a b =
    record {
      forth = λ u v l m h k. both c d u v l m h k (λ i i'. a.forth u v l m i i') (λ x y z. (b x y z).0);
      back = λ u v l m h k. both d c u v l m h k (λ i i'. a.back u v l m i i') (λ x y z. (b x y z).1);
    }
  where
    both : (c d : ℕ → ℕ) (u v : ℕ) → u < n → v < n → with_step S s u ≡ true → with_step S s v ≡ true
        → (S u ≡ true → S v ≡ true → c u ≡ c v → d u ≡ d v)
        → ((v : ℕ) → v < n → S v ≡ true → c s ≡ c v → d s ≡ d v) → c u ≡ c v → d u ≡ d v
    both c d u v l m h k old new e =
        with_cases S s u h
        (λ x. with_cases S s v k
        (λ y. ap d (x ∙ sym y))
        (λ y i. ap d x ∙ new v m i (sym (ap c x) ∙ e)))
        (λ x i. with_cases S s v k
        (λ y. sym (ap d y ∙ new u l i (sym (ap c y) ∙ sym e)))
        (λ y i'. old i i' e))

module _ (steps levels : ℕ) (placed : ℕ → Bool) (label : Label) (pattern : Pattern steps levels placed label)
    (s : ℕ) (below : s < steps) (unplaced : placed s ≡ false) where
  -- an old step is not s
  pub old_differs : (u : ℕ) → placed u ≡ true → u ≡ s → ⊥
  old_differs u h e = true-false h (subst (λ (x : ℕ). placed x ≡ false) (sym e) unplaced)

  module _ (t d : ℕ) where
    pub grown_placed : (q u : ℕ) → placed u ≡ true → grown label s t d q u ≡ label q u
    grown_placed q u h = grown_old label s t d q u (old_differs u h)

    -- s shares a label with an old step only by joining a group
    pub joins : (q v : ℕ) → 1 ≤ q → q ≤ levels → v < steps → placed v ≡ true → grown label s t d q s ≡ label q v → (q ≤ d) × (label q t ≡ label q v)
    joins q v a b l h e =
        by_cases (leb q d)
        (λ x. let m : q ≤ d = leb-true q d x in (m, sym (grown-joined label s t d q m) ∙ e))
        (λ x. let m : d < q = leb-false q d x in
        absurd (old_differs (label q v) ((pattern.labelled q a b).among v l h) (sym e ∙ grown_apart label s t d q m)))

    module _ (way : Way steps levels placed t d) where
      -- the label of a step of the grown pattern is that of an old step, or the step is s and apart
      grown_cases : {P : Type 0} (q u : ℕ) → 1 ≤ q → u < steps → with_step placed s u ≡ true
          → ((v : ℕ) → v < steps → placed v ≡ true → grown label s t d q u ≡ label q v → P)
          → (u ≡ s → grown label s t d q u ≡ s → P) → P
      grown_cases q u a l h old new =
          with_cases placed s u h
          (λ x. by_cases (leb q d)
          (λ y.
          let m : q ≤ d = leb-true q d y in
          let n : 1 ≤ d = omega arith in
          old t (way.below n) (way.among n) (ap (grown label s t d q) x ∙ grown-joined label s t d q m))
          (λ y.
          let m : d < q = leb-false q d y in
          new x (ap (grown label s t d q) x ∙ grown_apart label s t d q m)))
          (λ x i. old u l i (grown_old label s t d q u x))

      -- between s and an old step, sharing a label passes to the level above
      new_finer : (q v : ℕ) → 1 ≤ q → q < levels → v < steps → placed v ≡ true
          → grown label s t d (suc q) s ≡ grown label s t d (suc q) v → grown label s t d q s ≡ grown label s t d q v
      new_finer q v a b l h e =
          let w = joins (suc q) v (omega arith) b l h (e ∙ grown_placed (suc q) v h) in
          let n : 1 ≤ d = omega (arith, w.0) in
          grown-joined label s t d q (omega (arith, w.0))
          ∙ pattern.consistent.finer q t v a b (way.below n) l (way.among n) h w.1
          ∙ sym (grown_placed q v h)

      pub grown_pattern : Pattern steps levels (with_step placed s) (grown label s t d)
      grown_pattern =
          record {
            labelled = λ q a b.
                let w : Labelled steps placed (label q) = pattern.labelled q a b in
                record {
                  below = λ u l h. grown_cases q u a l h (λ v m i e. rw e (w.below v m i)) (λ x e. rw e below);
                  among = λ u l h. grown_cases q u a l h (λ v m i e. rw e (with_old placed s _ (w.among v m i))) (λ x e. rw e (with_own placed s));
                  own = λ u l h.
                      grown_cases q u a l h
                      (λ v m i e. rw e (grown_placed q _ (w.among v m i) ∙ w.own v m i))
                      (λ x e. ap (grown label s t d q) (e ∙ sym x));
                };
            consistent = record { finer = λ q u v a b l m h k e. finer q u v a b l m h k e };
          }
        where
          finer : (q u v : ℕ) → 1 ≤ q → q < levels → u < steps → v < steps → with_step placed s u ≡ true → with_step placed s v ≡ true
              → grown label s t d (suc q) u ≡ grown label s t d (suc q) v → grown label s t d q u ≡ grown label s t d q v
          finer q u v a b l m h k e =
              let f = grown label s t d in
              with_cases placed s u h
              (λ x. with_cases placed s v k
              (λ y. ap (f q) (x ∙ sym y))
              (λ y i. ap (f q) x ∙ new_finer q v a b m i (sym (ap (f (suc q)) x) ∙ e)))
              (λ x i. with_cases placed s v k
              (λ y. sym (ap (f q) y ∙ new_finer q u a b l i (sym (ap (f (suc q)) y) ∙ sym e)))
              (λ y i'.
              grown_placed q u i
              ∙ pattern.consistent.finer q u v a b l m i i' (sym (grown_placed (suc q) u i) ∙ e ∙ grown_placed (suc q) v i')
              ∙ sym (grown_placed q v i')))
