-- Placing a step: which member of a group it joins is of no account, and the groups that it does not join stay as they were. Assumes
-- nothing.
use mathlib.Core.Bool.{Bool, true, false}
use mathlib.Core.Logic.{◌↔◌}
use mathlib.Core.Path.{◌≡◌, refl, sym, ap, ◌∙◌}
use Prim.Native.Nat.{ℕ, suc, ◌≤◌, ◌<◌}
use native.Mathlib.Omega.{arith}
use lib.Dec.{leb}
use borrow.Author.Tests.{leb-true, leb-false}
use Rattle.bits.proofs.Below.{by_cases}
use Rattle.workflow.specs.Problem.{Job, May}
use Rattle.pattern.specs.Pattern.{Label, Pattern, SamePattern}
use Rattle.pattern.specs.Place.{with_step, grown, Way}
use Rattle.pattern.specs.Realize.{group_of, RealizedAt}
use Rattle.pattern.proofs.Levels.{consistent_up}
use Rattle.pattern.proofs.Sets.{fibre_of, fibre_in, fibre_at}
use Rattle.pattern.proofs.Place.{with_old, with_cases, grown-joined, grown_apart, grown_placed}
use Rattle.pattern.proofs.Realize.{realized_mono}
use Rattle.pattern.proofs.Names.{group_placed}

-- to join a group by one of its steps or by another is the same
pub grown_same : (steps levels : ℕ) (placed : ℕ → Bool) (label : Label) → Pattern steps levels placed label
    → (s : ℕ) → s < steps → placed s ≡ false → (t t' d : ℕ) → Way steps levels placed t d → Way steps levels placed t' d
    → (1 ≤ d → label d t ≡ label d t')
    → SamePattern steps levels (with_step placed s) (with_step placed s) (grown label s t d) (grown label s t' d)
grown_same steps levels placed label pattern s below unplaced t t' d way way' e =
    record {
      sets = λ u l. refl;
      labels = λ q u a b l h.
          with_cases placed s u h
          (λ x. ap (grown label s t d q) x ∙ new q a ∙ ap (grown label s t' d q) (sym x))
          (λ x i.
          grown_placed steps levels placed label pattern s below unplaced t d q u i
          ∙ sym (grown_placed steps levels placed label pattern s below unplaced t' d q u i));
    }
  where
    new : (q : ℕ) → 1 ≤ q → grown label s t d q s ≡ grown label s t' d q s
    new q a =
        by_cases (leb q d)
        (λ x.
        let m : q ≤ d = leb-true q d x in
        let n : 1 ≤ d = omega arith in
        grown-joined label s t d q m
        ∙ consistent_up steps levels placed label pattern.consistent q d a m way.depth t t' (way.below n) (way'.below n) (way.among n) (way'.among n) (e n)
        ∙ sym (grown-joined label s t' d q m))
        (λ x.
        let m : d < q = leb-false q d x in
        grown_apart label s t d q m ∙ sym (grown_apart label s t' d q m))

module _ (j : Job) (placed : ℕ → Bool) (label : Label) (pattern : Pattern j.steps j.levels placed label)
    (s : ℕ) (below : s < j.steps) (unplaced : placed s ≡ false) (t d q g : ℕ) (elsewhere : grown label s t d (suc q) s ≡ g → ⊥) where
  old : (r u : ℕ) → placed u ≡ true → grown label s t d r u ≡ label r u
  old r u h = grown_placed j.steps j.levels placed label pattern s below unplaced t d r u h

  -- the group has the same steps
  pub group_elsewhere : (u : ℕ) → group_of (with_step placed s) (grown label s t d) (suc q) g u ≡ true ↔ group_of placed label (suc q) g u ≡ true
  unfolding group_of
  group_elsewhere u = (
    λ h.
        let e = fibre_at (with_step placed s) (grown label s t d (suc q)) g u h in
        with_cases placed s u (fibre_in (with_step placed s) (grown label s t d (suc q)) g u h)
        (λ x. absurd (elsewhere (ap (grown label s t d (suc q)) (sym x) ∙ e)))
        (λ x i. fibre_of placed (label (suc q)) g u i (sym (old (suc q) u i) ∙ e)),
    λ h.
        let i = fibre_in placed (label (suc q)) g u h in
        fibre_of (with_step placed s) (grown label s t d (suc q)) g u (with_old placed s u i)
        (old (suc q) u i ∙ fibre_at placed (label (suc q)) g u h),
  )

  -- and can go to the same classes
  pub realized_elsewhere : (may : May) (v : ℕ)
      → RealizedAt j may (with_step placed s) (grown label s t d) (suc q) g v ↔ RealizedAt j may placed label (suc q) g v
  realized_elsewhere may v = (
    λ w. realized_mono j may (grown label s t d) label (suc q) _ _ _ _ (λ u l h. (group_elsewhere u).1 h) (λ p l h. h)
        (λ r u a b l h. old r u (group_placed j placed label (suc q) g u h)) w,
    λ w. realized_mono j may label (grown label s t d) (suc q) _ _ _ _ (λ u l h. (group_elsewhere u).0 h) (λ p l h. h)
        (λ r u a b l h. sym (old r u (group_placed j placed label (suc q) g u ((group_elsewhere u).0 h)))) w,
  )
