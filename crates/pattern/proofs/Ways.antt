-- A plan that has a pattern has exactly one of the patterns that grow from it when a step is placed: the step joins the placed step with
-- which it agrees on most levels. Assumes nothing.
use mathlib.Core.Bool.{Bool, true, false, ◌&&◌}
use mathlib.Core.Path.{◌≡◌, sym, subst, ◌∙◌}
use Prim.Native.Nat.{ℕ, zero, suc, ◌≤◌, ◌<◌}
use native.Mathlib.Omega.{arith}
use lib.Dec.{eqb, leb, ltb}
use borrow.Author.Tests.{eqb-true, eq-eqb, leb-true, leb-false, ltb-true, ltb-false}
use Rattle.bits.specs.Below.{any}
use Rattle.bits.proofs.Below.{by_cases, true-false, below_suc, and_left, and_right}
use Rattle.bits.proofs.Counting.{and_of, any_at, any_of}
use Rattle.workflow.specs.Problem.{Job, Plan}
use Rattle.workflow.specs.Independent.{classes_of}
use Rattle.pattern.specs.Pattern.{Label, Pattern, Refining, Has}
use Rattle.pattern.specs.Place.{with_step, grown, Way}
use Rattle.pattern.proofs.Levels.{refining_up}
use Rattle.pattern.proofs.Sets.{alike_sym, alike_cong, alike_trans}
use Rattle.pattern.proofs.Patterns.{has_part, has_cong}
use Rattle.pattern.proofs.Place.{with_own, with_old, grown-joined, alike_with, grown_placed, joins}

module _ (j : Job) (placed : ℕ → Bool) (label : Label) (pattern : Pattern j.steps j.levels placed label)
    (s : ℕ) (below : s < j.steps) (unplaced : placed s ≡ false) (π : Plan) where
  -- a plan that has a grown pattern has the pattern before
  pub grown_before : (t d : ℕ) → Has j (with_step placed s) (grown label s t d) π → Has j placed label π
  grown_before t d h =
      has_cong j placed (grown label s t d) label π
      (λ q u a b l i. grown_placed j.steps j.levels placed label pattern s below unplaced t d q u i)
      (has_part j placed (with_step placed s) (grown label s t d) π (λ u l i. with_old placed s u i) h)

  -- what two ways that fit have in common
  meet : (t d t' d' : ℕ) → Way j.steps j.levels placed t d
      → Has j (with_step placed s) (grown label s t d) π → Has j (with_step placed s) (grown label s t' d') π
      → 1 ≤ d → (d ≤ d') × (label d t' ≡ label d t)
  meet t d t' d' way h h' n =
      let l = way.below n in
      let i = way.among n in
      let shares : classes_of j d π s ≡ classes_of j d π t
      = (h.alike d n way.depth).back s t below l (with_own placed s) (with_old placed s t i)
      (grown-joined label s t d d (omega arith) ∙ sym (grown_placed j.steps j.levels placed label pattern s below unplaced t d d t i))
      in
      joins j.steps j.levels placed label pattern s below unplaced t' d' d t n way.depth l i
      ((h'.alike d n way.depth).forth s t below l (with_own placed s) (with_old placed s t i) shares
      ∙ grown_placed j.steps j.levels placed label pattern s below unplaced t' d' d t i)

  -- two ways that fit join the same group at the same depth
  pub way_unique : (t d t' d' : ℕ) → Way j.steps j.levels placed t d → Way j.steps j.levels placed t' d'
      → Has j (with_step placed s) (grown label s t d) π → Has j (with_step placed s) (grown label s t' d') π
      → (d ≡ d') × (1 ≤ d → label d t ≡ label d t')
  way_unique t d t' d' way way' h h' = (
    by_cases (ltb d d')
        (λ x. let a : d < d' = ltb-true d d' x in absurd (omega (arith, (meet t' d' t d way' h' h (omega arith)).0)))
        (λ x. let a : d' ≤ d = ltb-false d d' x in
        by_cases (ltb d' d)
        (λ y. let b : d' < d = ltb-true d' d y in absurd (omega (arith, (meet t d t' d' way h h' (omega arith)).0)))
        (λ y. omega (arith, ltb-false d' d y))),
    λ n. sym (meet t d t' d' way h h' n).1,
  )

  -- t and d of the placed step with which s agrees on most levels, t being the label of its group
  record Deepest : Type 0 where
    t : ℕ
    d : ℕ
    way : Way j.steps j.levels placed t d
    leads : 1 ≤ d → label d t ≡ t
    shares : 1 ≤ d → classes_of j d π s ≡ classes_of j d π t
    apart : (q v : ℕ) → d < q → q ≤ j.levels → v < j.steps → placed v ≡ true → classes_of j q π s ≡ classes_of j q π v → ⊥

  -- going up from level n, below which s agrees with no placed step
  deepest : Has j placed label π → (n : ℕ) → n ≤ j.levels
      → ((q v : ℕ) → n < q → q ≤ j.levels → v < j.steps → placed v ≡ true → classes_of j q π s ≡ classes_of j q π v → ⊥) → Deepest
  deepest h zero m apart =
      record {
        t = 0;
        d = 0;
        way = record { depth = m; below = λ n. absurd (omega arith); among = λ n. absurd (omega arith) };
        leads = λ n. absurd (omega arith);
        shares = λ n. absurd (omega arith);
        apart = apart;
      }
  deepest h (suc n) m apart =
      let test : ℕ → Bool = λ v. placed v && eqb (classes_of j (suc n) π s) (classes_of j (suc n) π v) in
      by_cases (any j.steps test)
      (λ x.
      let w = any_at j.steps test x in
      let i : placed w.0 ≡ true = and_left (placed w.0) _ w.2 in
      let e : classes_of j (suc n) π s ≡ classes_of j (suc n) π w.0 = eqb-true _ _ (and_right (placed w.0) _ w.2) in
      let p = pattern.labelled (suc n) (omega arith) m in
      record {
        t = label (suc n) w.0;
        d = suc n;
        way = record { depth = m; below = λ a. p.below w.0 w.1 i; among = λ a. p.among w.0 w.1 i };
        leads = λ a. p.own w.0 w.1 i;
        shares = λ a.
            e ∙ (h.alike (suc n) (omega arith) m).back w.0 _ w.1 (p.below w.0 w.1 i) i (p.among w.0 w.1 i) (sym (p.own w.0 w.1 i));
        apart = apart;
      })
      (λ x. deepest h n (omega arith)
      (λ q v a b l i e.
      below_suc q (suc n) (omega arith)
      (λ y. apart q v y b l i e)
      (λ y. true-false
      (any_of j.steps test v l (and_of (placed v) _ i (eq-eqb _ _ (subst (λ (r : ℕ). classes_of j r π s ≡ classes_of j r π v) (sym y) e)))) x)))

  -- the plan has the pattern grown that way
  deepest_has : Refining j → ((u : ℕ) → u < j.steps → π u < j.people) → Has j placed label π → (w : Deepest)
      → Has j (with_step placed s) (grown label s w.t w.d) π
  deepest_has refining within h w =
      record {
        alike = λ q a b.
            alike_with j.steps placed s (classes_of j q π) (grown label s w.t w.d q)
            (alike_trans j.steps placed (classes_of j q π) (label q) _ (h.alike q a b)
            (alike_sym j.steps placed _ _ (alike_cong j.steps placed _ _ (λ u l i. old q u i))))
            (λ v l i. (λ e. forth q v a b l i e ∙ sym (old q v i), λ e. back q v a b l i (e ∙ old q v i)));
      }
    where
      old : (q u : ℕ) → placed u ≡ true → grown label s w.t w.d q u ≡ label q u
      old q u i = grown_placed j.steps j.levels placed label pattern s below unplaced w.t w.d q u i

      above : (q : ℕ) → 1 ≤ q → q ≤ w.d → classes_of j q π s ≡ classes_of j q π w.t
      above q a b =
          let n : 1 ≤ w.d = omega arith in
          refining_up j refining q w.d a b w.way.depth (π s) (π w.t) (within s below) (within w.t (w.way.below n)) (w.shares n)

      forth : (q v : ℕ) → 1 ≤ q → q ≤ j.levels → v < j.steps → placed v ≡ true → classes_of j q π s ≡ classes_of j q π v
          → grown label s w.t w.d q s ≡ label q v
      forth q v a b l i e =
          by_cases (leb q w.d)
          (λ x.
          let m : q ≤ w.d = leb-true q w.d x in
          let n : 1 ≤ w.d = omega arith in
          grown-joined label s w.t w.d q m
          ∙ (h.alike q a b).forth w.t v (w.way.below n) l (w.way.among n) i (sym (above q a m) ∙ e))
          (λ x. absurd (w.apart q v (leb-false q w.d x) b l i e))

      back : (q v : ℕ) → 1 ≤ q → q ≤ j.levels → v < j.steps → placed v ≡ true → grown label s w.t w.d q s ≡ label q v
          → classes_of j q π s ≡ classes_of j q π v
      back q v a b l i e =
          let x = joins j.steps j.levels placed label pattern s below unplaced w.t w.d q v a b l i e in
          let n : 1 ≤ w.d = omega (arith, x.0) in
          above q a x.0 ∙ (h.alike q a b).back w.t v (w.way.below n) l (w.way.among n) i x.1

  -- some way fits; the step that it joins is the label of a group
  pub way_exists : Refining j → ((u : ℕ) → u < j.steps → π u < j.people) → Has j placed label π
      → (t : ℕ) × (d : ℕ) × Way j.steps j.levels placed t d × (1 ≤ d → label d t ≡ t) × Has j (with_step placed s) (grown label s t d) π
  way_exists refining within h =
      let w = deepest h j.levels (omega arith) (λ q v a b l i e. omega arith) in
      (w.t, w.d, w.way, w.leads, deepest_has refining within h w)
