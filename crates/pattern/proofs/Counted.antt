-- What placing a step does to the counts of a rule: a step of the scope adds a group, unless it joins one of the scope. Assumes nothing.
use mathlib.Core.Bool.{Bool, true, false, not, ◌&&◌}
use mathlib.Core.Path.{◌≡◌, refl, sym, ap, ◌∙◌}
use Prim.Native.Nat.{ℕ, suc, ◌<◌}
use lib.Dec.{eqb}
use borrow.Author.Tests.{eqb-true, eqb-false}
use Rattle.bits.specs.Below.{count}
use Rattle.bits.proofs.Below.{by_cases, and_left, and_right}
use Rattle.bits.proofs.Counting.{and_of, is_false, bool_ext, count_cong, count_insert}
use Rattle.workflow.specs.Problem.{Rule, RuleOk, distinct}
use Rattle.workflow.proofs.Counts.{distinct_cong}
use Rattle.workflow.proofs.Labels.{Adds}
use Rattle.workflow.proofs.Loads.{load_cong}
use Rattle.workflow.proofs.Occurs.{occurs, occurs_of, occurs_at, distinct_occurs}
use Rattle.pattern.specs.Pattern.{Label, Pattern}
use Rattle.pattern.specs.Place.{with_step, grown, Way}
use Rattle.pattern.specs.Eligible.{group_count, group_load, open_count}
use Rattle.pattern.proofs.Same.{distinct_scope_cong, load_scope_cong}
use Rattle.pattern.proofs.Place.{with_own, with_old, with_cases, grown_placed, grown_pattern}

module _ (n bound : ℕ) (part whole : ℕ → Bool) (c : ℕ → ℕ) (s : ℕ) (adds : Adds n part whole s)
    (bounded : (u : ℕ) → u < n → whole u ≡ true → c u < bound) where
  keep : (u : ℕ) → part u ≡ true → whole u ≡ true
  keep u h = by_cases (eqb u s) (λ x. rw (eqb-true u s x) adds.has) (λ x. sym (adds.others u (eqb-false u s x)) ∙ h)

  by_part : distinct n part c ≡ count bound (occurs n part c)
  by_part = distinct_occurs part c n bound (λ u l h. bounded u l (keep u h))

  by_whole : distinct n whole c ≡ count bound (occurs n whole c)
  by_whole = distinct_occurs whole c n bound bounded

  -- a class that the whole has, other than that of s, is one of the part
  narrow : (v : ℕ) → (v ≡ c s → ⊥) → occurs n part c v ≡ occurs n whole c v
  narrow v d =
      bool_ext _ _
      (λ o. let w = occurs_at part c n v o in occurs_of whole c n v w.0 w.1 (keep w.0 w.2) w.3)
      (λ o. let w = occurs_at whole c n v o in
      by_cases (eqb w.0 s)
      (λ x. absurd (d (sym w.3 ∙ ap c (eqb-true w.0 s x))))
      (λ x. occurs_of part c n v w.0 w.1 (adds.others w.0 (eqb-false w.0 s x) ∙ w.2) w.3))

  -- s has a class of the part
  pub distinct_joins : (u : ℕ) → u < n → part u ≡ true → c u ≡ c s → distinct n whole c ≡ distinct n part c
  distinct_joins u l h e =
      by_whole
      ∙ count_cong bound (occurs n whole c) (occurs n part c)
      (λ v b. by_cases (eqb v (c s))
      (λ x. let y : v ≡ c s = eqb-true v (c s) x in
      occurs_of whole c n v u l (keep u h) (e ∙ sym y) ∙ sym (occurs_of part c n v u l h (e ∙ sym y)))
      (λ x. sym (narrow v (eqb-false v (c s) x))))
      ∙ sym by_part

  -- s has a class of its own
  pub distinct_new : ((u : ℕ) → u < n → part u ≡ true → c u ≡ c s → ⊥) → distinct n whole c ≡ suc (distinct n part c)
  distinct_new d =
      by_whole
      ∙ count_insert bound (occurs n part c) (occurs n whole c) (c s) (bounded s adds.below adds.has)
      (is_false _ (λ o. let w = occurs_at part c n (c s) o in d w.0 w.1 w.2 w.3))
      (occurs_of whole c n (c s) s adds.below adds.has refl)
      (λ v b x. narrow v x)
      ∙ ap suc (sym by_part)

module _ (steps levels : ℕ) (placed : ℕ → Bool) (label : Label) (pattern : Pattern steps levels placed label)
    (s : ℕ) (below : s < steps) (unplaced : placed s ≡ false) (r : Rule) where
  same_elsewhere : (u : ℕ) → (u ≡ s → ⊥) → placed u ≡ with_step placed s u
  same_elsewhere u d = bool_ext (placed u) (with_step placed s u) (λ h. with_old placed s u h) (λ h. with_cases placed s u h (λ x. absurd (d x)) (λ x i. i))

  -- a step outside the scope changes neither count
  pub open_count_outside : r.scope s ≡ false → open_count steps (with_step placed s) r ≡ open_count steps placed r
  open_count_outside o =
      count_cong steps (λ u. r.scope u && not (with_step placed s u)) (λ u. r.scope u && not (placed u))
      (λ u l. by_cases (eqb u s)
      (λ x. rw (eqb-true u s x, o) refl)
      (λ x. ap (λ (b : Bool). r.scope u && not b) (sym (same_elsewhere u (eqb-false u s x)))))

  -- a step of the scope is one open step fewer
  pub open_count-inside : r.scope s ≡ true → open_count steps placed r ≡ suc (open_count steps (with_step placed s) r)
  open_count-inside i =
      count_insert steps (λ u. r.scope u && not (with_step placed s u)) (λ u. r.scope u && not (placed u)) s below
      (rw (i, with_own placed s) refl) (rw (i, unplaced) refl)
      (λ u l x. ap (λ (b : Bool). r.scope u && not b) (sym (same_elsewhere u x)))

  module _ (ok : RuleOk steps levels r) (t d : ℕ) (way : Way steps levels placed t d) where
    -- the count so far, by the labels of the grown pattern
    before : group_count steps placed label r ≡ distinct steps (λ u. r.scope u && placed u) (grown label s t d r.level)
    before =
        distinct_cong steps (λ u. r.scope u && placed u) (label r.level) (grown label s t d r.level)
        (λ u l h. sym (grown_placed steps levels placed label pattern s below unplaced t d r.level u (and_right (r.scope u) _ h)))

    -- a step outside the scope is none of the scope's
    outside : r.scope s ≡ false → (u : ℕ) → u < steps → r.scope u && with_step placed s u ≡ r.scope u && placed u
    outside o u l =
        by_cases (eqb u s)
        (λ x. rw (eqb-true u s x, o) refl)
        (λ x. ap (λ (b : Bool). r.scope u && b) (sym (same_elsewhere u (eqb-false u s x))))

    -- so it adds no group
    pub group_count_outside : r.scope s ≡ false → group_count steps (with_step placed s) (grown label s t d) r ≡ group_count steps placed label r
    group_count_outside o =
        distinct_scope_cong steps (λ u. r.scope u && with_step placed s u) (λ u. r.scope u && placed u) (grown label s t d r.level) (outside o)
        ∙ sym before

    -- and no group holds more
    pub group_load_outside : r.scope s ≡ false → group_load steps (with_step placed s) (grown label s t d) r ≡ group_load steps placed label r
    group_load_outside o =
        load_scope_cong steps (λ u. r.scope u && with_step placed s u) (λ u. r.scope u && placed u) (grown label s t d r.level) (outside o)
        ∙ load_cong steps (λ u. r.scope u && placed u) (grown label s t d r.level) (label r.level)
        (λ u l h. grown_placed steps levels placed label pattern s below unplaced t d r.level u (and_right (r.scope u) _ h))

    adds : r.scope s ≡ true → Adds steps (λ u. r.scope u && placed u) (λ u. r.scope u && with_step placed s u) s
    adds i =
        record {
          below = below;
          lacks = rw (i, unplaced) refl;
          has = rw (i, with_own placed s) refl;
          others = λ u x. ap (λ (b : Bool). r.scope u && b) (same_elsewhere u x);
        }

    bounded : (u : ℕ) → u < steps → r.scope u && with_step placed s u ≡ true → grown label s t d r.level u < steps
    bounded u l h =
        ((grown_pattern steps levels placed label pattern s below unplaced t d way).labelled r.level ok.from ok.to
        ).below u l (and_right (r.scope u) _ h)

    -- a step that joins a group of the scope adds none
    pub group_count_joins : r.scope s ≡ true → (u : ℕ) → u < steps → r.scope u ≡ true → placed u ≡ true
        → label r.level u ≡ grown label s t d r.level s
        → group_count steps (with_step placed s) (grown label s t d) r ≡ group_count steps placed label r
    group_count_joins i u l h k e =
        distinct_joins steps steps _ _ (grown label s t d r.level) s (adds i) bounded u l (and_of (r.scope u) _ h k)
        (grown_placed steps levels placed label pattern s below unplaced t d r.level u k ∙ e)
        ∙ sym before

    -- and one that joins none of them adds its own
    pub group_count_new : r.scope s ≡ true
        → ((u : ℕ) → u < steps → r.scope u ≡ true → placed u ≡ true → label r.level u ≡ grown label s t d r.level s → ⊥)
        → group_count steps (with_step placed s) (grown label s t d) r ≡ suc (group_count steps placed label r)
    group_count_new i apart =
        distinct_new steps steps _ _ (grown label s t d r.level) s (adds i) bounded
        (λ u l h e. apart u l (and_left (r.scope u) _ h) (and_right (r.scope u) _ h)
        (sym (grown_placed steps levels placed label pattern s below unplaced t d r.level u (and_right (r.scope u) _ h)) ∙ e))
        ∙ ap suc (sym before)
