-- The instance over the steps that remain has the plans of the job as the cards have it, in the same order; and where no step is skipped a valid plan is what it
-- was. Assumes nothing.
use mathlib.Core.Bool.{Bool, true, false, ◌&&◌}
use mathlib.Core.List.{List}
use mathlib.Core.Logic.{◌↔◌}
use mathlib.Core.Path.{◌≡◌, refl, ◌∙◌, ap, ap₂, subst}
use Prim.Native.Nat.{ℕ, zero, suc, ◌/◌, ◌<◌, min}
use native.Mathlib.Omega.{arith}
use lib.Dec.{leb, ltb}
use lib.ListN.{length, get_or}
use borrow.Author.Tests.{lt-ltb, leb-true, ltb-true}
use Rattle.bits.specs.Below.{count}
use Rattle.bits.specs.Word.{has_bit}
use Rattle.bits.proofs.Below.{by_cases, and_left, and_right}
use Rattle.bits.proofs.Masks.{size_below}
use Rattle.card.specs.Fields.{levels_in, class_of, permitted_of, rule_kind_of, level_of, limit_of, scope_of, scope_size, limit_ok}
use Rattle.card.proofs.Limits.{limit_cases}
use Rattle.sheet.specs.Read.{job, read_sheet}
use Rattle.sheet.proofs.Chains.{chains}
use Rattle.sheet.proofs.Fill.{get_d_table}
use Rattle.sheet.proofs.InOrder.{below_power, rule_fields}
use Rattle.sheet.proofs.Passes.{sheet_passes}
use Rattle.sheet.proofs.Readable.{rule_card, sheet_levels}
use Rattle.remaining.specs.Remaining.{skipped_at, kept_of, kept_at, steps_left, job_left}
use Rattle.remaining.proofs.KeptLaws.{kept_below_lem, kept_remains, kept_ordered, kept_every}
use Rattle.remaining.proofs.Laws.{steps_left-length, permitted_left, scope_left_lem, levels_left, column_left, kind_left, level_left, limit_left}
use Rattle.workflow.specs.Problem.{May, Plan, Agree, Fits, Valid, Satisfiable, least_of, most_of, heaviest_of}
use Rattle.workflow.specs.First.{FirstValid}
use Rattle.workflow.specs.Numbered.{kind_in}
use Rattle.workflow.specs.Skipped.{ValidLeft, SatisfiableLeft, FirstValidLeft, ValidWhole}
use Rattle.workflow.specs.Leaves.{Leaves, plan_left, may_left}
use Rattle.workflow.proofs.Leaves.{valid_left, satisfiable_left, first_left, spread, spread_at, spread_valid, first_spread, valid_whole}
use Rattle.workflow.proofs.Same.{permitted_valid}
use Rattle.instance.specs.Instance.{is_class_level, class_at, class_number, instance_in, may_do}
use Rattle.instance.specs.Marked.{class_on, marked_in, permitted_in}

module _ (s people steps rules : List ℕ) where
  -- how many steps remain
  abbrev left : ℕ
  left = length (steps_left s steps)

  kept : (k : ℕ) → k < left → k < length (kept_of s steps)
  kept k l = omega (arith, steps_left-length s steps)

  -- a bit of what is left is that of the step
  bit_left : (k : ℕ) (b : Bool) → k < left → (ltb k (length (kept_of s steps)) && b) ≡ b
  bit_left k b l = ap (λ (x : Bool). x && b) (lt-ltb k (length (kept_of s steps)) (kept k l))

  -- the arrays permit what the cards permit
  pub permits_left : (k p : ℕ) → k < left → p < length people → may_do s people steps rules k p ≡ may_left (kept_at s steps) (permitted_in s people) k p
  permits_left k p l m =
      permitted_left s people steps rules p k m ∙ bit_left k (has_bit (permitted_of s (get_or people p 0)) (kept_at s steps k)) l

  module _ (read : read_sheet s ≡ job people steps rules) where
    -- the table has the classes of the cards
    pub class_same : (q p : ℕ) → p < length people → class_number (job_left s people steps rules) q p ≡ class_on s people q p
    class_same q p l =
        let e = levels_left s people steps rules in
        let few = (chains s (length s / 16) people steps rules (sheet_passes s people steps rules read).rest).people_chain.short in
        let few_levels = (sheet_levels s people steps rules read).1 in
        ap (λ (n : ℕ). class_at n (job_left s people steps rules).class q p) e
        ∙ by_cases (is_class_level (levels_in s) q)
        (λ t.
        let from = leb-true 1 q (and_left (leb 1 q) (ltb q (levels_in s)) t) in
        let to = ltb-true q (levels_in s) (and_right (leb 1 q) (ltb q (levels_in s)) t) in
        rw t (ap (λ (x : List ℕ). get_or x p 0) (column_left s people steps rules few few_levels q from (omega arith)) ∙ get_d_table 64 (class_of s q) people p l))
        (λ t. rw t refl)

    pub instance_leaves : Leaves (marked_in s people steps rules) (instance_in s people steps rules) (kept_at s steps)
    instance_leaves =
        record {
          below = λ k l. kept_below_lem (skipped_at s steps) (length steps) k (kept k l);
          remains = λ k l. kept_remains (skipped_at s steps) (length steps) k (kept k l);
          ordered = λ k m a b. kept_ordered (skipped_at s steps) (length steps) k m a (kept m b);
          every = λ t l h.
              let k = kept_every (skipped_at s steps) (length steps) t l h in
              (k.0, omega (arith, k.1, steps_left-length s steps), k.2);
          people = refl;
          rules = refl;
          scope = λ i k l a. scope_left_lem s people steps rules i k l ∙ bit_left k (has_bit (scope_of s (get_or rules i 0)) (kept_at s steps k)) a;
          least = λ i l.
              ap₂ (λ (x y : ℕ). min (least_of (kind_in x) y (count left ((instance_in s people steps rules).rule i).scope)) (count left ((instance_in s people steps rules).rule i).scope))
              (kind_left s people steps rules i l) (limit_left s people steps rules i l);
          most = λ i l.
              ap₂ (λ (x y : ℕ). min (most_of (kind_in x) y left) left) (kind_left s people steps rules i l) (limit_left s people steps rules i l);
          load = λ i l.
              ap₂ (λ (x y : ℕ). min (heaviest_of (kind_in x) y left) left) (kind_left s people steps rules i l) (limit_left s people steps rules i l);
          class = λ i p l m.
              ap (λ (q : ℕ). class_number (job_left s people steps rules) q p) (level_left s people steps rules i l)
              ∙ class_same (level_of s (get_or rules i 0)) p m;
        }

    -- whoever may do what, if it is the same along the steps that remain
    module _ (may may' : May) (same : (k p : ℕ) → k < left → p < length people → may' k p ≡ may_left (kept_at s steps) may k p) where
      pub valid_in : (π : Plan) → ValidLeft (marked_in s people steps rules) may π ↔ Valid (instance_in s people steps rules) may' (plan_left (kept_at s steps) π)
      valid_in π =
          let a = valid_left instance_leaves may π in
          let b = permitted_valid (instance_in s people steps rules) may' (may_left (kept_at s steps) may) same (plan_left (kept_at s steps) π) in
          (λ v. b.1 (a.0 v), λ v. a.1 (b.0 v))

      pub satisfiable_in : SatisfiableLeft (marked_in s people steps rules) may ↔ Satisfiable (instance_in s people steps rules) may'
      satisfiable_in =
          let a = satisfiable_left instance_leaves may in (
            λ v. let w = a.0 v in (w.0, (permitted_valid (instance_in s people steps rules) may' (may_left (kept_at s steps) may) same w.0).1 w.1),
            λ v. a.1 (v.0, (permitted_valid (instance_in s people steps rules) may' (may_left (kept_at s steps) may) same v.0).0 v.1),
          )

      pub first_in : (π : Plan)
          → FirstValidLeft (marked_in s people steps rules) may π ↔ FirstValid (instance_in s people steps rules) may' (plan_left (kept_at s steps) π)
      first_in π =
          let a = first_left instance_leaves may π in
          let b = permitted_valid (instance_in s people steps rules) may' (may_left (kept_at s steps) may) same in (
            λ f. let g = a.0 f in record { valid = (b (plan_left (kept_at s steps) π)).1 g.valid; first = λ σ v e. g.first σ ((b σ).0 v) e },
            λ f. a.1 (record { valid = (b (plan_left (kept_at s steps) π)).0 f.valid; first = λ σ v e. f.first σ ((b σ).1 v) e }),
          )

      -- a plan of the instance, as one of all steps
      pub plan_back : (σ : Plan) → Valid (instance_in s people steps rules) may' σ
          → (π : Plan) × ValidLeft (marked_in s people steps rules) may π × Agree left σ (plan_left (kept_at s steps) π)
      plan_back σ v =
          let w = (permitted_valid (instance_in s people steps rules) may' (may_left (kept_at s steps) may) same σ).0 v in
          (spread instance_leaves σ, spread_valid instance_leaves may σ w, spread_at instance_leaves σ)

      pub first_back : (σ : Plan) → FirstValid (instance_in s people steps rules) may' σ → (π : Plan) × FirstValidLeft (marked_in s people steps rules) may π
      first_back σ f =
          let b = permitted_valid (instance_in s people steps rules) may' (may_left (kept_at s steps) may) same in
          (spread instance_leaves σ, first_spread instance_leaves may σ (record { valid = (b σ).0 f.valid; first = λ τ v e. f.first τ ((b τ).1 v) e }))

-- ---- the rules fit, with all steps of their scopes

fits : (kind limit size : ℕ) → limit_ok kind limit size ≡ true → Fits (kind_in kind) limit size
fits zero limit size h = limit_cases 0 limit size h (λ a b c d. absurd (omega arith)) (λ a b c d e. absurd (omega arith))
fits (suc zero) limit size h = limit_cases 1 limit size h (λ a b c d. (c, d)) (λ a b c d e. absurd (omega arith))
fits (suc (suc zero)) limit size h = limit_cases 2 limit size h (λ a b c d. (c, d)) (λ a b c d e. absurd (omega arith))
fits (suc (suc (suc zero))) limit size h = limit_cases 3 limit size h (λ a b c d. absurd (omega arith)) (λ a b c d e. (c, d, e))
fits (suc (suc (suc (suc zero)))) limit size h = limit_cases 4 limit size h (λ a b c d. absurd (omega arith)) (λ a b c d e. (c, d, e))
fits (suc (suc (suc (suc (suc n))))) limit size h =
    limit_cases (suc (suc (suc (suc (suc n))))) limit size h (λ a b c d. absurd (omega arith)) (λ a b c d e. (c, d, e))

module _ (s people steps rules : List ℕ) (read : read_sheet s ≡ job people steps rules) where
  pub marked_fits : (i : ℕ) → i < length rules
      → Fits (kind_in (rule_kind_of s (get_or rules i 0))) (limit_of s (get_or rules i 0)) (count (length steps) (has_bit (scope_of s (get_or rules i 0))))
  marked_fits i l =
      let c = get_or rules i 0 in
      let p = (sheet_passes s people steps rules read).rest in
      let t = rule_fields s c (length steps) (rule_card s people steps rules (length s / 16) p i l) in
      let few = (chains s (length s / 16) people steps rules p).steps_chain.short in
      subst (Fits (kind_in (rule_kind_of s c)) (limit_of s c))
      (size_below (length steps) 16 (scope_of s c) (omega arith) (below_power (length steps) (scope_of s c) t.3))
      (fits (rule_kind_of s c) (limit_of s c) (scope_size (scope_of s c)) t.0)

  -- "A sheet without a skipped step means what it meant"
  pub valid_as_before : ((t : ℕ) → t < length steps → skipped_at s steps t ≡ false) → (may : May) (π : Plan)
      → ValidLeft (marked_in s people steps rules) may π ↔ ValidWhole (marked_in s people steps rules) may π
  valid_as_before none may π = valid_whole (marked_in s people steps rules) none marked_fits may π
