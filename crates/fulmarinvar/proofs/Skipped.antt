-- Which plans are over the remaining steps; what holds with all steps skipped, and with none. Assumes nothing.
use mathlib.Core.Bool.{Bool, true, ◌&&◌}
use mathlib.Core.List.{List, [], ◌++◌}
use mathlib.Core.Logic.{⊎_elim, inl}
use mathlib.Core.Path.{◌≡◌, sym, ◌∙◌, ap}
use Prim.Native.Nat.{ℕ, zero, suc, ◌*◌, ◌<◌, ◌≤◌}
use native.Mathlib.Omega.{arith}
use lib.Dec.{eqb}
use lib.ListN.{length, drop}
use borrow.Author.Tests.{not-true, eqb-true, eqb-false, le-leb, lt-leb}
use Rattle.bits.proofs.Below.{by_cases, true-false, and_right}
use Rattle.bits.proofs.Counting.{is_false, count_none}
use Rattle.card.specs.Fields.{tag_of, skipped_of, nonzero, step_ok}
use Rattle.card.specs.Layout.{card_long}
use Rattle.sheet.specs.Read.{job, read_sheet}
use Rattle.remaining.proofs.Laws.{readable_in, steps_whole, whole_left}
use Rattle.remaining.specs.Remaining.{skipped_at, kept_at, steps_left, job_left}
use Rattle.workflow.specs.Problem.{Kind, same, different, at_most, at_least, maxLoad, May, Plan, looked_at}
use Rattle.workflow.specs.First.{list_of}
use Rattle.workflow.specs.Leaves.{plan_left}
use Rattle.workflow.specs.Skipped.{MarkedJob, scope_left, size_left, AsksLeft, SatisfiableLeft}
use Rattle.workflow.proofs.Counts.{distinct-le_scope}
use Rattle.workflow.proofs.Loads.{largest_load_scope}
use Rattle.workflow.proofs.Leaves.{spread, spread_at, earlier_left}
use Rattle.instance.specs.Instance.{may_do, crew_tags}
use Rattle.instance.specs.Marked.{marked_in, permitted_in}
use Rattle.instance.proofs.Laws.{instance_nested}
use Rattle.instance.proofs.Marked.{instance_leaves, permits_left, valid_in, valid_as_before}
use Rattle.answer.specs.Bytes.{written}
use Rattle.fulmarinvar.specs.Demands.{spare_bytes_of}
use Rattle.fulmarinvar.specs.Skipped as demands
use Rattle.fulmarinvar.proofs.CrewDemand.{crew_demand}
use Rattle.fulmarinvar.proofs.OpenDemand.{open_demand}
use Rattle.fulmarinvar.proofs.SheetDemand.{steps_remain}
use Rattle.fulmarinvar.proofs.SignDemand.{sign_demand}
use Rattle.fulmarinvar.proofs.SpareDemand.{spare_demand}

pub plans_left : demands.PlansLeft
plans_left s people steps rules e =
    record {
      nested =
          instance_nested (length people) (length (steps_left s steps)) (length rules) (job_left s people steps rules) (readable_in s people steps rules e);
      leaves = instance_leaves s people steps rules e;
      valid = valid_in s people steps rules e (permitted_in s people) (may_do s people steps rules) (permits_left s people steps rules);
      every = λ σ. (spread (instance_leaves s people steps rules e) σ, spread_at (instance_leaves s people steps rules e) σ);
      order = earlier_left (instance_leaves s people steps rules e);
    }

-- ---- all skipped

-- a rule left with no step is met
none_asked : (k : Kind) (limit left n load : ℕ) → left ≡ 0 → n ≡ 0 → load ≡ 0 → AsksLeft k limit left (looked_at k n load)
none_asked same limit left n load a b c = inl (omega arith)
none_asked different limit left n load a b c = inl (omega arith)
none_asked at_most limit left n load a b c = omega arith
none_asked at_least limit left n load a b c = omega arith
none_asked maxLoad limit left n load a b c = omega arith

module _ (s people steps rules : List ℕ) (e : read_sheet s ≡ job people steps rules) (all : (t : ℕ) → t < length steps → skipped_at s steps t ≡ true) where
  none_left : length (steps_left s steps) ≡ 0
  none_left = go (length (steps_left s steps)) (λ k l. k_th k l)
    where
      k_th : (k : ℕ) → k < length (steps_left s steps) → ⊥
      k_th k l =
          let remain = steps_remain s steps in
          true-false (all (kept_at s steps k) (remain.on_chain k l)) (remain.remains k l)

      go : (n : ℕ) → ((k : ℕ) → k < n → ⊥) → n ≡ 0
      go zero f = omega arith
      go (suc n) f = absurd (f 0 (omega arith))

  abbrev marked : MarkedJob
  marked = marked_in s people steps rules

  -- any plan will do, whoever is permitted what
  any_plan : (may : May) → SatisfiableLeft marked may
  any_plan may = (
    λ t. 0,
    record {
      within = λ t l h. true-false (all t l) h;
      authorised = λ t l h. true-false (all t l) h;
      eligible = λ i l.
          let r = marked.rule i in
          let size : size_left marked r ≡ 0
          = count_none (length steps) (scope_left marked r) (λ t b. is_false _ (λ h. true-false (all t b) (not-true (skipped_at s steps t) (and_right (r.scope t) _ h)))) in
          let few = distinct-le_scope (length steps) (scope_left marked r) (λ t. marked.class r.level 0) in
          let light = largest_load_scope (length steps) (scope_left marked r) (λ t. marked.class r.level 0) in
          none_asked r.kind r.limit (size_left marked r) _ _ size (omega (arith, few, size)) (omega (arith, light, size));
    },
  )

  -- no byte is written
  empty : (buffer : List ℕ) (π : Plan)
      → written
      (crew_tags (job_left s people steps rules).step_tag (job_left s people steps rules).person_tag
      (list_of (length (steps_left s steps)) (plan_left (kept_at s steps) π)) (length (steps_left s steps)))
      ++ drop (8 * length (steps_left s steps)) buffer
      ≡ buffer
  unfolding crew_tags written list_of
  empty buffer π =
      ap (λ (n : ℕ).
      written (crew_tags (job_left s people steps rules).step_tag (job_left s people steps rules).person_tag (list_of n (plan_left (kept_at s steps) π)) n)
      ++ drop (8 * n) buffer)
      none_left

  pub nothing_to_do : demands.NothingToDo s people steps rules
  nothing_to_do =
      record {
        crew = λ buffer number left p.
            let x = crew_demand s buffer people steps rules number left p e (omega (arith, none_left)) in
            let w = any_plan (permitted_in s people) in
            let f = x.exists_first w in
            (x.planned.1 w, x.first f.0 f.1 ∙ empty buffer f.0);
        spare = λ cap buffer number left c l p.
            let x = spare_demand cap s buffer people steps rules number left p e c l in
            let w = any_plan (permitted_in s people) in
            let y = x.spare w in
            let most : cap ≤ y.0 = y.1.largest.largest cap (omega arith) (λ away m. any_plan _) in
            let t : y.0 ≡ cap = omega (arith, most, y.1.largest.most) in (
              x.counted.1 w,
              ⊎_elim (λ z. z.1 ∙ ap (λ (n : ℕ). spare_bytes_of s people steps rules buffer n []) t) (λ z. absurd (omega (arith, z.0, t))) y.1.tags,
            );
        opens = λ j number left o. ((open_demand s j number left o).planned people steps rules e).1 (any_plan (permitted_in s people));
        unknown = λ h j w last a b number left o.
            (sign_demand h j people steps rules a b number left w (ap read_sheet last ∙ e) o).unknown.1
            (λ t p x y.
            let n = ap (λ (z : List ℕ). length (steps_left z steps)) last in
            absurd (omega (arith, x.below, n, none_left)));
      }

pub all_skipped : demands.AllSkipped
all_skipped s people steps rules e all = nothing_to_do s people steps rules e all

-- ---- none skipped

pub tested_as_before : demands.TestedAsBefore
unfolding step_ok
tested_as_before s c other =
    ap (λ (b : Bool). b && nonzero (tag_of s c) && eqb (card_long s c 8) 0 && eqb (card_long s c 12) 0)
    (by_cases (eqb (skipped_of s c) 0)
    (λ t. let z = eqb-true (skipped_of s c) 0 t in le-leb (skipped_of s c) 1 (omega arith) ∙ sym t)
    (λ t. let d = eqb-false (skipped_of s c) 0 t in lt-leb (skipped_of s c) 1 (omega arith) ∙ sym t))

pub none_skipped : demands.NoneSkipped
none_skipped s people steps rules e none =
    record {
      steps_left_lem = steps_whole s steps none;
      job_left_lem = whole_left s people steps rules e none;
      valid = valid_as_before s people steps rules e none;
      order = λ σ π. (
        λ x. record { at = x.at; below = x.below; less = x.less; before = λ t l. x.before t l (none t (omega (arith, x.below))) },
        λ x. record { at = x.at; below = x.below; remains = none x.at x.below; less = x.less; before = λ t l h. x.before t l },
      );
    }
