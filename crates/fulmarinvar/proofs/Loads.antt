-- What a rule of kind 5 asks for, what follows of a valid plan, and that the other kinds are what they were. Assumes nothing.
use mathlib.Core.Bool.{Bool, true}
use mathlib.Core.List.{List}
use mathlib.Core.Logic.{◌↔◌}
use mathlib.Core.Path.{◌≡◌, refl, sym, ◌∙◌}
use Prim.Native.Nat.{ℕ, ◌≤◌, ◌<◌, ◌/◌}
use native.Mathlib.Omega.{arith}
use lib.Dec.{leb}
use lib.ListN.{length, get_or}
use borrow.Author.Tests.{not-true, leb-true, leb-false, le-leb, lt-leb}
use Rattle.bits.specs.Word.{has_bit}
use Rattle.bits.proofs.Below.{by_cases, and_right}
use Rattle.card.specs.Fields.{levels_in, rule_kind_of, level_of, limit_of, scope_of, scope_size, limit_ok}
use Rattle.card.proofs.Limits.{limit_cases}
use Rattle.sheet.specs.Read.{job, read_sheet}
use Rattle.sheet.proofs.InOrder.{rule_fields}
use Rattle.sheet.proofs.Passes.{sheet_passes}
use Rattle.sheet.proofs.Readable.{rule_card}
use Rattle.workflow.specs.Problem.{Kind, same, different, at_most, at_least, maxLoad, Plan, distinct, largest_load, figure_of}
use Rattle.workflow.specs.Skipped.{MarkedJob, scope_left, size_left, figure_left, AsksLeft, ValidLeft}
use Rattle.workflow.proofs.Loads.{load_le_largest, largest_load-le, load_finer, count_load, fewest-le}
use Rattle.workflow.proofs.Nested.{refines}
use Rattle.instance.specs.Instance.{instance_in}
use Rattle.remaining.specs.Remaining.{steps_left, job_left}
use Rattle.remaining.proofs.Laws.{levels_left, readable_in}
use Rattle.instance.specs.Marked.{class_on, rule_on, marked_in, permitted_in}
use Rattle.instance.proofs.Laws.{instance_nested}
use Rattle.instance.proofs.Marked.{class_same}
use Rattle.fulmarinvar.specs.Loads.{NoneOverloaded, LoadRules, Spread, ValidSpread, OtherKinds}

module _ (s : List ℕ) (m : MarkedJob) (c : ℕ) (five : rule_kind_of s c ≡ 5) where
  -- the limit is compared with the largest load
  asked : (π : Plan) → AsksLeft (rule_on s c).kind (rule_on s c).limit (size_left m (rule_on s c)) (figure_left m (rule_on s c) π)
      ↔ (largest_load m.steps (scope_left m (rule_on s c)) (λ t. m.class (level_of s c) (π t)) ≤ limit_of s c)
  asked π = rw five (λ a. a, λ a. a)

  pub load_asks : (π : Plan)
      → AsksLeft (rule_on s c).kind (rule_on s c).limit (size_left m (rule_on s c)) (figure_left m (rule_on s c) π) ↔ NoneOverloaded s m c (level_of s c) π
  load_asks π =
      let scope = scope_left m (rule_on s c) in
      let class : ℕ → ℕ = λ t. m.class (level_of s c) (π t) in (
        λ a v. omega (arith, (asked π).0 a, load_le_largest m.steps scope class v),
        λ h. (asked π).1 (largest_load-le m.steps scope class (limit_of s c) (λ t l i. h (class t))),
      )

pub load_rules : LoadRules
load_rules s people steps rules e i l five =
    let c = get_or rules i 0 in
    let t = rule_fields s c (length steps) (rule_card s people steps rules (length s / 16) (sheet_passes s people steps rules e).rest i l) in
    limit_cases (rule_kind_of s c) (limit_of s c) (scope_size (scope_of s c)) t.0
    (λ a b d f. absurd (omega arith))
    (λ a b d f g. record { scope = d; limit_from = f; limit_to = g; asks = load_asks s (marked_in s people steps rules) c five })

-- ---- what follows

module _ (s people steps rules : List ℕ) (e : read_sheet s ≡ job people steps rules) where
  -- people of one class of a level are of one class of every level above
  above : (q q' p p' : ℕ) → 1 ≤ q → q ≤ q' → q' ≤ levels_in s → p < length people → p' < length people
      → class_on s people q' p ≡ class_on s people q' p' → class_on s people q p ≡ class_on s people q p'
  above q q' p p' a b l m m' shared =
      let up = class_same s people steps rules e in
      sym (up q p m)
      ∙ refines (instance_in s people steps rules)
      (instance_nested (length people) (length (steps_left s steps)) (length rules) (job_left s people steps rules) (readable_in s people steps rules e))
      q q' a b (omega (arith, levels_left s people steps rules)) p p' m m' (up q' p m ∙ shared ∙ sym (up q' p' m'))
      ∙ up q p' m'

  module _ (π : Plan) (v : ValidLeft (marked_in s people steps rules) (permitted_in s people) π) (i : ℕ) (l : i < length rules)
      (five : rule_kind_of s (get_or rules i 0) ≡ 5) where
    abbrev m : MarkedJob
    m = marked_in s people steps rules

    abbrev c : ℕ
    c = get_or rules i 0

    abbrev scope : ℕ → Bool
    scope = scope_left m (rule_on s c)

    light : largest_load (length steps) scope (λ t. m.class (level_of s c) (π t)) ≤ limit_of s c
    light = (asked s m c five π).0 (v.eligible i l)

    -- a step left in the scope is given one of the people
    given : (t : ℕ) → t < length steps → scope t ≡ true → π t < length people
    given t b h = v.within t b (not-true _ (and_right (has_bit (scope_of s c) t) _ h))

    level_from : 1 ≤ level_of s c
    level_from = (rule_fields s c (length steps) (rule_card s people steps rules (length s / 16) (sheet_passes s people steps rules e).rest i l)).1

    spread : Spread s m c π
    spread =
        record {
          finer = λ q a b u.
              omega (
                arith,
                light,
                load_le_largest (length steps) scope (λ t. m.class q (π t)) u,
                load_finer (length steps) scope scope (λ t. m.class (level_of s c) (π t)) (λ t. m.class q (π t)) (λ t x h. h)
                    (λ x y k k' h h' shared. above (level_of s c) q (π x) (π y) level_from a b (given x k h) (given y k' h') shared),
              );
          classes = fewest-le (size_left m (rule_on s c)) (limit_of s c) _ (count_load (length steps) scope (λ t. m.class (level_of s c) (π t)) (limit_of s c) light);
        }

pub valid_spread : ValidSpread
valid_spread s people steps rules e π v i l five = spread s people steps rules e π v i l five

-- ---- the other kinds

-- a number that is not 5 is at most 4 exactly where it is at most 5
not_five : (kind : ℕ) → (kind ≡ 5 → ⊥) → leb kind 5 ≡ leb kind 4
not_five kind d =
    by_cases (leb kind 4)
    (λ t. let l = leb-true kind 4 t in le-leb kind 5 (omega arith) ∙ sym t)
    (λ t. let l = leb-false kind 4 t in lt-leb kind 5 (omega (arith, d)) ∙ sym t)

pub other_kinds : OtherKinds
unfolding limit_ok
other_kinds =
    record {
      tested = λ kind limit size d. rw (not_five kind d) refl;
      looks = λ kind d n scope c. looks kind d n scope c;
    }
  where
    looks : (kind : Kind) → (kind ≡ maxLoad → ⊥) → (n : ℕ) (scope : ℕ → Bool) (c : ℕ → ℕ) → figure_of kind n scope c ≡ distinct n scope c
    looks same d n scope c = refl
    looks different d n scope c = refl
    looks at_most d n scope c = refl
    looks at_least d n scope c = refl
    looks maxLoad d n scope c = absurd (d refl)
