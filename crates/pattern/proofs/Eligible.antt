-- What the groups of the placed steps say of a rule's count and of its loads. Assumes nothing.
use mathlib.Core.Bool.{Bool, true, not, ◌&&◌}
use mathlib.Core.Logic.{◌↔◌}
use mathlib.Core.Path.{◌≡◌, refl, sym}
use Prim.Native.Nat.{ℕ, ◌+◌, ◌≤◌, ◌<◌}
use native.Mathlib.Omega.{arith}
use borrow.Author.Tests.{not-true}
use Rattle.bits.proofs.Below.{true-false, and_left, and_right}
use Rattle.bits.proofs.Counting.{and_of, is_false, count_none}
use Rattle.workflow.specs.Problem.{Rule, Job, Plan, distinct, largest_load, class_count, class_load, InBounds, Met, RuleOk}
use Rattle.workflow.specs.Independent.{Alike, classes_of}
use Rattle.workflow.proofs.Counts.{distinct_alike}
use Rattle.workflow.proofs.Loads.{load_alike, load_scope_mono}
use Rattle.workflow.proofs.Occurs.{distinct_scope_mono, distinct_scope_split}
use Rattle.workflow.proofs.Valid.{bounds_same}
use Rattle.pattern.specs.Pattern.{Label, Has}
use Rattle.pattern.specs.Eligible.{group_count, group_load, open_count, Possible}
use Rattle.pattern.proofs.Sets.{alike_part, alike_sym}

module _ (j : Job) (placed : ℕ → Bool) (label : Label) (π : Plan) (has : Has j placed label π) (r : Rule) (ok : RuleOk j.steps j.levels r) where
  -- the placed steps of the scope share a group where they share a class
  alike : Alike j.steps (λ s. r.scope s && placed s) (label r.level) (classes_of j r.level π)
  alike =
      alike_sym j.steps _ _ _
      (alike_part j.steps (λ s. r.scope s && placed s) placed (classes_of j r.level π) (label r.level)
      (λ s l i. and_right (r.scope s) _ i) (has.alike r.level ok.from ok.to))

  -- so the groups are as many as the classes of the placed steps
  pub group_count_lem : group_count j.steps placed label r ≡ distinct j.steps (λ s. r.scope s && placed s) (classes_of j r.level π)
  group_count_lem = distinct_alike j.steps (λ s. r.scope s && placed s) _ _ alike

  -- and hold as many steps
  group_load_lem : group_load j.steps placed label r ≡ largest_load j.steps (λ s. r.scope s && placed s) (classes_of j r.level π)
  group_load_lem = load_alike j.steps (λ s. r.scope s && placed s) _ _ alike

  -- so no class holds fewer than its group
  pub load_least : group_load j.steps placed label r ≤ class_load j r π
  load_least =
      omega (
        arith,
        group_load_lem,
        load_scope_mono j.steps (classes_of j r.level π) (λ s. r.scope s && placed s) r.scope (λ s l i. and_left (r.scope s) _ i),
      )

  -- so the count is at least their number
  pub count_least : group_count j.steps placed label r ≤ class_count j r π
  count_least =
      omega (
        arith,
        group_count_lem,
        distinct_scope_mono j.steps (classes_of j r.level π) (λ s. r.scope s && placed s) r.scope (λ s l i. and_left (r.scope s) _ i),
      )

  -- and at most that and one for each open step
  pub count_most : class_count j r π ≤ group_count j.steps placed label r + open_count j.steps placed r
  count_most =
      omega (
        arith,
        group_count_lem,
        distinct_scope_split j.steps (classes_of j r.level π) r.scope (λ s. r.scope s && placed s) (λ s. r.scope s && not (placed s))
            (λ s l i k. and_of (r.scope s) _ i (rw (is_false (placed s) (λ t. true-false (and_of (r.scope s) _ i t) k)) refl)),
      )

  -- a rule that is met was possible
  pub met_possible : Met j r π → Possible j.steps placed label r
  met_possible m =
      record {
        counted = record { most = omega (arith, m.most, count_least); least = omega (arith, m.least, count_most) };
        load = omega (arith, m.load, load_least);
      }

  -- where the scope is placed, the groups are the count
  pub count_exact : ((s : ℕ) → s < j.steps → r.scope s ≡ true → placed s ≡ true) → group_count j.steps placed label r ≡ class_count j r π
  count_exact all =
      omega (
        arith,
        count_least,
        count_most,
        count_none j.steps (λ s. r.scope s && not (placed s))
            (λ s l. is_false _
            (λ t. true-false (all s l (and_left (r.scope s) _ t)) (not-true (placed s) (and_right (r.scope s) _ t)))),
      )

  -- and hold what the classes hold
  pub load_exact : ((s : ℕ) → s < j.steps → r.scope s ≡ true → placed s ≡ true) → group_load j.steps placed label r ≡ class_load j r π
  load_exact all =
      omega (
        arith,
        load_least,
        group_load_lem,
        load_scope_mono j.steps (classes_of j r.level π) r.scope (λ s. r.scope s && placed s) (λ s l i. and_of (r.scope s) _ i (all s l i)),
      )

  -- and the rule is met exactly where they lie within its bounds
  pub met_exact : ((s : ℕ) → s < j.steps → r.scope s ≡ true → placed s ≡ true)
      → Met j r π ↔ InBounds r (group_count j.steps placed label r) (group_load j.steps placed label r)
  met_exact all = (
    λ m. bounds_same r (sym (count_exact all)) (sym (load_exact all)) m,
    λ i. bounds_same r (count_exact all) (load_exact all) i,
  )

-- whether a rule over placed steps is met depends on the pattern alone
pub met_pattern : (j : Job) (placed : ℕ → Bool) (label : Label) (π σ : Plan) → Has j placed label π → Has j placed label σ
    → (r : Rule) → RuleOk j.steps j.levels r → ((s : ℕ) → s < j.steps → r.scope s ≡ true → placed s ≡ true) → Met j r π → Met j r σ
met_pattern j placed label π σ h k r ok all m = (met_exact j placed label σ k r ok all).1 ((met_exact j placed label π h r ok all).0 m)
