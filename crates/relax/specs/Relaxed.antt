-- A job relaxed to one level. Assumes nothing.
use Rattle.std.specs.Prelude.{List, ◌≡◌, ℕ, ◌^◌, ◌≤◌, ◌<◌, length, get_or}
use Rattle.bits.specs.Below.{count}
use Rattle.bits.specs.Word.{has_bit}
use Rattle.bits.specs.Sizes.{most_levels, class_entries}
use Rattle.workflow.specs.Problem.{May, Plan, Valid, InBounds, RuleOk, distinct, largest_load}
use Rattle.pattern.specs.declared.Size.{Size}
use Rattle.pattern.specs.Given.{Classed}
use Rattle.pattern.specs.Rule.{level_in, least_in, most_in, scope_in, unpacked}
use Rattle.pattern.specs.Tables.{class_in, job_in}
use Rattle.relax.specs.Bound.{Nests}

-- a rule of a job, and a level to carry it to
pub record Carriable (size : Size) (class : List ℕ) (r q : ℕ) : Type 0 where
  pub few_steps : size.steps ≤ 12
  pub few_people : size.people ≤ 64
  pub few_levels : size.levels ≤ most_levels
  pub classes : length class ≡ class_entries
  pub nests : (a b : ℕ) → 1 ≤ a → a ≤ b → b ≤ size.levels → Nests size.people (class_in class a) (class_in class b)
  pub scope : scope_in r < 2 ^ size.steps
  pub rule_ok : RuleOk size.steps size.levels (unpacked r)
  pub from : 1 ≤ q
  pub to : q ≤ size.levels

-- the count of a rule's scope at a level
abbrev pub count_at_lem : Size → List ℕ → ℕ → ℕ → Plan → ℕ
count_at_lem size class r q π = distinct size.steps (has_bit (scope_in r)) (λ s. class_in class q (π s))

-- the largest load of a class of a level, over the same scope
abbrev pub load_at : Size → List ℕ → ℕ → ℕ → Plan → ℕ
load_at size class r q π = largest_load size.steps (has_bit (scope_in r)) (λ s. class_in class q (π s))

-- what rule r says of level q: a rule r' of that level for the same scope, which every plan meets that meets r
pub record Follows (size : Size) (class : List ℕ) (q r r' : ℕ) : Type 0 where
  pub level : level_in r' ≡ q
  pub scope : scope_in r' ≡ scope_in r
  pub reachable : least_in r' ≤ count size.steps (has_bit (scope_in r))
  pub bounded : most_in r' ≤ size.steps
  pub met : (π : Plan) → ((s : ℕ) → s < size.steps → π s < size.people)
      → InBounds (unpacked r) (count_at_lem size class r (level_in r) π) (load_at size class r (level_in r) π)
      → InBounds (unpacked r') (count_at_lem size class r q π) (load_at size class r q π)

-- the first n rules are carried to level q
pub record Carries (size : Size) (n : ℕ) (class rule : List ℕ) (q : ℕ) (rule' : List ℕ) : Type 0 where
  pub sized : length rule' ≡ 64
  pub follows : (i : ℕ) → i < n → Follows size class q (get_or rule i 0) (get_or rule' i 0)

-- every valid plan is a valid plan of the relaxed job
pub record Relaxes (size : Size) (class rule rule' : List ℕ) : Type 0 where
  pub given : Classed size class rule'
  pub valid : (may : May) (π : Plan) → Valid (job_in size class rule) may π → Valid (job_in size class rule') may π
