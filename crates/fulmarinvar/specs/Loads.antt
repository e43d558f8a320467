-- Ask 7 of paper 02, no bench overloaded: "Foremen want work spread." What a rule of kind 5 is on a card and what it asks of a plan, and what follows from it; what is
-- printed of it stands in RuleCounts.antt. "Crews and spare counts take kind 5 in like any other rule": all that is promised speaks of valid plans
-- (workflow/specs/Skipped.antt), and these meet the rules of all kinds. proofs/Loads.antt proves it. Assumes nothing.
use Rattle.std.specs.Prelude.{Bool, ◌&&◌, ◌||◌, List, ◌↔◌, ◌≡◌, ℕ, ◌≤◌, ◌<◌, eqb, leb, length, get_or}
use Rattle.card.specs.Fields.{within, levels_in, rule_kind_of, level_of, limit_of, scope_of, scope_size, limit_ok}
use Rattle.sheet.specs.Read.{job, read_sheet}
use Rattle.workflow.specs.Problem.{Kind, maxLoad, Plan, distinct, load_of, figure_of, fewest}
use Rattle.workflow.specs.Skipped.{MarkedJob, scope_left, size_left, figure_left, AsksLeft, ValidLeft}
use Rattle.instance.specs.Marked.{rule_on, marked_in, permitted_in}

-- ---- the rule

-- how many steps of the scope of card c class v of a level holds in a plan: "Skipped steps don't count."
abbrev pub held_at : List ℕ → MarkedJob → ℕ → ℕ → Plan → ℕ → ℕ
held_at s m c level π v = load_of m.steps (scope_left m (rule_on s c)) (λ t. m.class level (π t)) v

-- "no class of the level holds more than the limit of the steps in scope"
abbrev pub NoneOverloaded : List ℕ → MarkedJob → ℕ → ℕ → Plan → Type 0
NoneOverloaded s m c level π = (v : ℕ) → held_at s m c level π v ≤ limit_of s c

-- a rule card of kind 5, in either version
pub record LoadRule (s : List ℕ) (m : MarkedJob) (c : ℕ) : Type 0 where
  -- "two or more steps, limit 1 to that number", as the card has them
  pub scope : 2 ≤ scope_size (scope_of s c)
  pub limit_from : 1 ≤ limit_of s c
  pub limit_to : limit_of s c ≤ scope_size (scope_of s c)
  -- it asks of a plan that no class is overloaded and no more, whatever steps are left
  pub asks : (π : Plan) → AsksLeft (rule_on s c).kind (rule_on s c).limit (size_left m (rule_on s c)) (figure_left m (rule_on s c) π) ↔ NoneOverloaded s m c (level_of s c) π

abbrev pub LoadRules : Type 0
LoadRules = (s people steps rules : List ℕ) → read_sheet s ≡ job people steps rules → (i : ℕ) → i < length rules → rule_kind_of s (get_or rules i 0) ≡ 5
    → LoadRule s (marked_in s people steps rules) (get_or rules i 0)

-- ---- what follows of a valid plan

pub record Spread (s : List ℕ) (m : MarkedJob) (c : ℕ) (π : Plan) : Type 0 where
  -- the limit holds at every finer level too
  pub finer : (q : ℕ) → level_of s c ≤ q → q ≤ levels_in s → NoneOverloaded s m c q π
  -- over n remaining steps with limit l there are at least n / l classes, rounded up
  pub classes : fewest (size_left m (rule_on s c)) (limit_of s c) ≤ distinct m.steps (scope_left m (rule_on s c)) (λ t. m.class (level_of s c) (π t))

abbrev pub ValidSpread : Type 0
ValidSpread = (s people steps rules : List ℕ) → read_sheet s ≡ job people steps rules → (π : Plan) → ValidLeft (marked_in s people steps rules) (permitted_in s people) π
    → (i : ℕ) → i < length rules → rule_kind_of s (get_or rules i 0) ≡ 5 → Spread s (marked_in s people steps rules) (get_or rules i 0) π

-- ---- rules of the other kinds are tested and judged as they were

-- "rule kind 1 to 4", before kind 5 was one
abbrev pub limit_ok_before : ℕ → ℕ → ℕ → Bool
limit_ok_before kind limit size =
    (within 1 2 kind && eqb size 2 && eqb limit 0)
    || (within 3 4 kind && leb 2 size && within 1 size limit)

pub record OtherKinds : Type 0 where
  -- of what the reader tests, the limit of kind 5 alone is tested otherwise: kind 6 is still none
  pub tested : (kind limit size : ℕ) → (kind ≡ 5 → ⊥) → limit_ok kind limit size ≡ limit_ok_before kind limit size
  -- and every other kind looks at the number of different classes
  pub looks : (kind : Kind) → (kind ≡ maxLoad → ⊥) → (n : ℕ) (scope : ℕ → Bool) (c : ℕ → ℕ) → figure_of kind n scope c ≡ distinct n scope c
