-- What a search over people comes to. Assumes nothing.
use Rattle.std.specs.Prelude.{Result, Ok, Err, Option, Some, None, Bool, true, false, List, ◌≡◌, ℕ, ◌*◌, ◌%◌, ◌^◌, ◌<◌, length, set}
use Rattle.bits.specs.Says.{Says}
use Rattle.bits.specs.Word.{has_bit}
use Rattle.workflow.specs.Problem.{Job, May, Plan, OfPeople, Met, Valid, Satisfiable}
use Rattle.workflow.specs.First.{Earlier}
use Rattle.pattern.specs.Tables.{may_in, plan_in}
use Rattle.backtrack.specs.declared.Tired.{Tired}

-- whether a plan that gives each step one of the people meets the first n rules
abbrev pub MeetsAll : Job → ℕ → Plan → Bool → Type 0
MeetsAll j n π r = OfPeople j π → Says r ((i : ℕ) → i < n → Met j (j.rule i) π)

-- step s is left to person p alone
abbrev pub pinned : List ℕ → ℕ → ℕ → List ℕ
pinned dom s p = set dom s (1 * 2 ^ p % 18446744073709551616)

-- each step but those of `rest` has one person at most
pub record Alone (steps rest : ℕ) (dom : List ℕ) : Type 0 where
  pub below : (t : ℕ) → has_bit rest t ≡ true → t < steps
  pub one : (t p p' : ℕ) → t < steps → has_bit rest t ≡ false → may_in dom t p ≡ true → may_in dom t p' ≡ true → p ≡ p'

-- each step but s and those of `rest` has one person at most
pub record Others (steps rest s : ℕ) (dom : List ℕ) : Type 0 where
  pub below : (t : ℕ) → has_bit rest t ≡ true → t < steps
  pub one : (t p p' : ℕ) → t < steps → (t ≡ s → ⊥) → has_bit rest t ≡ false → may_in dom t p ≡ true → may_in dom t p' ≡ true → p ≡ p'

-- the plan takes the first of each domain of the steps before n
pub record TakesFirst (people n : ℕ) (dom plan : List ℕ) : Type 0 where
  pub sized : length plan ≡ 12
  pub within : (s : ℕ) → s < n → plan_in plan s < people
  pub among : (s : ℕ) → s < n → may_in dom s (plan_in plan s) ≡ true

-- a valid plan, and in order the first
pub record Discovery (ordered : Bool) (j : Job) (may : May) (π : Plan) : Type 0 where
  pub valid : Valid j may π
  pub first : ordered ≡ true → (σ : Plan) → Valid j may σ → Earlier j.steps σ π → ⊥

-- what a search within domains comes to: a plan with a place for each of 12 steps, or that there is none; nothing is said where it gave up
unfoldable pub Trial : Bool → Job → List ℕ → Result (Option (List ℕ)) Tired → Type 0
Trial ordered j dom (Ok (Some plan)) = (length plan ≡ 12) × Discovery ordered j (may_in dom) (plan_in plan)
Trial ordered j dom (Ok None) = Satisfiable j (may_in dom) → ⊥
Trial ordered j dom (Err _) = Unit {0}
