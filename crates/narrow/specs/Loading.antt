-- How many steps of a rule's scope a class holds, as far as the domains say. Assumes nothing.
use Rattle.std.specs.Prelude.{true, false, List, ◌≡◌, ℕ, ◌^◌, ◌≤◌, ◌<◌}
use Rattle.bits.specs.Word.{has_bit}
use Rattle.workflow.specs.Problem.{Job, Plan}
use Rattle.pattern.specs.Rule.{level_in, scope_in, unpacked}
use Rattle.pattern.specs.Tables.{may_in}
use Rattle.eligible.specs.Classes.{ForJobs}
use Rattle.narrow.specs.Domains.{Takes, Revised}

-- held has some steps of a scope, whose people are all of the mask
pub record Within (mask scope : ℕ) (dom : List ℕ) (held : ℕ) : Type 0 where
  pub part : (s : ℕ) → has_bit held s ≡ true → has_bit scope s ≡ true
  pub inside : (s p : ℕ) → has_bit held s ≡ true → may_in dom s p ≡ true → has_bit mask p ≡ true

-- a job that can have the rule r; and whatever plan of the domains it has, the people of the mask are of one class of the rule's level
pub record OneClass (j : Job) (r mask : ℕ) (dom : List ℕ) : Type 0 where
  pub few_steps : j.steps ≤ 12
  pub few_people : j.people ≤ 64
  pub scoped : scope_in r < 2 ^ j.steps
  pub one : (π : Plan) → Takes j.steps j.people dom π
      → (v : ℕ) × ((p : ℕ) → p < j.people → has_bit mask p ≡ true → j.class (level_in r) p ≡ v)

-- the classes of all steps but those of `left` are closed where they must be, without losing a plan that meets the rule
pub record Closing (crowd : List ℕ) (r : ℕ) (dom dom' : List ℕ) (left changed : ℕ) : Type 0 where
  pub rest : (s : ℕ) → has_bit left s ≡ true → has_bit (scope_in r) s ≡ true
  pub small : changed < 4096
  pub revised : ForJobs crowd r (λ j. Revised j (unpacked r) dom dom' false)
