-- The job of the remaining steps alone. Assumes nothing.
use Rattle.std.specs.Prelude.{false, ◌≡◌, ℕ, ◌<◌, min}
use Rattle.bits.specs.Below.{count}
use Rattle.workflow.specs.Problem.{Job, May, Plan, least_of, most_of, heaviest_of}
use Rattle.workflow.specs.Skipped.{MarkedJob}

-- what leaving out the skipped steps of m leaves: the job j, whose step k is step `at k` of m
pub record Leaves (m : MarkedJob) (j : Job) (at : ℕ → ℕ) : Type 0 where
  -- the steps that remain, each once, in chain order
  pub below : (k : ℕ) → k < j.steps → at k < m.steps
  pub remains : (k : ℕ) → k < j.steps → m.skipped (at k) ≡ false
  pub ordered : (k l : ℕ) → k < l → l < j.steps → at k < at l
  pub every : (s : ℕ) → s < m.steps → m.skipped s ≡ false → (k : ℕ) × (k < j.steps) × (at k ≡ s)
  pub people : j.people ≡ m.people
  -- the rules, each with its scope, and the classes that they see
  pub rules : j.rules ≡ m.rules
  pub scope : (i k : ℕ) → i < m.rules → k < j.steps → (j.rule i).scope k ≡ (m.rule i).scope (at k)
  pub least : (i : ℕ) → i < m.rules
      → (j.rule i).least ≡ min (least_of (m.rule i).kind (m.rule i).limit (count j.steps (j.rule i).scope)) (count j.steps (j.rule i).scope)
  pub most : (i : ℕ) → i < m.rules → (j.rule i).most ≡ min (most_of (m.rule i).kind (m.rule i).limit j.steps) j.steps
  pub load : (i : ℕ) → i < m.rules → (j.rule i).load ≡ min (heaviest_of (m.rule i).kind (m.rule i).limit j.steps) j.steps
  pub class : (i p : ℕ) → i < m.rules → p < m.people → j.class (j.rule i).level p ≡ m.class (m.rule i).level p

-- a plan, and who may do what, along the remaining steps
abbrev pub plan_left : (ℕ → ℕ) → Plan → Plan
plan_left at π k = π (at k)

abbrev pub may_left : (ℕ → ℕ) → May → May
may_left at may k = may (at k)
