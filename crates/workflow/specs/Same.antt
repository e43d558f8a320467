-- Two jobs with the same plans. Assumes nothing.
use Rattle.std.specs.Prelude.{◌↔◌, ◌≡◌, ℕ, ◌<◌}
use Rattle.workflow.specs.Problem.{Job, May, Plan, Valid}

-- whoever is permitted what, the same plans are valid
pub record SamePlans (j j' : Job) : Type 0 where
  pub steps : j'.steps ≡ j.steps
  pub people : j'.people ≡ j.people
  pub valid : (may : May) (π : Plan) → Valid j may π ↔ Valid j' may π

-- the classes and the levels of a job under other numbers: each rule sees two people in one class exactly where it did
pub record Renamed (j j' : Job) : Type 0 where
  pub steps : j'.steps ≡ j.steps
  pub people : j'.people ≡ j.people
  pub rules : j'.rules ≡ j.rules
  pub least : (i : ℕ) → i < j.rules → (j'.rule i).least ≡ (j.rule i).least
  pub most : (i : ℕ) → i < j.rules → (j'.rule i).most ≡ (j.rule i).most
  pub load : (i : ℕ) → i < j.rules → (j'.rule i).load ≡ (j.rule i).load
  pub scope : (i s : ℕ) → i < j.rules → (j'.rule i).scope s ≡ (j.rule i).scope s
  pub classes : (i p p' : ℕ) → i < j.rules → p < j.people → p' < j.people
      → (j.class (j.rule i).level p ≡ j.class (j.rule i).level p') ↔ (j'.class (j'.rule i).level p ≡ j'.class (j'.rule i).level p')
