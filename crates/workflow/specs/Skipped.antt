-- Steps that an instrument does not need, as Ask 5 of paper 02 has them: a job as its sheet has it, some of its steps skipped, and its valid plans.
-- Steps are numbered along the whole chain. Assumes nothing.
use Rattle.std.specs.Prelude.{Bool, true, false, not, ◌&&◌, ◌⊎◌, ◌≡◌, ℕ, ◌<◌, min}
use Rattle.bits.specs.Below.{count}
use Rattle.workflow.specs.Problem.{Kind, same, different, at_most, at_least, maxLoad, May, Plan, Asks, figure_of}

-- a rule as its card has it
pub record CardRule : Type 0 where
  pub kind : Kind
  pub level : ℕ
  pub limit : ℕ
  pub scope : ℕ → Bool

-- a job as its sheet has it: "Byte 1 of a step card may be 1, skipped."
pub record MarkedJob : Type 0 where
  pub steps : ℕ
  pub skipped : ℕ → Bool
  pub people : ℕ
  -- of a level and a person
  pub class : ℕ → ℕ → ℕ
  pub rules : ℕ
  pub rule : ℕ → CardRule

-- "Scopes lose their skipped steps."
abbrev pub scope_left : MarkedJob → CardRule → ℕ → Bool
scope_left m r s = r.scope s && not (m.skipped s)

-- "the steps left"
abbrev pub size_left : MarkedJob → CardRule → ℕ
size_left m r = count m.steps (scope_left m r)

-- the figure that its kind looks at, over the steps left in its scope: "Skipped steps don't count."
abbrev pub figure_left : MarkedJob → CardRule → Plan → ℕ
figure_left m r π = figure_of r.kind m.steps (scope_left m r) (λ s. m.class r.level (π s))

-- "A same or different rule left with fewer than two steps is met; an at-least limit becomes the smaller of itself and the steps left." At most is as
-- it was, and so is a limit on the load. Of kind, limit, steps left and figure
abbrev pub AsksLeft : Kind → ℕ → ℕ → ℕ → Type 0
AsksLeft same limit left n = (left < 2) ⊎ Asks same limit n
AsksLeft different limit left n = (left < 2) ⊎ Asks different limit n
AsksLeft at_most limit left n = Asks at_most limit n
AsksLeft at_least limit left n = Asks at_least (min limit left) n
AsksLeft maxLoad limit left n = Asks maxLoad limit n

-- "A valid plan, in all that we promise, is from here on one over the remaining steps." Skipped steps get nobody: what π gives them does not matter
pub record ValidLeft (m : MarkedJob) (may : May) (π : Plan) : Type 0 where
  pub within : (s : ℕ) → s < m.steps → m.skipped s ≡ false → π s < m.people
  pub authorised : (s : ℕ) → s < m.steps → m.skipped s ≡ false → may s (π s) ≡ true
  pub eligible : (i : ℕ) → i < m.rules
      → AsksLeft (m.rule i).kind (m.rule i).limit (size_left m (m.rule i)) (figure_left m (m.rule i) π)

-- the job has a valid plan
abbrev pub SatisfiableLeft : MarkedJob → May → Type 0
SatisfiableLeft m may = (π : Plan) × ValidLeft m may π

-- "Plans are compared step by step along the step chain; the earlier person in crew order comes first": along the steps that remain
pub record EarlierLeft (m : MarkedJob) (σ π : Plan) : Type 0 where
  pub at : ℕ
  pub below : at < m.steps
  pub remains : m.skipped at ≡ false
  pub less : σ at < π at
  pub before : (t : ℕ) → t < at → m.skipped t ≡ false → σ t ≡ π t

-- π is valid, and no plan before it is
pub record FirstValidLeft (m : MarkedJob) (may : May) (π : Plan) : Type 0 where
  pub valid : ValidLeft m may π
  pub first : (σ : Plan) → ValidLeft m may σ → EarlierLeft m σ π → ⊥

-- without a skipped step, as paper 01 has it: every step is given one of the people, is permitted, and each rule's figure is what its kind asks for
pub record ValidWhole (m : MarkedJob) (may : May) (π : Plan) : Type 0 where
  pub within : (s : ℕ) → s < m.steps → π s < m.people
  pub authorised : (s : ℕ) → s < m.steps → may s (π s) ≡ true
  pub eligible : (i : ℕ) → i < m.rules
      → Asks (m.rule i).kind (m.rule i).limit (figure_of (m.rule i).kind m.steps (m.rule i).scope (λ s. m.class (m.rule i).level (π s)))
