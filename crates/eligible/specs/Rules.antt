-- What eligibility is asked of: a pattern of the placed steps and the rules of a job, as arrays. Assumes nothing.
use Rattle.std.specs.Prelude.{true, List, ◌≡◌, ℕ, ◌^◌, ◌<◌, length, get_or}
use Rattle.bits.specs.Word.{has_bit}
use Rattle.pattern.specs.Rule.{level_in, scope_in}
use Rattle.pattern.specs.Tables.{label_in, rule_in}
use Rattle.pattern.specs.Eligible.{Possible}
use Rattle.eligible.specs.Labels.{LabelsReady}

-- the rules, and labels at the level of each rule of the mask
pub record RulesReady (among : ℕ) (rule : List ℕ) (placed : ℕ) (label : List ℕ) : Type 0 where
  pub sized : length rule ≡ 64
  pub marked : (i : ℕ) → has_bit among i ≡ true → LabelsReady placed (level_in (get_or rule i 0)) label

-- what holds for every number of steps that the scopes of the mask's rules are of
abbrev pub ForSteps : ℕ → List ℕ → (ℕ → Type 0) → Type 0
ForSteps among rule P = (steps : ℕ) → ((i : ℕ) → has_bit among i ≡ true → scope_in (get_or rule i 0) < 2 ^ steps) → P steps

-- every rule of the mask can still be met
abbrev pub Among : ℕ → ℕ → List ℕ → ℕ → List ℕ → Type 0
Among steps among rule placed label = (i : ℕ) → has_bit among i ≡ true → Possible steps (has_bit placed) (label_in label) (rule_in rule i)
