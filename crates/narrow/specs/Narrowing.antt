-- How the open steps of a rule are left fewer people. Assumes nothing.
use Rattle.std.specs.Prelude.{Bool, true, false, List, ◌⊎◌, ◌≡◌, ℕ, ◌+◌, ◌<◌}
use Rattle.bits.specs.Word.{has_bit}
use Rattle.pattern.specs.Eligible.{CanBeMet}
use Rattle.pattern.specs.Rule.{least_in, most_in, unpacked}
use Rattle.pattern.specs.Tables.{may_in}
use Rattle.narrow.specs.Domains.{Fewer}
use Rattle.narrow.specs.Parting.{Limited}
use Rattle.narrow.specs.Spreading.{Short}

-- p shares a class with somebody of the domain of s
abbrev pub SharesWith : ℕ → (ℕ → ℕ) → List ℕ → ℕ → ℕ → Type 0
SharesWith people c dom s p = (p' : ℕ) × (p' < people) × (may_in dom s p' ≡ true) × (c p' ≡ c p)

-- r has everybody who does so for each of the steps, but for those of `left`
abbrev pub Common : ℕ → (ℕ → ℕ) → ℕ → List ℕ → ℕ → ℕ → Type 0
Common people c steps dom left r = (p : ℕ) → p < people
    → ((s : ℕ) → has_bit steps s ≡ true → has_bit left s ≡ false → SharesWith people c dom s p) → has_bit r p ≡ true

-- r has everybody of whom a rule asks no more than this: at its upper end to be of the classes used, at its lower end not to be
abbrev pub AskedOnly : ℕ → ℕ → ℕ → ℕ → ℕ → ℕ → Type 0
AskedOnly used groups wide lowest highest r = (p : ℕ) → p < 64 → (groups ≡ highest → has_bit used p ≡ true)
    → (groups + wide ≡ lowest → has_bit used p ≡ false) → has_bit r p ≡ true

-- the steps but those of `left` have only such people now, and those of `changed` fewer than before
pub record Restricting (steps people : ℕ) (dom dom' : List ℕ) (left changed : ℕ) : Type 0 where
  pub fewer : Fewer dom dom'
  pub keeps : (s p : ℕ) → may_in dom s p ≡ true → (has_bit steps s ≡ true → has_bit people p ≡ true) → may_in dom' s p ≡ true
  pub rest : (s : ℕ) → has_bit left s ≡ true → has_bit steps s ≡ true
  pub among : (s : ℕ) → has_bit changed s ≡ true → has_bit steps s ≡ true

-- and where it fails, one of the steps has nobody left
pub record Restricted (steps people : ℕ) (dom dom' : List ℕ) (failed : Bool) (changed : ℕ) : Type 0 where
  pub done : Restricting steps people dom dom' 0 changed
  pub lost : failed ≡ true → (s : ℕ) × (has_bit steps s ≡ true) × ((p : ℕ) → may_in dom s p ≡ true → has_bit people p ≡ true → ⊥)

-- no plan can meet a rule: by its count so far and the open steps, or because these can add too few classes
abbrev pub Hopeless : ℕ → (ℕ → ℕ) → ℕ → ℕ → ℕ → List ℕ → ℕ → ℕ → Type 0
Hopeless people c rule steps used dom groups wide =
    (CanBeMet (unpacked rule) groups wide → ⊥) ⊎ Short people c rule steps used dom groups

-- r has everybody whom a rule leaves to its open steps: those who can share the one class, those whom the upper limit leaves, or those of
-- whom its two ends ask no more
abbrev pub Allowed : ℕ → (ℕ → ℕ) → ℕ → ℕ → ℕ → List ℕ → ℕ → ℕ → ℕ → Type 0
Allowed people c rule steps used dom groups wide r =
    ((most_in rule ≡ 1) × Common people c steps dom 0 r)
    ⊎ (Limited people c steps used dom groups (most_in rule) r ⊎ AskedOnly used groups wide (least_in rule) (most_in rule) r)
