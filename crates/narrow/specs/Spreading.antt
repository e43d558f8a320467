-- The classes that the open steps of a rule can add; c gives the class of each person. Assumes nothing.
use Rattle.std.specs.Prelude.{true, false, List, ◌≡◌, ℕ, ◌<◌}
use Rattle.bits.specs.Below.{count}
use Rattle.bits.specs.Word.{has_bit}
use Rattle.pattern.specs.Eligible.{CanBeMet}
use Rattle.pattern.specs.Rule.{unpacked}
use Rattle.pattern.specs.Tables.{may_in}

-- r has all that the sets of the steps have, but for those of `left`
pub record AllOf (steps : ℕ) (sets : List ℕ) (left r : ℕ) : Type 0 where
  pub has : (s p : ℕ) → has_bit steps s ≡ true → has_bit left s ≡ false → may_in sets s p ≡ true → has_bit r p ≡ true

-- somebody of r has the class v
abbrev pub SomebodyOf : (ℕ → ℕ) → ℕ → ℕ → Type 0
SomebodyOf c r v = (q : ℕ) × (q < 64) × (has_bit r q ≡ true) × (c q ≡ v)

-- r has somebody of each class of a domain, but for those of `left`
pub record Firsts (people : ℕ) (c : ℕ → ℕ) (domain left r : ℕ) : Type 0 where
  pub few : (p : ℕ) → has_bit r p ≡ true → p < 64
  pub each : (p : ℕ) → p < people → has_bit domain p ≡ true → has_bit left p ≡ false → SomebodyOf c r (c p)

-- the people of the steps' domains who are not of `used` have at most so many classes: each is that of one of `some`
pub record Spread (people : ℕ) (c : ℕ → ℕ) (steps used : ℕ) (dom : List ℕ) (number : ℕ) : Type 0 where
  pub some : ℕ
  pub its_number : number ≡ count 64 (has_bit some)
  pub each : (s p : ℕ) → has_bit steps s ≡ true → p < people → may_in dom s p ≡ true → has_bit used p ≡ false → SomebodyOf c some (c p)

-- a rule cannot be met with the classes that are had and those that the steps can add
pub record Short (people : ℕ) (c : ℕ → ℕ) (rule steps used : ℕ) (dom : List ℕ) (groups : ℕ) : Type 0 where
  pub number : ℕ
  pub spread : Spread people c steps used dom number
  pub unmet : CanBeMet (unpacked rule) groups number → ⊥
