-- The number that a call returns. Assumes nothing.
use Rattle.std.specs.Prelude.{Result, Ok, Err, ℕ, ◌+◌, ◌*◌}
use Rattle.card.specs.Refusals.{fault_number}
use Rattle.card.specs.declared.refusal.Refusal.{Refusal}

-- "The returned number is 0, or refusal × 256 + card."
abbrev pub refusal_number : ℕ → ℕ → ℕ
refusal_number refusal card = refusal * 256 + card

-- of a call's answer
abbrev pub number_of : Result (Unit {0}) Refusal → ℕ
number_of (Ok done) = 0
number_of (Err r) = refusal_number (fault_number r.fault) r.card
