-- What a yes or no says. Assumes nothing.
use Rattle.std.specs.Prelude.{Bool, true, false}

abbrev pub Says : Bool → Type 0 → Type 0
Says true A = A
Says false A = A → ⊥
