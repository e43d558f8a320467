-- What the spare call leaves, and what its parts may rest on. Assumes nothing.
use Rattle.std.specs.Prelude.{List, ◌≡◌, ℕ, ◌≤◌}
use Rattle.answer.specs.Bytes.{Outcome}
use Rattle.resiliency.specs.Group.{Sized}
use Rattle.resiliency.specs.declared.Spared.{Spared}
use Rattle.resiliency.specs.declared.Spared.TheVariants.{Unsatisfiable, Capped, Broken}

-- n is the number returned and bs are the bytes of the buffer afterwards
pub record Left (o : Outcome) (n : ℕ) (bs : List ℕ) : Type 0 where
  pub number : n ≡ o.number
  pub bytes : bs ≡ o.bytes

-- a group has a member at least
abbrev pub Groups : Spared → Type 0
Groups Unsatisfiable = Unit {0}
Groups Capped = Unit {0}
Groups (Broken g) = Sized g × (1 ≤ g.size)
