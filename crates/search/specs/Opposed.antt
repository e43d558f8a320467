-- Two rules that exclude each other. Assumes nothing.
use Rattle.std.specs.Prelude.{not, ◌&&◌, List, ◌≡◌, ℕ, ◌+◌, ◌^◌, ◌<◌, get_or}
use Rattle.bits.specs.Below.{count}
use Rattle.bits.specs.Word.{has_bit}
use Rattle.pattern.specs.Rule.{level_in, least_in, most_in, scope_in}

-- the classes that rule `upper` leaves to its scope, and one for each step of the scope of rule `lower` outside it, are fewer than that rule
-- asks for at the same level
pub record Opposed (steps rules : ℕ) (rule : List ℕ) : Type 0 where
  pub upper : ℕ
  pub lower : ℕ
  pub upper_below : upper < rules
  pub lower_below : lower < rules
  pub same : level_in (get_or rule upper 0) ≡ level_in (get_or rule lower 0)
  pub fewer : most_in (get_or rule upper 0) + count steps (λ s. has_bit (scope_in (get_or rule lower 0)) s && not (has_bit (scope_in (get_or rule upper 0)) s))
      < least_in (get_or rule lower 0)

-- so it is for every number of steps that the scopes of the rules are of
abbrev pub OpposedFor : ℕ → List ℕ → Type 0
OpposedFor rules rule = (steps : ℕ) → ((i : ℕ) → i < rules → scope_in (get_or rule i 0) < 2 ^ steps) → Opposed steps rules rule
