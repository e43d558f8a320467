-- A rule as one number holds it: scope, level, least and greatest count, greatest load. Assumes nothing.
use Rattle.std.specs.Prelude.{◌≡◌, ℕ, ◌/◌, ◌%◌}
use Rattle.bits.specs.Word.{has_bit}
use Rattle.workflow.specs.Problem.{Rule}

-- 16 bits for the mask of the scope, then four each for level, least and greatest count, and greatest load
unfoldable pub scope_in : ℕ → ℕ
scope_in r = r % 65536

unfoldable pub level_in : ℕ → ℕ
level_in r = r / 65536 % 16

unfoldable pub least_in : ℕ → ℕ
least_in r = r / 1048576 % 16

unfoldable pub most_in : ℕ → ℕ
most_in r = r / 16777216 % 16

unfoldable pub load_in : ℕ → ℕ
load_in r = r / 268435456 % 16

-- the rule that a number holds
abbrev pub unpacked : ℕ → Rule
unpacked r = record { level = level_in r; least = least_in r; most = most_in r; load = load_in r; scope = has_bit (scope_in r) }

-- the number holds these
pub record Packed (level least most load scope r : ℕ) : Type 0 where
  pub its_level : level_in r ≡ level
  pub its_least : least_in r ≡ least
  pub its_most : most_in r ≡ most
  pub its_load : load_in r ≡ load
  pub its_scope : scope_in r ≡ scope
