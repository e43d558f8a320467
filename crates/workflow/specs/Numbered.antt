-- Rules as arrays of numbers hold them. Assumes nothing.
use Rattle.std.specs.Prelude.{List, ℕ, zero, suc, get_or}
use Rattle.bits.specs.Word.{has_bit}
use Rattle.workflow.specs.Problem.{Kind, Rule, rule_of, same, different, at_most, at_least, maxLoad}

-- "rule kind 1 to 4", and kind 5: the kind of a number
abbrev pub kind_in : ℕ → Kind
kind_in zero = same
kind_in (suc zero) = same
kind_in (suc (suc zero)) = different
kind_in (suc (suc (suc zero))) = at_most
kind_in (suc (suc (suc (suc zero)))) = at_least
kind_in (suc (suc (suc (suc (suc n))))) = maxLoad

-- rule i of a job of so many steps, of arrays of kinds, levels, limits and scopes, a scope being a mask of steps
abbrev pub card_rule : ℕ → List ℕ → List ℕ → List ℕ → List ℕ → ℕ → Rule
card_rule steps kind level limit scope i =
    rule_of steps (kind_in (get_or kind i 0)) (get_or level i 0) (get_or limit i 0) (has_bit (get_or scope i 0))
