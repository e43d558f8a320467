-- The kinds of the cards of a chain by their numbers. Assumes nothing.
use Rattle.std.specs.Prelude.{ℕ}
use Rattle.card.specs.Layout.{person_kind, step_kind, rule_kind_lem}
use Rattle.card.specs.declared.fields.Kind.{Kind}
use Rattle.card.specs.declared.fields.Kind.TheVariants.{Person, Step, Rule}

unfoldable pub kind_number : Kind → ℕ
kind_number Person = person_kind
kind_number Step = step_kind
kind_number Rule = rule_kind_lem
