-- By cases on the kind. Assumes nothing.
use mathlib.Core.Path.{◌≡◌, refl}
use Prim.Native.Nat.{◌+◌}
use denote.Enum.Declared.{tag_of}
use Rattle.card.specs.Kinds.{kind_number}
use Rattle.card.specs.contracts.fields.Kind.{the_type}
use Rattle.card.specs.declared.fields.Kind.{Kind}
use Rattle.card.specs.declared.fields.Kind.TheVariants.{Person, Step, Rule}
use Rattle.card.proofs.fields.Kind.number.Goals as goal

each : (k : Kind) → tag_of the_type k + 2 ≡ kind_number k
unfolding kind_number
each Person = refl
each Step = refl
each Rule = refl

pub returns : goal.returns
returns c = each c.args.self
