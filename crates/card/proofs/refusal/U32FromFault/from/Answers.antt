-- By cases on the fault. Assumes nothing.
use mathlib.Core.Path.{◌≡◌, refl}
use Prim.Native.Nat.{◌+◌}
use denote.Enum.Declared.{tag_of}
use Rattle.card.specs.Refusals.{fault_number}
use Rattle.card.specs.contracts.refusal.Fault.{the_type}
use Rattle.card.specs.declared.refusal.Fault.{Fault}
use Rattle.card.specs.declared.refusal.Fault.TheVariants.{Short, Cap, Length, Header, Index, Reached, Kind, Field, Count, Tag, Class, Loose, Plan, Unknown, Signed, Ungranted}
use Rattle.card.proofs.refusal.U32FromFault.from.Goals as goal

each : (f : Fault) → tag_of the_type f + 1 ≡ fault_number f
unfolding fault_number
each Short = refl
each Cap = refl
each Length = refl
each Header = refl
each Index = refl
each Reached = refl
each Kind = refl
each Field = refl
each Count = refl
each Tag = refl
each Class = refl
each Loose = refl
each Plan = refl
each Unknown = refl
each Signed = refl
each Ungranted = refl

pub returns : goal.returns
returns c = each c.args.fault
