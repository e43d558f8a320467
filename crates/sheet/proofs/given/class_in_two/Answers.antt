-- With a place comes its card's refusal, and without one nothing. Assumes nothing.
use mathlib.Core.Path.{refl, ◌∙◌, ap}
use lib.ListN.{length, get_or}
use Rattle.std.specs.Prelude.{Option}
use Rattle.card.specs.Refusals.{fault_number}
use Rattle.card.specs.declared.refusal.Refusal.{Refusal}
use Rattle.card.specs.declared.refusal.Fault.TheVariants.{Class}
use Rattle.sheet.specs.Answer.{otherwise}
use Rattle.sheet.proofs.Found.{place_some, given_some, given_none}
use Rattle.sheet.proofs.given.class_in_two.Goals as goal

pub returns-in_err-k : goal.returns-in_err-k
returns-in_err-k c next =
    ap (λ (x : Option Refusal). otherwise x next) c.from_residual.ensures ∙ given_none (length c.args.people.now) _ _ _ c.class_clash.ensures c.in_err-k.was next

pub bounds-people-k : goal.bounds-people-k
bounds-people-k c = (place_some c.class_clash.ensures c.in_ok-k.was).0

pub returns : goal.returns
unfolding fault_number
returns c =
    given_some Class c.on.ensures (length c.args.people.now) _ (λ k. get_or c.args.people.now k 0) c.class_clash.ensures c.in_ok-k.was refl
