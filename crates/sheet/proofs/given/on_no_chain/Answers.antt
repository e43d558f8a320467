-- With a card comes its refusal, and without one nothing. Assumes nothing.
use mathlib.Core.Path.{refl, ◌∙◌, ap}
use native.Mathlib.Omega.{arith}
use Rattle.std.specs.Prelude.{Option}
use Rattle.card.specs.Refusals.{fault_number}
use Rattle.card.specs.declared.refusal.Refusal.{Refusal}
use Rattle.card.specs.declared.refusal.Fault.TheVariants.{Loose}
use Rattle.sheet.specs.Answer.{otherwise}
use Rattle.sheet.proofs.Found.{place_some, given_some, given_none}
use Rattle.sheet.proofs.given.on_no_chain.Goals as goal

pub returns-in_err-c : goal.returns-in_err-c
returns-in_err-c c next =
    ap (λ (x : Option Refusal). otherwise x next) c.from_residual.ensures ∙ given_none c.args.cards _ _ _ c.first_loose.ensures c.in_err-c.was next

pub on-requires : goal.on-requires
on-requires c = omega (arith, (place_some c.first_loose.ensures c.in_ok-c.was).0)

pub returns : goal.returns
unfolding fault_number
returns c = given_some Loose c.on.ensures c.args.cards _ (λ k. k) c.first_loose.ensures c.in_ok-c.was refl
