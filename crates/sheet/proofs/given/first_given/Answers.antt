-- One refusal or the next, four times. Assumes nothing.
use mathlib.Core.Path.{◌∙◌, ap}
use Rattle.std.specs.Prelude.{Option}
use Rattle.std.specs.Option.{option_or}
use Rattle.card.specs.declared.refusal.Refusal.{Refusal}
use Rattle.sheet.specs.Answer.{otherwise}
use Rattle.sheet.proofs.Found.{otherwise-or}
use Rattle.sheet.proofs.given.first_given.Goals as goal

pub returns : goal.returns
returns c next =
    let a = c.args in
    let first = option_or (option_or a.people a.steps) a.classes in
    ap (λ (x : Option Refusal). otherwise x next)
    (c.or-3.ensures ∙ ap (λ (x : Option Refusal). option_or x a.loose) (c.or-2.ensures ∙ ap (λ (x : Option Refusal). option_or x a.classes) c.or.ensures))
    ∙ otherwise-or first a.loose next
    ∙ otherwise-or (option_or a.people a.steps) a.classes (otherwise a.loose next)
    ∙ otherwise-or a.people a.steps (otherwise a.classes (otherwise a.loose next))
