-- `realize::parts::members` meets its contract. Assumes nothing.
use lib.Dec.{eqb}
use Rattle.std.proofs.Common.{rules, tests}
use Rattle.realize.proofs.Masks.{members_mask}
use Rattle.realize.proofs.parts.members.Goals as goal

pub returns : goal.returns
returns c =
    let a = c.args in
    members_mask a.label.now a.q a.g a.steps (c.labelled.ensures (λ s l. eqb l a.g) (λ s l b h. search (rules, tests)))
