-- `realize::parts::groups_of` meets its contract. Assumes nothing.
use lib.Dec.{eqb}
use Rattle.std.proofs.Common.{rules, tests}
use Rattle.realize.proofs.Masks.{groups_mask}
use Rattle.realize.proofs.parts.groups_of.Goals as goal

pub returns : goal.returns
returns c = let a = c.args in groups_mask a.label.now a.q a.steps (c.labelled.ensures (λ s l. eqb l s) (λ s l b h. search (rules, tests)))
