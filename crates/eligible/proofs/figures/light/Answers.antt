-- `eligible::figures::light` meets its contract: where no load is limited, none is too large. Assumes nothing.
use mathlib.Core.Bool.{not}
use mathlib.Core.Path.{ap, sym, ◌∙◌}
use native.Mathlib.Omega.{arith}
use lib.Dec.{leb}
use borrow.Author.Tests.{leb-true, leb-false, ltb-false, not-true}
use Rattle.bits.proofs.Says.{says_of}
use Rattle.eligible.proofs.Light.{light_part, row_load}
use Rattle.eligible.proofs.figures.light.Goals as goal

pub returns-then-not-limits_load : goal.returns-then-not-limits_load
returns-then-not-limits_load g c =
    let few = ltb-false _ _ (sym c.limits_load.ensures ∙ not-true _ (ap not c.if-not-limits_load.true)) in
    λ n k l by small. light_part c.args.rule n _ k l c.requires.1 few

pub returns : goal.returns
returns g c =
    let load = c.largest_load.result in
    let most = c.load.result in
    λ n k l by small.
    let is = row_load c.args.rule n c.label_row-row.result k l c.requires.1 c.largest_load.ensures (c.label_row-row.ensures.1 k by) small in
    says_of (leb load most) _
    (λ t. omega (arith, leb-true load most t, c.load.ensures.0, is))
    (λ t w. omega (arith, leb-false load most t, c.load.ensures.0, is))
