-- `ledger::line::printed` meets its contract: each time is that of its sum. Assumes nothing.
use mathlib.Core.Path.{◌∙◌, ap, ap₂}
use lib.IntN.{◌-ℤ◌}
use mir.Syntax.{w32}
use mir.ValLaws.{to_z-of_z}
use Rattle.times.specs.Time.{time_of}
use Rattle.ledger.proofs.Signed.{small_back, back_difference, back_natural}
use Rattle.ledger.proofs.line.printed.Goals as goal

pub difference-requires : goal.difference-requires
difference-requires c =
    let p = c.requires in
    (back_natural _ p.1, back_natural _ p.0)

pub returns : goal.returns
returns c =
    let p = c.requires in
    let less = c.difference in
    λ q t eq et.
    let quoted = c.time_of.ensures ∙ ap time_of (small_back _ p.0 ∙ eq) in
    let taken = c.time_of-2.ensures ∙ ap time_of (small_back _ p.1 ∙ et) in
    let apart
    = c.time_of-3.ensures
    ∙ ap time_of (to_z-of_z w32 less.result (record { sfits = less.type_inv }) ∙ less.ensures ∙ back_difference _ _ p.1 p.0 ∙ ap₂ ◌-ℤ◌ et eq) in
    λ i. record { tag = c.args.tag; quoted = quoted i; taken = taken i; difference = apart i }
