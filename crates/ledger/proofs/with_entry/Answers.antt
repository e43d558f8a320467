-- `ledger::with_entry` meets its contract: what each array becomes is a law of the lines. Assumes nothing.
use mathlib.Core.Path.{◌≡◌, refl, sym, ◌∙◌, ap, subst}
use borrow.Author.Rules.{rules}
use lib.IntN.{ℤ, pos, ◌+ℤ◌}
use lib.ListN.{length}
use mir.Syntax.{w32}
use mir.ValLaws.{to_z-of_z}
use Rattle.ledger.specs.Lines.{Small}
use Rattle.ledger.specs.Entry.{entry}
use Rattle.ledger.proofs.Signed.{small_back}
use Rattle.ledger.proofs.Entered.{lines_more}
use Rattle.ledger.proofs.with_entry.Goals as goal
use Rattle.ledger.proofs.with_entry.Goals.{Start}

-- the arrays have their sizes
tag-sized : (c : Start) → length c.args.ledger.tag ≡ 64
tag-sized c = search rules

quoted-sized : (c : Start) → length c.args.ledger.quoted ≡ 64
quoted-sized c = search rules

taken-sized : (c : Start) → length c.args.ledger.taken ≡ 64
taken-sized c = search rules

pub sums_with-requires : goal.sums_with-requires
sums_with-requires c =
    let p = c.requires in (quoted-sized c.before.before.before, p.1, p.0.quoted _ p.1, p.2)

pub sums_with-requires-2 : goal.sums_with-requires-2
sums_with-requires-2 c =
    let p = c.requires in (taken-sized c.before.before.before.before.before, p.1, p.0.taken _ p.1, p.3)

pub sum-requires : goal.sum-requires
sum-requires c =
    let p = c.requires in
    (subst Small (sym (small_back _ p.0.all_quoted)) p.0.all_quoted, p.2)

pub sum-requires-2 : goal.sum-requires-2
sum-requires-2 c =
    let p = c.requires in
    (subst Small (sym (small_back _ p.0.all_taken)) p.0.all_taken, p.3)

pub returns : goal.returns
returns c =
    let p = c.requires in
    let grown = c.lines_with.ensures in
    λ es w at.
    lines_more es (entry c.args.who c.args.quoted c.args.taken) c.args.ledger c.args.line w _
    (tag-sized c.before.before.before.before.before.before.before.before.before.before) (quoted-sized c.before.before.before.before.before.before.before.before.before.before) (taken-sized c.before.before.before.before.before.before.before.before.before.before) p.1 at
    grown.0 grown.1 refl
    c.sums_with.ensures
    c.sums_with-2.ensures
    (to_z-of_z w32 c.sum.result (record { sfits = c.sum.type_inv }) ∙ c.sum.ensures
    ∙ ap (λ (z : ℤ). z +ℤ pos c.args.quoted) (small_back _ p.0.all_quoted))
    (to_z-of_z w32 c.sum-2.result (record { sfits = c.sum-2.type_inv }) ∙ c.sum-2.ensures
    ∙ ap (λ (z : ℤ). z +ℤ pos c.args.taken) (small_back _ p.0.all_taken))
