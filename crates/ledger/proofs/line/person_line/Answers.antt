-- `ledger::line::person_line` meets its contract: tag and sums are those of the person who appeared at that place. Assumes nothing.
use mathlib.Core.Path.{sym, ◌∙◌, ap, subst}
use Prim.Native.Nat.{ℕ}
use lib.ListN.{get_or}
use Rattle.ledger.specs.Lines.{Small}
use Rattle.ledger.specs.Printed.{line_of}
use Rattle.ledger.specs.Sums.{people_in, sum_of, quoted_in, taken_in}
use Rattle.ledger.proofs.Signed.{small_back}
use Rattle.ledger.proofs.line.person_line.Goals as goal

pub printed-requires : goal.printed-requires
printed-requires c =
    let p = c.requires in
    let q = p.0.quoted _ p.1 in
    let t = p.0.taken _ p.1 in
    (subst Small (sym (small_back _ q)) q, subst Small (sym (small_back _ t)) t)

pub returns : goal.returns
returns c =
    let p = c.requires in
    let k = c.args.k in
    λ es w l.
    let who = get_or (people_in es) k 0 in
    c.printed.ensures (sum_of quoted_in who es) (sum_of taken_in who es)
    (small_back _ (p.0.quoted k p.1) ∙ w.quoted.each k l) (small_back _ (p.0.taken k p.1) ∙ w.taken.each k l)
    ∙ ap (λ (t : ℕ). line_of t (sum_of quoted_in who es) (sum_of taken_in who es)) (w.tags k l)
