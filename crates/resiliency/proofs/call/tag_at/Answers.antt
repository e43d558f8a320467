-- `tag_at` meets its contract. Assumes nothing.
use mathlib.Core.Path.{sym, ap, ◌∙◌}
use Prim.Native.Nat.{ℕ}
use native.Mathlib.Omega.{arith}
use lib.ListN.{get_or}
use lib.Seq.{get_or-take}
use Rattle.resiliency.specs.Group.{members_in}
use Rattle.resiliency.proofs.Members.{members_count}
use Rattle.resiliency.proofs.Written.{away_at, away_past}
use Rattle.resiliency.proofs.call.tag_at.Goals as goal

pub returns-then-k-group : goal.returns-then-k-group
returns-then-k-group c =
    let n = members_count c.args.group c.requires.1 in
    let few = c.requires.1.few in
    let l = c.if-k-group.true in
    ap (λ (p : ℕ). get_or c.args.tag.now p 0) (sym (get_or-take c.args.group.size c.args.group.member c.args.k 0 l))
    ∙ away_at c.args.tag.now 3 c.args.k (members_in c.args.group) (omega arith) (omega arith)

pub returns : goal.returns
returns c =
    let n = members_count c.args.group c.requires.1 in
    let l = c.if-k-group.false in
    away_past c.args.tag.now 3 c.args.k (members_in c.args.group) (omega arith)
