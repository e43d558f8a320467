use Prim.Native.Nat.{◌-◌}
use Rattle.card.specs.Kinds.{kind_number}
use Rattle.chain.specs.Answer.{chain_of, marked}
use Rattle.chain.proofs.Going.{Going}
use Rattle.chain.proofs.walk_chain.Given as goal

abbrev pub invariant-loop-at : goal.invariant-loop-at
invariant-loop-at l =
    Going (chain_of l.s l.cards (kind_number l.kind) l.steps (marked l.initial.marks)) l.most l.first l.marks l.list l.taken l.holder l.at

abbrev pub decreases-loop-at : goal.decreases-loop-at
decreases-loop-at l = l.most - l.taken
