use Rattle.signing.specs.Masks.{BoundMasks}
use Rattle.signing.proofs.bound.bound_masks.Given as goal

abbrev pub invariant-loop-s : goal.invariant-loop-s
invariant-loop-s l = BoundMasks l.may l.signer l.s l.rest
