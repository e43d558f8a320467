-- A person is counted from 1. Assumes nothing.
use mathlib.Core.Path.{ap}
use native.Mathlib.Omega.{arith}
use native.Mathlib.Numerals.{add-one}
use Prim.Native.Nat.{ℕ}
use lib.ListN.{set}
use Rattle.signing.proofs.sign.with_signer.Goals as goal

pub overflow_add-more : goal.overflow_add-more
overflow_add-more c = omega arith

pub overflow_cast-more : goal.overflow_cast-more
overflow_cast-more c = omega arith

pub bounds-more-t : goal.bounds-more-t
bounds-more-t c = omega arith

pub returns : goal.returns
returns c = ap (λ (n : ℕ). set c.args.signer c.args.t n) (add-one c.args.p)
