-- `below` of `impl Set for u64` meets its contract: a word of n ones is the set of the numbers below n. Assumes nothing.
use mathlib.Core.Path.{sym, ap}
use Prim.Native.Nat.{ℕ, ◌-◌, ◌^◌}
use native.Mathlib.Omega.{arith}
use Rattle.bits.proofs.Masks.{one_shifted, one_shifted_pos, below_mask}
use Rattle.bits.proofs.set.U64Set.below.Goals as goal

pub returns-then-n-eq64 : goal.returns-then-n-eq64
returns-then-n-eq64 c = below_mask c.args.n (2 ^ 64 - 1) (ap (λ (x : ℕ). 2 ^ x - 1) (sym c.if-n-eq64.true))

pub overflow_sub-result : goal.overflow_sub-result
overflow_sub-result c = one_shifted_pos 64 c.args.n (omega (arith, c.requires, c.if-n-eq64.false))

pub returns : goal.returns
returns c =
    below_mask c.args.n _ (ap (λ (x : ℕ). x - 1) (one_shifted 64 c.args.n (omega (arith, c.requires, c.if-n-eq64.false))))
