-- Each mask is left those who are not away. Assumes nothing.
use native.Mathlib.Omega.{arith}
use lib.Bits.{bit_or, bit_xor}
use Rattle.std.proofs.Common.{rules, tests}
use Rattle.search.proofs.Mapped.{mapped}
use Rattle.resiliency.proofs.Knowing.{remaining_all}
use Rattle.resiliency.proofs.known.remaining.Goals as goal

pub returns : goal.returns
returns c =
    let a = c.args in
    let m = c.map.ensures.items in
    remaining_all a.may.now c.map.result a.away m.long
    (λ s l. mapped (λ x. bit_xor (bit_or x a.away) a.away) (λ x b q k. search (rules, tests)) a.may.now c.map.result 0 12 m.each s (omega arith) (omega arith))
