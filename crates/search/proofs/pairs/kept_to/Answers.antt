-- `search::pairs::kept_to` meets its contract. Assumes nothing.
use native.Mathlib.Omega.{arith}
use lib.Bits.{bit_and}
use Rattle.std.proofs.Common.{rules, tests}
use Rattle.search.proofs.Mapped.{mapped}
use Rattle.search.proofs.PairedLoads.{kept_each}
use Rattle.search.proofs.pairs.kept_to.Goals as goal

pub returns : goal.returns
returns c =
    let a = c.args in
    let m = c.map.ensures.items in
    kept_each a.edges.now a.room c.map.result m.long
    (λ s l. mapped (λ x. bit_and x a.room) (λ x b q k. search (rules, tests)) a.edges.now c.map.result 0 12 m.each s (omega arith) (omega arith))
