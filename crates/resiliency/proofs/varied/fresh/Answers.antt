-- Each mask is left a part of itself. Assumes nothing.
use native.Mathlib.Omega.{arith}
use Rattle.std.proofs.Common.{rules, tests}
use Rattle.search.proofs.Mapped.{mapped}
use Rattle.resiliency.proofs.Varying.{left_or_all, fresh_all, left_part}
use Rattle.resiliency.proofs.varied.fresh.Goals as goal

pub returns : goal.returns
returns c =
    let a = c.args in
    let m = c.map.ensures.items in
    fresh_all a.may.now c.map.result m.long (left_or_all a.used)
    (λ s l. mapped (left_or_all a.used) (λ x b q k. search (rules, tests)) a.may.now c.map.result 0 12 m.each s (omega arith) (omega arith))
    (left_part a.used)
