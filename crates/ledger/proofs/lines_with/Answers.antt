-- `ledger::lines_with` meets its contract, by cases on the line. Assumes nothing.
use mathlib.Core.Path.{refl}
use native.Mathlib.Omega.{arith}
use Rattle.ledger.proofs.lines_with.Goals as goal

pub overflow_add-result : goal.overflow_add-result
overflow_add-result c = omega arith

pub returns-then-line-people : goal.returns-then-line-people
returns-then-line-people c =
    let e = c.if-line-people.true in
    (λ l. absurd (omega (arith, l, e)), λ s. refl)

pub returns : goal.returns
returns c =
    let d = c.if-line-people.false in
    (λ l. refl, λ s. absurd (d s))
