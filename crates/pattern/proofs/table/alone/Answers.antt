-- `pattern::table::alone` meets its contract. Assumes nothing.
use mathlib.Core.Path.{◌≡◌, sym, ◌∙◌}
use Prim.Native.Nat.{suc, ◌-◌, ◌<◌}
use native.Mathlib.Omega.{arith}
use borrow.Author.Tests.{eqb-true, eq-eqb}
use Rattle.bits.proofs.Below.{true-false}
use Rattle.bits.proofs.Says.{says_of}
use Rattle.pattern.specs.Given.{OwnClasses}
use Rattle.pattern.specs.Number.{number_of}
use Rattle.pattern.specs.Tables.{class_in, number_in}
use Rattle.pattern.proofs.Nesting.{number_is}
use Rattle.pattern.proofs.Number.{number_alone}
use Rattle.pattern.proofs.table.alone.Goals as goal

pub returns-then-people-eq0 : goal.returns-then-people-eq0
returns-then-people-eq0 c = λ levels w l p h. absurd (omega (arith, c.if-people-eq0.true))

pub overflow_sub-last : goal.overflow_sub-last
overflow_sub-last c = omega arith

pub overflow_mul-result : goal.overflow_mul-result
overflow_mul-result c = omega arith

pub overflow_add-result : goal.overflow_add-result
overflow_add-result c = omega arith

pub bounds-class-q : goal.bounds-class-q
bounds-class-q c = omega arith

pub overflow_cast-result : goal.overflow_cast-result
overflow_cast-result c = omega arith

pub returns : goal.returns
returns c = λ levels w l.
    let a = c.args in
    let k = class_in a.class.now (suc a.q) in
    let n : suc (a.people - 1) ≡ a.people = omega (arith, c.if-people-eq0.false) in
    let m : a.people - 1 < a.people = omega arith in
    let its : number_in a.class.now a.q (a.people - 1) ≡ k (a.people - 1) = number_is w a.q (a.people - 1) l m in
    let s : k (a.people - 1) ≡ number_of a.people k (a.people - 1) = w.numbers (suc a.q) (a.people - 1) (omega arith) l m in
    says_of _ (OwnClasses a.people a.class.now (suc a.q))
    (λ e p h. w.numbers (suc a.q) p (omega arith) l h ∙ number_alone a.people k (a.people - 1) n (sym s ∙ sym its ∙ eqb-true _ _ e) p h)
    (λ e own. true-false (eq-eqb _ _ (its ∙ own (a.people - 1) m)) e)
