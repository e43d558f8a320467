-- A new class has the next number, and another that of its first use, who stands before. Assumes nothing.
use native.Mathlib.Omega.{arith}
use mathlib.Core.Path.{◌≡◌, sym, ◌∙◌}
use Prim.Native.Nat.{◌<◌}
use borrow.Author.Tests.{eq-eqb, ne_eqb}
use Rattle.pattern.specs.Number.{first_use}
use Rattle.pattern.proofs.Number.{use_le}
use Rattle.tables.specs.Arrays.{word_of}
use Rattle.tables.proofs.Numbers.{met_few, new_entered, old_entered}
use Rattle.tables.proofs.enter_class.Goals as goal
use Rattle.tables.proofs.enter_class.Goals.{Else-q-p}

pub overflow_cast-class : goal.overflow_cast-class
overflow_cast-class c = omega (arith, met_few _ _ c.args.met c.requires.top_bound.1)

pub returns-then-q-p : goal.returns-then-q-p
returns-then-q-p c =
    let f = c.first_use-q in
    let e : f.result ≡ c.args.p = omega arith in
    let u = sym f.ensures.0 ∙ e in
    (sym (eq-eqb _ _ u), new_entered _ _ _ _ _ c.requires.top_bound.2 c.requires.words_len.1 c.requires.words_len.2 c.requires.top_bound.0 u _ c.requires.top_bound.1, f.ensures.1)

-- the first use stands before a person whose class is not new
earlier : (c : Else-q-p) → c.first_use-q.result < c.args.p
earlier c =
    omega (arith, c.if-q-p.false, c.first_use-q.ensures.0, use_le c.args.people (word_of c.args.words.now) c.args.p)

pub overflow_add-class-2 : goal.overflow_add-class-2
overflow_add-class-2 c = omega (arith, earlier c)

pub bounds-class-top-2 : goal.bounds-class-top-2
bounds-class-top-2 c = omega (arith, earlier c.before.before)

pub returns : goal.returns
returns c =
    let f = c.first_use-q in
    let d : first_use c.args.people (word_of c.args.words.now) c.args.p ≡ c.args.p → ⊥ = λ e. c.if-q-p.false (f.ensures.0 ∙ e) in
    (sym (ne_eqb _ _ d), old_entered _ _ _ _ _ c.requires.top_bound.2 c.requires.words_len.1 c.requires.words_len.2 c.requires.top_bound.0 d _ f.ensures.0, f.ensures.1)
