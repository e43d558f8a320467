-- The invariant: the classes of the levels passed are filled in, and of this level those of the people passed. Assumes nothing.
use native.Mathlib.Omega.{arith}
use Prim.Native.Nat.{ℕ, suc, ◌+◌}
use mathlib.Core.Path.{◌≡◌, ◌∙◌, ap, subst}
use lib.ListN.{length, get_or}
use lib.Seq.{take-length, get_or-take}
use Rattle.card.specs.Layout.{card_word}
use Rattle.card.specs.Fields.{class_place}
use Rattle.sheet.specs.Answer.{class_table}
use Rattle.sheet.proofs.Columns.{ClassesFilled, classes_none, classes_more, classes_row, classes_all}
use Rattle.sheet.proofs.tables.classes.Goals as goal

pub loop-q-init : goal.loop-q-init
loop-q-init c = (omega arith, classes_none _ _ _)

pub loop-k-init : goal.loop-k-init
loop-k-init c = (omega arith, c.class_place-at.ensures.0, c.class_place-at.ensures.1, omega arith, c.loop-q.invariant.1)

pub word-requires : goal.word-requires
word-requires c = omega (arith, c.requires.0.inside c.loop-k.k c.loop-k-test.true)

pub bounds-out-q : goal.bounds-out-q
bounds-out-q c = omega (arith, c.requires.0.fits, c.requires.2)

pub loop-k-preserved : goal.loop-k-preserved
loop-k-preserved c =
    let i = c.loop-k.invariant in
    let q = c.loop-q.q in
    let k = c.loop-k.k in
    let e : q + 1 ≡ suc q = omega arith in
    let p = c.requires.0 in (
      i.0,
      i.1,
      i.2,
      omega arith,
      classes_more _ _ _ q k _ _ (omega (arith, i.0, c.requires.2)) (omega (arith, p.fits)) i.4
          (c.word.ensures.0 ∙ ap (card_word c.args.s.now (get_or c.args.list.now k 0)) (i.1 ∙ ap class_place e)),
    )

pub loop-q-preserved : goal.loop-q-preserved
loop-q-preserved c =
    let i = c.loop-k.invariant in
    let p = c.requires.0 in
    let list = c.args.list.now in
    let e : c.loop-k.k ≡ length list = omega (arith, i.3) in (
      omega (arith, i.0),
      classes_row c.args.s.now list (length list) (ap length (take-length list)) p.fits
          (λ x m. get_or-take (length list) list x 0 m) _ _
          (subst (λ (k : ℕ). ClassesFilled c.args.s.now list (length list) c.loop-q.q k c.loop-k.out) e i.4),
    )

pub returns : goal.returns
returns c =
    let p = c.requires.0 in
    let s = c.args.s.now in
    let list = c.args.list.now in
    classes_all s list (length list) (ap length (take-length list)) p.fits (λ x m. get_or-take (length list) list x 0 m)
    c.loop-q.q c.loop-q.out (omega (arith, c.requires.1, c.requires.2))
    (omega (arith, c.requires.1, c.loop-q.invariant.0, c.loop-q-test.false)) c.loop-q.invariant.1
    ∙ ap (class_table s) (take-length list)
