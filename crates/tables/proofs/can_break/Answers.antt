-- By how many steps are left. Assumes nothing.
use mathlib.Core.Path.{◌≡◌, ◌∙◌, ap, ap₂, subst}
use Prim.Native.Nat.{ℕ, min, ◌≤◌}
use native.Mathlib.Omega.{arith}
use lib.Dec.{ltb}
use Rattle.bits.specs.Below.{count}
use Rattle.bits.specs.Word.{has_bit}
use Rattle.workflow.specs.Problem.{Kind, most_of, heaviest_of}
use Rattle.tables.proofs.Same.{size_left_lem, breaks_two, breaks_fewer, breaks_heavy}
use Rattle.tables.specs.Posing.{most_left, load_left}
use Rattle.tables.proofs.can_break.Goals as goal

pub returns-then-left-gt1 : goal.returns-then-left-gt1
returns-then-left-gt1 c n e =
    let a = c.args in
    let left = c.size-left.ensures.0 ∙ size_left_lem a.steps a.scope c.requires.0 c.requires.1 in
    breaks_two (count a.steps (has_bit a.scope)) (most_left a.steps n a.limit) (load_left a.steps n a.limit) (omega (arith, left, c.if-left-gt1.true))

pub returns-then-left-high : goal.returns-then-left-high
returns-then-left-high c n e =
    let a = c.args in
    let left = c.size-left.ensures.0 ∙ size_left_lem a.steps a.scope c.requires.0 c.requires.1 in
    let high : c.min-high.result ≡ most_left a.steps n a.limit
    = c.min-high.ensures ∙ ap (λ (x : ℕ). min x a.steps) (c.most.ensures ∙ ap (λ (k : Kind). most_of k a.limit a.steps) e) in
    breaks_fewer _ (most_left a.steps n a.limit) (load_left a.steps n a.limit) (subst (λ (x : ℕ). x ≤ 1) left c.if-left-gt1.false)
    (omega (arith, c.if-left-high.true, high, left))

pub returns : goal.returns
returns c n e =
    let a = c.args in
    let left = c.size-left.ensures.0 ∙ size_left_lem a.steps a.scope c.requires.0 c.requires.1 in
    let high : c.min-high.result ≡ most_left a.steps n a.limit
    = c.min-high.ensures ∙ ap (λ (x : ℕ). min x a.steps) (c.most.ensures ∙ ap (λ (k : Kind). most_of k a.limit a.steps) e) in
    let load : c.min-load.result ≡ load_left a.steps n a.limit
    = c.min-load.ensures ∙ ap (λ (x : ℕ). min x a.steps) (c.heaviest.ensures ∙ ap (λ (k : Kind). heaviest_of k a.limit a.steps) e) in
    ap₂ ltb load left
    ∙ breaks_heavy _ (most_left a.steps n a.limit) (load_left a.steps n a.limit) (subst (λ (x : ℕ). x ≤ 1) left c.if-left-gt1.false)
    (omega (arith, c.if-left-high.false, high, left))
