-- `search::limits::reaches_least` meets its contract. Assumes nothing.
use mathlib.Core.Path.{subst, ap, ap₂, ◌∙◌}
use Prim.Native.Nat.{ℕ, ◌-◌}
use native.Mathlib.Omega.{arith}
use Rattle.std.specs.Prelude.{is_some}
use lib.Count.{ones}
use Rattle.bits.proofs.Ones.{ones_bits}
use Rattle.matching.specs.Assignment.{Covers, in_mask, suits, classes_of}
use Rattle.pattern.specs.Rule.{scope_in}
use Rattle.search.proofs.LowerLimits.{reaching, reaching_unknown}
use Rattle.search.specs.Limits.{Gathering, Extra, Extras, Edges}
use Rattle.search.proofs.limits.reaches_least.Goals as goal

pub overflow_sub-size : goal.overflow_sub-size
overflow_sub-size c =
    omega (arith, c.size.ensures.0, ap ones c.scope-scope.ensures ∙ ones_bits c.args.steps (scope_in c.args.r) c.requires.4, c.least.ensures.0, c.requires.5)

pub returns-in_default : goal.returns-in_default
returns-in_default c = reaching_unknown c.args.steps c.requires.0 c.args.reach.now c.args.r c.requires.4

pub returns : goal.returns
returns c =
    let a = c.args in
    let eq = ap (λ (n : ℕ). n - 1) c.level-q.ensures.0 in
    let es = c.scope-scope.ensures in
    let mask = c.in-Some.mask in
    rw c.is_some.ensures
    (reaching a.steps c.requires.0 a.reach.now a.r c.requires.4 mask
    (subst (λ (q : ℕ). Gathering a.steps a.reach.now q (scope_in a.r) c.classes_of-all.result) eq
    (subst (λ (m : ℕ). Gathering a.steps a.reach.now (c.level-q.result - 1) m c.classes_of-all.result) es c.classes_of-all.ensures))
    (subst (λ (n : ℕ). Extra c.classes_of-all.result n mask) (ap₂ (λ (u v : ℕ). u - v) (c.size.ensures.0 ∙ ap ones es) c.least.ensures.0)
    (subst (Extras _ _) c.in-Some.is c.extra_classes-extra.ensures))
    (subst (λ (q : ℕ). Edges a.steps a.reach.now q mask c.edges_of-edges.result) eq c.edges_of-edges.ensures)
    (subst (λ (m : ℕ). Covers (in_mask m) (suits c.edges_of-edges.result) (is_some c.assign.result) (classes_of c.assign.result)) es c.assign.ensures))
