-- The bounds are those of the kind, and no more than the steps left. Assumes nothing.
use mathlib.Core.Path.{refl, ap, ap₂, ◌∙◌}
use Prim.Native.Nat.{min, ◌≤◌}
use native.Mathlib.Omega.{arith}
use Rattle.bits.specs.Word.{has_bit}
use Rattle.bits.proofs.Counting.{count-le}
use Rattle.workflow.specs.Kinds.{kind_of}
use Rattle.workflow.specs.Problem.{Kind, least_of, most_of, heaviest_of}
use Rattle.tables.proofs.Same.{least_small, size_left_lem}
use Rattle.tables.proofs.packed_rule.Goals as goal

pub pack-requires : goal.pack-requires
pack-requires c =
    let a = c.args in
    let p = c.requires in
    let left = c.size.ensures.0 ∙ size_left_lem a.steps a.scope p.2 p.3 in
    let few : c.size.result ≤ 12 = omega (arith, left, count-le a.steps (has_bit a.scope), p.2) in (
      omega (arith, p.0),
      omega (arith, c.min-low.ensures, c.least-least.ensures, least_small (kind_of a.kind) a.limit c.size.result p.1 few),
      omega (arith, c.min-high.ensures, p.2),
      omega (arith, c.min-load.ensures, p.2),
    )

pub returns : goal.returns
returns c n k =
    let a = c.args in
    let e = c.pack.ensures in
    let left = c.size.ensures.0 ∙ size_left_lem a.steps a.scope c.requires.2 c.requires.3 in
    let again = c.size-2.ensures.0 ∙ size_left_lem a.steps a.scope c.requires.2 c.requires.3 in
    record {
      its_level = e.its_level;
      its_least = e.its_least ∙ c.min-low.ensures ∙ ap₂ min (c.least-least.ensures ∙ ap₂ (λ (x : Kind). least_of x a.limit) k left) again;
      its_most = e.its_most ∙ c.min-high.ensures ∙ ap₂ min (c.most.ensures ∙ ap (λ (x : Kind). most_of x a.limit a.steps) k) refl;
      its_load = e.its_load ∙ c.min-load.ensures ∙ ap₂ min (c.heaviest.ensures ∙ ap (λ (x : Kind). heaviest_of x a.limit a.steps) k) refl;
      its_scope = e.its_scope;
    }
