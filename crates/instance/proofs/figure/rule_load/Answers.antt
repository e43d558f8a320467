-- `instance::figure::rule_load` meets its contract: steps share a label where their people share a class. Assumes nothing.
use mathlib.Core.Path.{refl, ◌∙◌}
use native.Mathlib.Omega.{arith}
use Prim.Native.Nat.{ℕ}
use Rattle.bits.specs.Word.{has_bit}
use Rattle.bits.proofs.SetLaws.{has_below}
use Rattle.workflow.specs.First.{plan_of}
use Rattle.workflow.proofs.Tally.{tallied_labels}
use Rattle.instance.specs.Instance.{class_at}
use Rattle.instance.proofs.Classes.{first_alike, alike_le, alike_load}
use Rattle.instance.proofs.figure.rule_load.Goals as goal

pub largest_load-requires : goal.largest_load-requires
largest_load-requires c = (c.requires.1, c.labels_of-labels.ensures.0)

pub returns : goal.returns
returns c =
    let a = c.args in
    let classes : ℕ → ℕ = λ t. class_at a.levels a.class.now a.level (plan_of a.plan.now t) in
    λ n b.
    c.largest_load.ensures n b
    ∙ tallied_labels a.scope (first_alike classes) c.labels_of-labels.result c.labels_of-labels.ensures.1
    (λ t h. omega (arith, alike_le classes t (first_alike classes t) refl, has_below 12 a.scope t c.requires.1 h)) n
    ∙ alike_load classes n (has_bit a.scope)
