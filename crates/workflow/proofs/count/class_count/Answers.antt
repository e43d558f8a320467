-- `workflow::count::class_count` meets its contract: a set of labels has as many as there are different ones. Assumes nothing.
use mathlib.Core.Path.{◌∙◌}
use Prim.Native.Nat.{◌^◌, ◌<◌}
use borrow.Author.Rules.{rules}
use Rattle.workflow.proofs.Labels.{labels_count}
use Rattle.workflow.proofs.count.class_count.Goals as goal

pub returns : goal.returns
returns c =
    let fits : c.args.labels < 2 ^ 64 = search rules in
    (c.size.ensures.1, λ n S f w. c.size.ensures.0 ∙ labels_count fits w)
