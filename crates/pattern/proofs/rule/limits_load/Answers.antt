-- `pattern::rule::limits_load` meets its contract. Assumes nothing.
use mathlib.Core.Path.{ap, ◌∙◌}
use Prim.Native.Nat.{ℕ}
use lib.Count.{ones}
use lib.Dec.{ltb}
use Rattle.pattern.specs.Rule.{load_in}
use Rattle.pattern.proofs.rule.limits_load.Goals as goal

pub returns : goal.returns
returns c =
    ap (λ (x : ℕ). ltb x c.size.result) c.load.ensures.0
    ∙ ap (λ (x : ℕ). ltb (load_in c.args.rule) x) (c.size.ensures.0 ∙ ap ones c.scope.ensures)
