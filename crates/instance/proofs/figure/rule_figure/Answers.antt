-- `instance::figure::rule_figure` meets its contract: a kind looks at the count or at the largest load. Assumes nothing.
use native.Mathlib.Omega.{arith}
use Rattle.bits.specs.Word.{has_bit}
use Rattle.workflow.specs.First.{plan_of}
use Rattle.workflow.proofs.Loads.{largest_load_few}
use Rattle.instance.specs.Instance.{class_at}
use Rattle.instance.proofs.figure.rule_figure.Goals as goal

pub returns-in-MaxLoad : goal.returns-in-MaxLoad
returns-in-MaxLoad c =
    let a = c.args in
    rw (c.in-MaxLoad.is) (
      omega (arith, c.rule_load.ensures 12 c.requires.1, largest_load_few 12 (has_bit a.scope) (λ t. class_at a.levels a.class.now a.level (plan_of a.plan.now t))),
      c.rule_load.ensures,
    )
