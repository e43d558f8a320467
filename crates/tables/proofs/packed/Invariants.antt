use Rattle.tables.specs.Posing.{PackedRules}
use Rattle.tables.proofs.packed.Given as goal

abbrev pub invariant-loop-i : goal.invariant-loop-i
invariant-loop-i l =
    let j = l.job in PackedRules j.steps l.i j.rule_kind j.rule_level j.rule_limit j.rule_scope l.rule l.count
