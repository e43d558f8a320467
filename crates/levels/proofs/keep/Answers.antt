-- `levels::keep` meets its contract. Assumes nothing.
use native.Mathlib.Omega.{arith}
use Rattle.levels.proofs.Trimming.{table_trimmed, trims}
use Rattle.levels.proofs.keep.Goals as goal

pub crowds-crowd-requires : goal.crowds-crowd-requires
crowds-crowd-requires c =
    let a = c.args in
    let t = c.requires in (
      omega (arith, t.ruled.few_levels, c.number-numbers.ensures.few),
      table_trimmed a.size c.number-numbers.result.count c.marks-marked.result a.class.now a.rule.now c.rows-kept.result c.renumber-renumbered.result
          c.number-numbers.result.old c.number-numbers.result.new t c.marks-marked.ensures c.number-numbers.ensures c.rows-kept.ensures c.renumber-renumbered.ensures,
    )

pub returns : goal.returns
returns c =
    let a = c.args in
    trims a.size c.number-numbers.result.count c.marks-marked.result a.class.now a.rule.now c.rows-kept.result c.renumber-renumbered.result
    c.number-numbers.result.old c.number-numbers.result.new c.requires c.marks-marked.ensures c.number-numbers.ensures c.rows-kept.ensures c.renumber-renumbered.ensures
    c.crowds-crowd.ensures c.naming-of.ensures
