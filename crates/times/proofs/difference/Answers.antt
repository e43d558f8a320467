-- `times::difference` meets its contract: a difference of two numbers that are not negative fits, in either order. Assumes nothing.
use mathlib.Core.Path.{◌∙◌, ap₂}
use borrow.Author.Rules.{rules}
use lib.IntN.{◌-ℤ◌}
use mir.Syntax.{w32}
use mir.ValLaws.{to_z-of_z}
use Rattle.times.proofs.Laws.{natural_fits}
use Rattle.times.proofs.difference.Goals as goal

pub overflow_sub-result : goal.overflow_sub-result
overflow_sub-result c = search (rules, natural_fits)

pub returns : goal.returns
returns c = to_z-of_z w32 _ (overflow_sub-result c) ∙ ap₂ ◌-ℤ◌ (to_z-of_z w32 c.args.taken c.ranges.taken) (to_z-of_z w32 c.args.quoted c.ranges.quoted)
