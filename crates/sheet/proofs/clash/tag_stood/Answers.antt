-- The places before k are the slice's entries. Assumes nothing.
use mathlib.Core.Path.{◌∙◌}
use native.Mathlib.Omega.{arith}
use Rattle.sheet.proofs.Clashes.{contains-any}
use Rattle.sheet.proofs.clash.tag_stood.Goals as goal

pub returns : goal.returns
returns c = c.contains.ensures.value ∙ contains-any c.args.tags.now _ c.args.k (omega arith)
