-- `narrow::revise::left_to` meets its contract. Assumes nothing.
use mathlib.Core.Bool.{not}
use mathlib.Core.Path.{ap, ◌∙◌}
use Rattle.bits.proofs.Masks.{xor_all, all_has}
use native.Mathlib.Omega.{arith}
use Rattle.narrow.proofs.revise.left_to.Goals as goal

pub returns-then-groups-highest : goal.returns-then-groups-highest
returns-then-groups-highest c = λ p l joins avoids. joins (omega arith)

pub returns-then-groups-wide : goal.returns-then-groups-wide
returns-then-groups-wide c = λ p l joins avoids. xor_all c.args.used p l ∙ ap not (avoids (omega arith))

pub returns : goal.returns
returns c = λ p l joins avoids. all_has p l
