-- `matching::holder` meets its contract. Assumes nothing.
use mathlib.Core.Path.{◌≡◌}
use Rattle.std.proofs.Common.{rules, tests}
use Rattle.std.proofs.lemmas.Iterator.{IsFirst-from_position, YieldsList-from_slice}
use Rattle.matching.proofs.Laws.{holder_by_place}
use Rattle.matching.proofs.holder.Goals as goal

pub returns : goal.returns
returns c =
    holder_by_place c.args.at.now c.args.c _ c.requires
    (IsFirst-from_position _ _ _ (λ d. d ≡ c.args.c) (λ d. d ≡ c.args.c → ⊥) c.position.ensures.ran
    (YieldsList-from_slice c.args.at.now cc) (λ x q k. search (rules, tests)) (λ x q k. search (rules, tests)))
