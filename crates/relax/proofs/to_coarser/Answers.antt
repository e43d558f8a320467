-- `relax::to_coarser` meets its contract. Assumes nothing.
use mathlib.Core.Path.{refl, subst, ◌∙◌}
use Prim.Native.Nat.{ℕ, ◌-◌}
use native.Mathlib.Omega.{arith}
use Rattle.bits.proofs.Counting.{count-le}
use Rattle.bits.specs.Word.{has_bit}
use Rattle.pattern.proofs.Packing.{packed_as}
use Rattle.pattern.specs.Rule.{scope_in}
use Rattle.pattern.specs.Tables.{class_in}
use Rattle.relax.proofs.Following.{follows_one, follows_several}
use Rattle.relax.proofs.Tallying.{classes_few}
use Rattle.relax.specs.Bound.{Counted, Needs}
use Rattle.relax.proofs.to_coarser.Goals as goal

pub returns-then-lowest-lt2 : goal.returns-then-lowest-lt2
returns-then-lowest-lt2 c =
    let p = c.without_load-loose.ensures in
    follows_one c.requires.0 c.requires.1 (omega (arith, c.least-lowest.ensures.0, c.if-lowest-lt2.true))
    (packed_as p.its_least p.its_most p.its_load p.its_scope c.moved.ensures)

pub fewest-m-requires : goal.fewest-m-requires
fewest-m-requires c =
    let w = c.requires.0 in (
      c.ranks-found.ensures.by_rank.sized,
      classes_few w.few_people c.ranks-found.ensures,
      omega (arith, c.if-lowest-lt2.false),
      omega (arith, c.least-lowest.ensures.0, w.rule_ok.reachable, count-le c.args.size.steps (has_bit (scope_in c.args.r)), w.few_steps),
    )

pub returns : goal.returns
returns c =
    let found = c.ranks-found.result in
    follows_several c.requires.0 c.requires.1
    (subst (λ (k : ℕ). Counted c.args.size.people (class_in c.args.class.now c.args.q) (class_in c.args.class.now k) found.classes found.counts)
    c.level.ensures.0 c.ranks-found.ensures)
    (omega (arith, c.least-lowest.ensures.0, c.if-lowest-lt2.false))
    (subst (λ (k : ℕ). Needs found.counts (found.classes - 1) k c.fewest-m.result) c.least-lowest.ensures.0 c.fewest-m.ensures)
    (packed_as refl c.most.ensures.0 (c.load.ensures.0 ∙ c.without_load-loose.ensures.its_load) c.scope.ensures c.pack.ensures)
