-- `relax::to_finer` meets its contract. Assumes nothing.
use mathlib.Core.Path.{◌≡◌, refl, subst, ◌∙◌, ap}
use Prim.Native.Nat.{ℕ, ◌-◌, ◌<◌}
use native.Mathlib.Omega.{arith}
use lib.Count.{ones}
use borrow.Author.Rules.{rules}
use Rattle.pattern.proofs.Packing.{packed_as}
use Rattle.pattern.specs.Rule.{level_in, most_in}
use Rattle.pattern.specs.Tables.{class_in}
use Rattle.relax.proofs.Following.{follows_unlimited, follows_limited, follows_all}
use Rattle.relax.proofs.Tallying.{classes_few}
use Rattle.relax.specs.Bound.{Counted, together}
use Rattle.relax.specs.declared.bound.Ranked.{Ranked}
use Rattle.relax.proofs.to_finer.Goals as goal
use Rattle.relax.proofs.to_finer.Goals.{After-most-b, After-ranks-found}

pub returns-then-size-highest : goal.returns-then-size-highest
returns-then-size-highest c =
    let e : ones c.scope.result ≡ _ = ap ones c.scope.ensures in
    follows_unlimited c.requires.0 c.requires.1 (omega (arith, c.most-highest.ensures.0, c.size.ensures.0, c.if-size-highest.true)) c.moved.ensures

pub most-b-requires : goal.most-b-requires
most-b-requires c =
    (c.ranks-found.ensures.by_rank.sized, classes_few c.requires.0.few_people c.ranks-found.ensures, search rules)

abbrev found : After-ranks-found → Ranked
found c = c.ranks-found.result

-- the classes counted are those of the rule's own level
counted : (c : After-ranks-found)
    → let a = c.args in Counted a.size.people (class_in a.class.now (level_in a.r)) (class_in a.class.now a.q) (found c).classes (found c).counts
counted c =
    let a = c.args in
    subst (λ (k : ℕ). Counted a.size.people (class_in a.class.now k) (class_in a.class.now a.q) (found c).classes (found c).counts)
    c.level.ensures.0 c.ranks-found.ensures

-- the bound is that of the rule's greatest count
bound : (c : After-most-b) → c.most-b.result ≡ together (found c.before.before).counts (most_in c.args.r) ((found c.before.before).classes - 1)
bound c = c.most-b.ensures ∙ ap (λ (m : ℕ). together (found c.before.before).counts m ((found c.before.before).classes - 1)) c.most-highest.ensures.0

pub returns-then-size-b : goal.returns-then-size-b
returns-then-size-b c =
    follows_all c.requires.0 c.requires.1 (counted c.before.before.before.before.before.before.before.before) (packed_as c.least.ensures.0 refl c.load.ensures.0 c.scope-then-size-b.ensures c.pack.ensures)

pub returns : goal.returns
returns c =
    follows_limited c.requires.0 c.requires.1 (counted c.before.before.before.before.before.before.before.before) (subst (λ (b : ℕ). b < c.args.size.steps) (bound c.before.before.before.before.before.before) (omega (arith, c.if-size-b.false)))
    (packed_as c.least-2.ensures.0 (bound c.before.before.before.before.before.before) c.load-2.ensures.0 c.scope-2.ensures c.pack-2.ensures)
