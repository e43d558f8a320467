-- What a rule says of another level. Assumes nothing.
use mathlib.Core.List.{List}
use mathlib.Core.Path.{◌≡◌}
use Prim.Native.Nat.{ℕ, ◌-◌, ◌≤◌, ◌<◌}
use native.Mathlib.Omega.{arith}
use lib.Count.{ones}
use lib.Dec.{eqb}
use lib.ListN.{get_or}
use borrow.Author.Tests.{eqb-true, eqb-false}
use Rattle.bits.specs.Word.{has_bit}
use Rattle.bits.proofs.Below.{by_cases}
use Rattle.bits.proofs.Counting.{count-le}
use Rattle.bits.proofs.Ones.{ones_bits}
use Rattle.workflow.specs.Problem.{Job, Plan, InBounds}
use Rattle.workflow.proofs.Counts.{distinct-le_scope, distinct-le}
use Rattle.workflow.proofs.Loads.{largest_load_few}
use Rattle.pattern.specs.declared.Size.{Size}
use Rattle.pattern.specs.Given.{Classed}
use Rattle.pattern.specs.Rule.{level_in, least_in, most_in, load_in, scope_in, unpacked, Packed}
use Rattle.pattern.specs.Tables.{class_in, job_in}
use Rattle.pattern.proofs.Levels.{refining_up}
use Rattle.relax.specs.Bound.{Nests, Counted, together, Needs}
use Rattle.relax.specs.Relaxed.{Carriable, count_at_lem, load_at, Follows}
use Rattle.relax.proofs.Bounding.{bounded, needed}
use Rattle.relax.proofs.Coarser.{some_class, coarser, lighter}

module _ (size : Size) (class rule : List ℕ) (given : Classed size class rule) where
  abbrev whole : Job
  whole = job_in size class rule

  -- the classes of a level lie in those of a coarser one
  nests : (a b : ℕ) → 1 ≤ a → a ≤ b → b ≤ size.levels → Nests size.people (class_in class a) (class_in class b)
  nests a b from l to =
      record {
        coarse_number = λ p m. given.numbers a p from (omega arith) m;
        fine_number = λ p m. given.numbers b p (omega arith) to m;
        up = refining_up whole given.refining a b from l to;
      }

module _ {size : Size} {class : List ℕ} {r q : ℕ} (w : Carriable size class r q) where
  -- the level of a rule fits a number
  pub level_few : q < 16
  level_few = omega (arith, w.to, w.few_levels)

  -- the plans that give each step one of the people
  abbrev Within : Plan → Type 0
  Within π = (s : ℕ) → s < size.steps → π s < size.people

  -- a rule of level q for the same scope, whose limits hold wherever those of r do
  follows_of : {least most load s : ℕ} → Packed q least most load (scope_in r) s → least ≤ least_in r → most ≤ size.steps
      → ((π : Plan) → Within π → InBounds (unpacked r) (count_at_lem size class r (level_in r) π) (load_at size class r (level_in r) π)
      → (least ≤ count_at_lem size class r q π) × (count_at_lem size class r q π ≤ most) × (load_at size class r q π ≤ load))
      → Follows size class q r s
  follows_of p low high holds =
      record {
        level = p.its_level;
        scope = p.its_scope;
        reachable = omega (arith, p.its_least, w.rule_ok.reachable);
        bounded = omega (arith, p.its_most);
        met = λ π within m.
            let h = holds π within m in
            record { least = omega (arith, p.its_least, h.0); most = omega (arith, p.its_most, h.1); load = omega (arith, p.its_load, h.2) };
      }

  -- a finer level has as many classes at least, no more than the scope has steps, and none holds more
  module _ (finer : level_in r ≤ q) where
    nested : Nests size.people (class_in class (level_in r)) (class_in class q)
    nested = w.nests (level_in r) q w.rule_ok.from finer w.to

    at_least : (π : Plan) → Within π → least_in r ≤ count_at_lem size class r (level_in r) π → least_in r ≤ count_at_lem size class r q π
    at_least π within l =
        let c = coarser size.steps size.people (has_bit (scope_in r)) _ _ nested π within in
        omega arith

    no_heavier : (π : Plan) → Within π → load_at size class r (level_in r) π ≤ load_in r → load_at size class r q π ≤ load_in r
    no_heavier π within l =
        let c = lighter size.steps size.people (has_bit (scope_in r)) _ _ nested π within in
        omega arith

    pub follows_unlimited : {s : ℕ} → ones (scope_in r) ≤ most_in r → Packed q (least_in r) (most_in r) (load_in r) (scope_in r) s → Follows size class q r s
    follows_unlimited l p =
        follows_of p (omega arith) w.rule_ok.bounded (λ π within m.
        let c = distinct-le_scope size.steps (has_bit (scope_in r)) (λ t. class_in class q (π t)) in
        let e = ones_bits size.steps (scope_in r) w.scope in
        (at_least π within m.least, omega arith, no_heavier π within m.load))

    module _ {classes : ℕ} {counts : List ℕ} (counted : Counted size.people (class_in class (level_in r)) (class_in class q) classes counts) {s : ℕ} where
      pub follows_limited : together counts (most_in r) (classes - 1) < size.steps
          → Packed q (least_in r) (together counts (most_in r) (classes - 1)) (load_in r) (scope_in r) s → Follows size class q r s
      follows_limited l p =
          follows_of p (omega arith) (omega arith) (λ π within m. (
            at_least π within m.least,
            bounded size.people w.few_people _ _ nested size.steps (has_bit (scope_in r)) π within classes counts counted (most_in r) m.most,
            no_heavier π within m.load,
          ))

      pub follows_all : Packed q (least_in r) size.steps (load_in r) (scope_in r) s → Follows size class q r s
      follows_all p =
          follows_of p (omega arith) (omega arith)
          (λ π within m. (
            at_least π within m.least,
            distinct-le size.steps (has_bit (scope_in r)) (λ t. class_in class q (π t)),
            no_heavier π within m.load,
          ))

  -- a coarser level has as many classes at most, and enough of them for those of the rule's own level; one may hold all steps
  module _ (below : q ≤ level_in r) where
    outer : Nests size.people (class_in class q) (class_in class (level_in r))
    outer = w.nests q (level_in r) w.from below w.rule_ok.to

    at_most : (π : Plan) → Within π → count_at_lem size class r (level_in r) π ≤ most_in r → count_at_lem size class r q π ≤ most_in r
    at_most π within l =
        let c = coarser size.steps size.people (has_bit (scope_in r)) _ _ outer π within in
        omega arith

    any_load : (π : Plan) → load_at size class r q π ≤ size.steps
    any_load π = largest_load_few size.steps (has_bit (scope_in r)) (λ t. class_in class q (π t))

    pub follows_one : {s : ℕ} → least_in r < 2 → Packed q (least_in r) (most_in r) size.steps (scope_in r) s → Follows size class q r s
    follows_one l p = follows_of p (omega arith) w.rule_ok.bounded (λ π within m. (some π, at_most π within m.most, any_load π))
      where
        some : (π : Plan) → least_in r ≤ count_at_lem size class r q π
        some π =
            by_cases (eqb (least_in r) 0)
            (λ e. let z : least_in r ≡ 0 = eqb-true _ _ e in omega arith)
            (λ e.
            let z : least_in r ≡ 0 → ⊥ = eqb-false _ _ e in
            let k = some_class size.steps (has_bit (scope_in r)) (λ t. class_in class q (π t)) (omega (arith, w.rule_ok.reachable)) in
            omega arith)

    pub follows_several : {classes : ℕ} {counts : List ℕ} {m s : ℕ} → Counted size.people (class_in class q) (class_in class (level_in r)) classes counts
        → 1 ≤ least_in r → Needs counts (classes - 1) (least_in r) m → Packed q m (most_in r) size.steps (scope_in r) s → Follows size class q r s
    follows_several {classes} {counts} {m} counted l n p =
        follows_of p n.to w.rule_ok.bounded (λ π within k. (
          needed size.people w.few_people _ _ outer size.steps (has_bit (scope_in r)) π within classes counts counted (least_in r) m n
              (some_class size.steps (has_bit (scope_in r)) _ (omega (arith, w.rule_ok.reachable))) k.least,
          at_most π within k.most,
          any_load π,
        ))
