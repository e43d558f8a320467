-- What a rule says of its steps, for rules as a readable sheet has them. Assumes nothing.
use mathlib.Core.Bool.{Bool, cond}
use mathlib.Core.Logic.{◌↔◌, inl, inr}
use mathlib.Core.Path.{◌≡◌, refl, sym, ◌∙◌}
use Prim.Native.Nat.{ℕ, ◌*◌, ◌≤◌, ◌<◌, min}
use native.Mathlib.Omega.{arith}
use lib.Dec.{eqb, ltb}
use borrow.Author.Tests.{eqb-true, eqb-false, eq-eqb, ne_eqb, ltb-true, ltb-false}
use Rattle.bits.specs.Below.{count}
use Rattle.bits.proofs.Below.{by_cases}
use Rattle.bits.proofs.Counting.{Two, count-le, count_at, count_two, count_is_two}
use Rattle.workflow.specs.Problem.{Kind, Job, Plan, same, different, at_most, at_least, maxLoad, least_of, most_of, heaviest_of, rule_of, distinct, largest_load, looked_at, figure_of, fewest, Asks, Met, RuleOk, Fits, Pair}
use Rattle.workflow.specs.Skipped.{AsksLeft}
use Rattle.workflow.proofs.Counts.{distinct-le_scope, distinct_some, distinct_pair}
use Rattle.workflow.proofs.Loads.{largest_load_few, count_load, fewest-le}

-- the count over a scope of two steps
pub distinct_of_pair : (n : ℕ) (scope : ℕ → Bool) (c : ℕ → ℕ) (s t : ℕ) → Pair n scope s t
    → (c s ≡ c t → distinct n scope c ≡ 1) × ((c s ≡ c t → ⊥) → distinct n scope c ≡ 2)
distinct_of_pair n scope c s t p =
    by_cases (ltb s t)
    (λ l. (λ e. ordered s t p (ltb-true _ _ l) ∙ rw (eq-eqb _ _ e) refl, λ d. ordered s t p (ltb-true _ _ l) ∙ rw (ne_eqb _ _ d) refl))
    (λ l. let m : t < s = after (ltb-false _ _ l) in
    (λ e. ordered t s turned m ∙ rw (eq-eqb _ _ (sym e)) refl, λ d. ordered t s turned m ∙ rw (ne_eqb _ _ (λ e. d (sym e))) refl))
  where
    after : t ≤ s → t < s
    after l = let d = p.differ in omega arith

    turned : Pair n scope t s
    turned =
        record {
          first = p.second;
          second = p.first;
          differ = λ e. p.differ (sym e);
          has_first = p.has_second;
          has_second = p.has_first;
          only = λ k l x y. p.only k l y x;
        }

    ordered : (s t : ℕ) → Pair n scope s t → s < t → distinct n scope c ≡ cond (eqb (c s) (c t)) 1 2
    ordered s t p l =
        distinct_pair n scope c
        (record {
          low = s;
          high = t;
          ordered = l;
          below = p.second;
          has_low = p.has_first;
          has_high = p.has_second;
          only = p.only;
        })

-- a scope of two steps, by its steps
pub scope_pair : (n : ℕ) (scope : ℕ → Bool) → count n scope ≡ 2 → (s : ℕ) × (t : ℕ) × Pair n scope s t
scope_pair n scope h =
    let w : Two n scope = count_is_two n scope h in (
      w.low,
      w.high,
      record {
        first = omega (arith, w.ordered, w.below);
        second = w.below;
        differ = λ e. omega (arith, w.ordered);
        has_first = w.has_low;
        has_second = w.has_high;
        only = w.only;
      },
    )

-- such a scope has two steps
pair_size : (n : ℕ) (scope : ℕ → Bool) (s t : ℕ) → Pair n scope s t → count n scope ≡ 2
pair_size n scope s t p =
    by_cases (ltb s t)
    (λ l. count_two n scope s t (ltb-true s t l) p.second p.has_first p.only ∙ rw p.has_second refl)
    (λ l. let m : t < s = (let a = ltb-false s t l in let d = p.differ in omega arith) in
    count_two n scope t s m p.first p.has_second (λ k b x y. p.only k b y x) ∙ rw p.has_first refl)

-- figures within the bounds of a kind are what the kind asks for with so many steps left: n classes over a scope of `left` steps, of so many in all, the
-- largest of which holds `load` of them
module _ (limit left n load steps : ℕ) (few : n ≤ left) (some : 1 ≤ left → 1 ≤ n) (inside : left ≤ steps) (light : load ≤ steps)
    (spread : (k : ℕ) → load ≤ k → left ≤ n * k) where
  pub bounds_ask : (k : Kind) → min (least_of k limit left) left ≤ n → n ≤ min (most_of k limit steps) steps → load ≤ min (heaviest_of k limit steps) steps
      → AsksLeft k limit left (looked_at k n load)
  bounds_ask same l m h = by_cases (ltb left 2) (λ t. inl (ltb-true left 2 t)) (λ t. inr (let z = ltb-false left 2 t in omega arith))
  bounds_ask different l m h = by_cases (ltb left 2) (λ t. inl (ltb-true left 2 t)) (λ t. inr (let z = ltb-false left 2 t in omega arith))
  bounds_ask at_most l m h = omega arith
  bounds_ask at_least l m h = l
  bounds_ask maxLoad l m h = omega arith

  pub ask_least : (k : Kind) → AsksLeft k limit left (looked_at k n load) → min (least_of k limit left) left ≤ n
  ask_least same (inl a) = by_cases (ltb 0 left) (λ t. let z = some (ltb-true 0 left t) in omega arith) (λ t. let z = ltb-false 0 left t in omega arith)
  ask_least same (inr a) = omega arith
  ask_least different (inl a) = by_cases (ltb 0 left) (λ t. let z = some (ltb-true 0 left t) in omega arith) (λ t. let z = ltb-false 0 left t in omega arith)
  ask_least different (inr a) = omega arith
  ask_least at_most a = omega arith
  ask_least at_least a = a
  ask_least maxLoad a = let z : fewest left limit ≤ n = fewest-le left limit n (spread limit a) in omega arith

  pub ask_most : (k : Kind) → AsksLeft k limit left (looked_at k n load) → n ≤ min (most_of k limit steps) steps
  ask_most same (inl a) = omega arith
  ask_most same (inr a) = omega arith
  ask_most different (inl a) = omega arith
  ask_most different (inr a) = omega arith
  ask_most at_most a = omega arith
  ask_most at_least a = omega arith
  ask_most maxLoad a = omega arith

  pub ask_load : (k : Kind) → AsksLeft k limit left (looked_at k n load) → load ≤ min (heaviest_of k limit steps) steps
  ask_load same a = omega arith
  ask_load different a = omega arith
  ask_load at_most a = omega arith
  ask_load at_least a = omega arith
  ask_load maxLoad a = omega arith

-- without a skipped step the limits fit, and a kind asks for what it did
pub asks_whole : (k : Kind) (limit size n : ℕ) → Fits k limit size → AsksLeft k limit size n ↔ Asks k limit n
asks_whole same limit size n f = (elim [ inl a ↦ absurd (omega (arith, f.0)) | inr a ↦ a ], λ a. inr a)
asks_whole different limit size n f = (elim [ inl a ↦ absurd (omega (arith, f.0)) | inr a ↦ a ], λ a. inr a)
asks_whole at_most limit size n f = (λ a. a, λ a. a)
asks_whole at_least limit size n f = (λ a. omega (arith, f.2), λ a. omega (arith, f.2))
asks_whole maxLoad limit size n f = (λ a. a, λ a. a)

-- where a scope has a step it has a class
pub class_some : (n : ℕ) (scope : ℕ → Bool) (c : ℕ → ℕ) → 1 ≤ count n scope → 1 ≤ distinct n scope c
class_some n scope c l = let s = count_at n scope l in distinct_some n scope c s.0 s.1 s.2

-- what the figures over a scope satisfy, whatever the classes
module _ (n : ℕ) (scope : ℕ → Bool) (c : ℕ → ℕ) (limit : ℕ) (k : Kind) where
  abbrev left : ℕ
  left = count n scope

  pub figures_ask : min (least_of k limit left) left ≤ distinct n scope c → distinct n scope c ≤ min (most_of k limit n) n
      → largest_load n scope c ≤ min (heaviest_of k limit n) n → AsksLeft k limit left (figure_of k n scope c)
  figures_ask = bounds_ask limit left _ _ n (distinct-le_scope n scope c) (class_some n scope c) (count-le n scope) (largest_load_few n scope c) (count_load n scope c) k

  pub figures_least : AsksLeft k limit left (figure_of k n scope c) → min (least_of k limit left) left ≤ distinct n scope c
  figures_least = ask_least limit left _ _ n (distinct-le_scope n scope c) (class_some n scope c) (count-le n scope) (largest_load_few n scope c) (count_load n scope c) k

  pub figures_most : AsksLeft k limit left (figure_of k n scope c) → distinct n scope c ≤ min (most_of k limit n) n
  figures_most = ask_most limit left _ _ n (distinct-le_scope n scope c) (class_some n scope c) (count-le n scope) (largest_load_few n scope c) (count_load n scope c) k

  pub figures_load : AsksLeft k limit left (figure_of k n scope c) → largest_load n scope c ≤ min (heaviest_of k limit n) n
  figures_load = ask_load limit left _ _ n (distinct-le_scope n scope c) (class_some n scope c) (count-le n scope) (largest_load_few n scope c) (count_load n scope c) k

-- a rule of a kind is met exactly where its figure is what the kind asks for
module _ (j : Job) (level limit : ℕ) (scope : ℕ → Bool) (π : Plan) where
  pub met_asks : (k : Kind) → Met j (rule_of j.steps k level limit scope) π
      ↔ AsksLeft k limit (count j.steps scope) (figure_of k j.steps scope (λ s. j.class level (π s)))
  met_asks k = (
    λ m. figures_ask j.steps scope (λ s. j.class level (π s)) limit k m.least m.most m.load,
    λ a. record {
      least = figures_least j.steps scope (λ s. j.class level (π s)) limit k a;
      most = figures_most j.steps scope (λ s. j.class level (π s)) limit k a;
      load = figures_load j.steps scope (λ s. j.class level (π s)) limit k a;
    },
  )

module _ (j : Job) (level : ℕ) (scope : ℕ → Bool) (π : Plan) (s t : ℕ) (pair : Pair j.steps scope s t) where
  one_or_two : (j.class level (π s) ≡ j.class level (π t) → distinct j.steps scope (λ u. j.class level (π u)) ≡ 1)
      × ((j.class level (π s) ≡ j.class level (π t) → ⊥) → distinct j.steps scope (λ u. j.class level (π u)) ≡ 2)
  one_or_two = distinct_of_pair j.steps scope _ s t pair

  -- kind same is the document's (s, s', ∼): "π(s) ∼ π(s')"
  pub same_iff : Met j (rule_of j.steps same level 0 scope) π ↔ (j.class level (π s) ≡ j.class level (π t))
  same_iff = (
    λ m. by_cases (eqb (j.class level (π s)) (j.class level (π t)))
        (λ e. eqb-true _ _ e) (λ e. absurd (omega (arith, one_or_two.1 (eqb-false _ _ e), m.most))),
    λ e. (met_asks j level 0 scope π same).1 (inr (one_or_two.0 e)),
  )

  -- kind different is the document's (s, s', ≁)
  pub different_iff : Met j (rule_of j.steps different level 0 scope) π ↔ (j.class level (π s) ≡ j.class level (π t) → ⊥)
  different_iff = (
    λ m e. omega (arith, one_or_two.0 e, m.least, pair_size j.steps scope s t pair),
    λ d. (met_asks j level 0 scope π different).1 (inr (one_or_two.1 d)),
  )

-- a rule of a readable sheet, whatever steps of its scope are left, has bounds within reach
pub rule_of_ok : (steps levels : ℕ) (k : Kind) (level limit : ℕ) (scope : ℕ → Bool) → 1 ≤ level → level ≤ levels
    → RuleOk steps levels (rule_of steps k level limit scope)
rule_of_ok steps levels k level limit scope a b = record { from = a; to = b; reachable = omega arith; bounded = omega arith }
