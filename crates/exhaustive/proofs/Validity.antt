-- A plan is valid exactly where no step is denied and no rule is broken. Assumes nothing.
use mathlib.Core.Bool.{Bool, true, false, not, ◌||◌}
use mathlib.Core.Logic.{◌⊎◌, inl, inr}
use mathlib.Core.Path.{◌≡◌, refl, sym, ◌∙◌, ap}
use Prim.Native.Nat.{ℕ, zero, suc, ◌^◌, ◌<◌, ◌≤◌, min}
use native.Mathlib.Omega.{arith}
use lib.Dec.{eqb, leb, ltb}
use borrow.Author.Tests.{eqb-true, eqb-false, leb-true, leb-false, ltb-true, ltb-false, not-true, not-false}
use Rattle.std.specs.Prelude.{Option, Some, None, is_some}
use Rattle.sheet.specs.Cards.{place_below}
use Rattle.sheet.proofs.Found.{place_some, place_none}
use Rattle.bits.specs.Below.{count}
use Rattle.bits.specs.Says.{Says}
use Rattle.bits.proofs.Below.{by_cases, true-false, first_has, first_none}
use Rattle.bits.proofs.Says.{says_of, says_true, says_false}
use Rattle.workflow.specs.Problem.{Job, Kind, same, different, May, Plan, OfPeople, Valid, figure_of, met, rule_of}
use Rattle.workflow.specs.Skipped.{AsksLeft}
use lib.ListN.{get_or}
use Rattle.std.specs.Int.Count.{ones}
use Rattle.bits.specs.Word.{has_bit}
use Rattle.bits.proofs.Masks.{size_same}
use Rattle.bits.proofs.Ones.{ones_bits}
use Rattle.workflow.specs.Numbered.{kind_in}
use Rattle.instance.specs.Instance.{instance_of, class_at}
use Rattle.sheet.specs.declared.SheetJob.{SheetJob}
use Rattle.exhaustive.specs.Trial.{denied_in, broken_in}
use Rattle.workflow.proofs.Rules.{met_asks}
use Rattle.workflow.proofs.Valid.{met_sound, met_complete}

-- ---- whether a place was found

pub no_place_found : (o : Option ℕ) → is_some o ≡ false → o ≡ None
no_place_found None h = refl
no_place_found (Some x) h = true-false refl h

pub place_found : (o : Option ℕ) → is_some o ≡ true → (x : ℕ) × (o ≡ Some x)
place_found None h = true-false h refl
place_found (Some x) h = (x, refl)

-- ---- a figure against a rule's kind and limit

says_eq : (a b : ℕ) → Says (eqb a b) (a ≡ b)
says_eq a b = says_of _ _ (eqb-true a b) (eqb-false a b)

says_le : (a b : ℕ) → Says (leb a b) (a ≤ b)
says_le a b = says_of _ _ (leb-true a b) (λ f l. omega (arith, leb-false a b f))

says_lt : (a b : ℕ) → Says (ltb a b) (a < b)
says_lt a b = says_of _ _ (ltb-true a b) (λ f l. omega (arith, ltb-false a b f))

-- one or the other
says_or : (P Q : Type 0) (a b : Bool) → Says a P → Says b Q → Says (a || b) (P ⊎ Q)
says_or P Q a b p q =
    by_cases a (λ t. rw t (says_of true (P ⊎ Q) (λ e. inl (says_true a P p t)) (λ e z. true-false refl e)))
    (λ t. by_cases b
    (λ u. rw (t, u) (says_of true (P ⊎ Q) (λ e. inr (says_true b Q q u)) (λ e z. true-false refl e)))
    (λ u. rw (t, u) (says_of false (P ⊎ Q) (λ e. true-false e refl) (λ e. elim [ inl x ↦ says_false a P p t x | inr x ↦ says_false b Q q u x ]))))

-- the smaller of two limits is reached where one of them is
says_smaller : (limit left count : ℕ) → Says (leb limit count || leb left count) (min limit left ≤ count)
says_smaller limit left count =
    let s = says_or (limit ≤ count) (left ≤ count) (leb limit count) (leb left count) (says_le limit count) (says_le left count) in
    says_of _ _
    (λ t. reached (says_true (leb limit count || leb left count) ((limit ≤ count) ⊎ (left ≤ count)) s t))
    (λ f l. says_false (leb limit count || leb left count) ((limit ≤ count) ⊎ (left ≤ count)) s f (which l))
  where
    reached : (limit ≤ count) ⊎ (left ≤ count) → min limit left ≤ count
    reached (inl a) = omega arith
    reached (inr a) = omega arith

    which : min limit left ≤ count → (limit ≤ count) ⊎ (left ≤ count)
    which l = by_cases (leb limit left) (λ t. inl (let z = leb-true limit left t in omega arith)) (λ t. inr (let z = leb-false limit left t in omega arith))

module _ (limit left count : ℕ) where
  pub asks_same : Says (ltb left 2 || eqb count 1) (AsksLeft same limit left count)
  asks_same = says_or (left < 2) (count ≡ 1) (ltb left 2) (eqb count 1) (says_lt left 2) (says_eq count 1)

  pub asks_different : Says (ltb left 2 || eqb count 2) (AsksLeft different limit left count)
  asks_different = says_or (left < 2) (count ≡ 2) (ltb left 2) (eqb count 2) (says_lt left 2) (says_eq count 2)

  -- the same of numbers: 1 to 5 as cards have them for the kinds; 0 is that of the first, and all from 5 on that of the last
  pub asks_one : (kind : ℕ) → kind ≤ 1 → Says (ltb left 2 || eqb count 1) (AsksLeft (kind_in kind) limit left count)
  asks_one zero l = asks_same
  asks_one (suc zero) l = asks_same
  asks_one (suc (suc n)) l = absurd (omega arith)

  pub asks_two : (kind : ℕ) → kind ≡ 2 → Says (ltb left 2 || eqb count 2) (AsksLeft (kind_in kind) limit left count)
  asks_two kind e = rw e asks_different

  pub asks_most : (kind : ℕ) → kind ≡ 3 → Says (leb count limit) (AsksLeft (kind_in kind) limit left count)
  asks_most kind e = rw e (says_le count limit)

  pub asks_least : (kind : ℕ) → kind ≡ 4 → Says (leb limit count || leb left count) (AsksLeft (kind_in kind) limit left count)
  asks_least kind e = rw e (says_smaller limit left count)

  pub asks_load : (kind : ℕ) → 5 ≤ kind → Says (leb count limit) (AsksLeft (kind_in kind) limit left count)
  asks_load zero l = absurd (omega arith)
  asks_load (suc zero) l = absurd (omega arith)
  asks_load (suc (suc zero)) l = absurd (omega arith)
  asks_load (suc (suc (suc zero))) l = absurd (omega arith)
  asks_load (suc (suc (suc (suc zero)))) l = absurd (omega arith)
  asks_load (suc (suc (suc (suc (suc n))))) l = says_le count limit

-- what was said of a rule's figure is whether the plan meets the rule
pub said_met : (j : Job) (kind : Kind) (level limit : ℕ) (scope : ℕ → Bool) (π : Plan) (left number : ℕ) (b : Bool)
    → left ≡ count j.steps scope → number ≡ figure_of kind j.steps scope (λ s. j.class level (π s))
    → Says b (AsksLeft kind limit left number) → b ≡ met j (rule_of j.steps kind level limit scope) π
said_met j kind level limit scope π left number b d e said =
    by_cases (met j (rule_of j.steps kind level limit scope) π)
    (λ t. by_cases b (λ u. u ∙ sym t)
    (λ u. absurd (says_false b _ said u (rw (d, e) ((met_asks j level limit scope π kind).0 (met_sound j _ π t))))))
    (λ t. by_cases b
    (λ u. true-false (met_complete j _ π ((met_asks j level limit scope π kind).1 (let a = says_true b _ said u in rw (sym d, sym e) a))) t)
    (λ u. u ∙ sym t))

-- ---- the first step denied, and the first rule broken

-- the same of rule i of a sheet's job
pub rule_met : (job : SheetJob) (people steps rules i : ℕ) (π : Plan) {left figure : ℕ} {b : Bool} {kind : Kind} → let scope = get_or job.rule_scope i 0 in
    kind ≡ kind_in (get_or job.rule_kind i 0) → scope < 4096 → scope < 2 ^ steps → left ≡ ones scope
    → figure ≡ figure_of kind steps (has_bit scope) (λ s. class_at job.levels job.class (get_or job.rule_level i 0) (π s))
    → Says b (AsksLeft kind (get_or job.rule_limit i 0) left figure)
    → b ≡ met (instance_of people steps rules job) ((instance_of people steps rules job).rule i) π
rule_met job people steps rules i π {left} {figure} {b} {kind} e few small l f says =
    let scope = get_or job.rule_scope i 0 in
    let j = instance_of people steps rules job in
    said_met j kind (get_or job.rule_level i 0) (get_or job.rule_limit i 0) (has_bit scope) π left figure b
    (l ∙ ones_bits 16 scope (omega arith) ∙ size_same 16 steps scope (omega arith) small) f says
    ∙ ap (λ (k : Kind). met j (rule_of steps k (get_or job.rule_level i 0) (get_or job.rule_limit i 0) (has_bit scope)) π) e

module _ (j : Job) (may : May) (π : Plan) where
  abbrev denied_at : ℕ → Bool
  denied_at s = not (may s (π s))

  abbrev broken_at : ℕ → Bool
  broken_at i = not (met j (j.rule i) π)

  pub denied_not_valid : denied_in j.steps may π < j.steps → Valid j may π → ⊥
  denied_not_valid l v = true-false (v.authorised (denied_in j.steps may π) l) (not-true _ (first_has j.steps denied_at l))

  broken_not_valid : broken_in j π < j.rules → Valid j may π → ⊥
  broken_not_valid l v = true-false (met_complete j _ π (v.eligible (broken_in j π) l)) (not-true _ (first_has j.rules broken_at l))

  pub none_valid : OfPeople j π → j.steps ≤ denied_in j.steps may π → j.rules ≤ broken_in j π → Valid j may π
  none_valid within a b =
      record {
        within = within;
        authorised = λ s l. not-false _ (first_none j.steps denied_at s (omega arith));
        eligible = λ i l. met_sound j _ π (not-false _ (first_none j.rules broken_at i (omega arith)));
      }

  pub says_valid : OfPeople j π → {broken : Option ℕ} → j.steps ≤ denied_in j.steps may π → broken ≡ place_below j.rules (broken_in j π)
      → (b : Bool) → is_some broken ≡ not b → Says b (Valid j may π)
  says_valid within {broken} a e b d =
      says_of b _
      (λ t. none_valid within a (place_none e (no_place_found broken (d ∙ ap not t))))
      (λ t v. let w = place_found broken (d ∙ ap not t) in let p = place_some e w.1 in broken_not_valid (omega (arith, p.0, p.1)) v)
