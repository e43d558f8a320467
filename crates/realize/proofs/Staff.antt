-- Each step of a set has somebody, looked for step by step. Assumes nothing.
use mathlib.Core.Bool.{Bool, true, false}
use mathlib.Core.List.{List}
use mathlib.Core.Path.{◌≡◌, refl, sym, subst, ◌∙◌}
use Prim.Native.Nat.{ℕ, ◌^◌, ◌<◌}
use native.Mathlib.Omega.{arith}
use lib.Bits.{bit_and, and_le_r}
use lib.Dec.{eqb}
use lib.ListN.{length, get_or, set, length-set}
use lib.Seq.{get_or-set_same, get_or-set_other}
use borrow.Author.Tests.{eqb-true, eqb-false}
use Rattle.bits.specs.Word.{has_bit}
use Rattle.bits.specs.Set.{Lowest, FirstAndRest}
use Rattle.bits.proofs.Below.{by_cases, true-false}
use Rattle.bits.proofs.Counting.{and_of}
use Rattle.bits.proofs.Masks.{taken_was}
use Rattle.bits.proofs.SetLaws.{and-bit, and-bit_left, and-bit_right, empty_lacks, zero_empty, trailing_lowest, removed_other}
use Rattle.workflow.specs.Problem.{May}
use Rattle.pattern.specs.Tables.{may_in, plan_in}
use Rattle.realize.specs.Decision.{Able, Staffing}
use Rattle.realize.specs.Filling.{Untouched, StaffedBy}

-- an element of the mask of a step's people within C is somebody
able_of : (may : List ℕ) (people s p : ℕ) → has_bit (bit_and (get_or may s 0) people) p ≡ true → (has_bit people p ≡ true) × (may_in may s p ≡ true)
able_of may people s p h = (and-bit_right (get_or may s 0) people p h, and-bit_left (get_or may s 0) people p h)

-- and where there is none, there is nobody
able_none : (may : List ℕ) (people s : ℕ) → bit_and (get_or may s 0) people ≡ 0 → Able (may_in may) (has_bit people) s → ⊥
able_none may people s e (p, c, m) =
    true-false (and-bit (get_or may s 0) people p ∙ and_of (has_bit (get_or may s 0) p) (has_bit people p) m c) (zero_empty (bit_and (get_or may s 0) people) e p)

able_some : (may : List ℕ) (people s : ℕ) → people < 2 ^ 64 → (bit_and (get_or may s 0) people ≡ 0 → ⊥) → Able (may_in may) (has_bit people) s
able_some may people s l d =
    let k : bit_and (get_or may s 0) people < 2 ^ 64 = omega (arith, and_le_r (get_or may s 0) people) in
    let w = able_of may people s _ (trailing_lowest 64 (bit_and (get_or may s 0) people) k d).has in
    (_, w.0, w.1)

module _ (may : List ℕ) (people s : ℕ) {steps rest : ℕ} where
  pub staffing_next : {rest' : ℕ} → people < 2 ^ 64 → Staffing (may_in may) (has_bit people) steps rest → FirstAndRest rest s rest'
      → (bit_and (get_or may s 0) people ≡ 0 → ⊥) → Staffing (may_in may) (has_bit people) steps rest'
  staffing_next l w first d =
      record {
        part = λ k h. w.part k (taken_was first k h);
        able = λ k h n.
            by_cases (eqb k s)
            (λ t. subst (Able (may_in may) (has_bit people)) (sym (eqb-true k s t)) (able_some may people s l d))
            (λ t. w.able k h (sym (removed_other first.removed k (eqb-false k s t)) ∙ n));
      }

  pub staffing_fails : Staffing (may_in may) (has_bit people) steps rest → Lowest rest s → bit_and (get_or may s 0) people ≡ 0
      → Staffing (may_in may) (has_bit people) steps 0 → ⊥
  staffing_fails w low e all = able_none may people s e (all.able s (w.part s low.has) (empty_lacks s))

pub staffing_all : {may : May} {C : ℕ → Bool} {steps rest : ℕ} → Staffing may C steps rest → rest ≡ 0 → Staffing may C steps 0
staffing_all {may} {C} {steps} w e = subst (Staffing may C steps) e w

-- ---- the same, with a plan written

pub untouched : (steps : ℕ) (plan : List ℕ) → Untouched steps plan plan
untouched steps plan = record { sized = refl; kept = λ s h. refl }

module _ (may : List ℕ) (people : ℕ) {steps rest s rest' : ℕ} {plan₀ plan : List ℕ} (w : StaffedBy (may_in may) (has_bit people) steps rest plan₀ plan)
    (first : FirstAndRest rest s rest') where
  pub staffed_skip : bit_and (get_or may s 0) people ≡ 0 → StaffedBy (may_in may) (has_bit people) steps rest' plan₀ plan
  staffed_skip e =
      record {
        kept = w.kept;
        part = λ k h. w.part k (taken_was first k h);
        able = λ k h n a.
            by_cases (eqb k s)
            (λ t. absurd (able_none may people s e (subst (Able (may_in may) (has_bit people)) (eqb-true k s t) a)))
            (λ t. w.able k h (sym (removed_other first.removed k (eqb-false k s t)) ∙ n) a);
      }

  pub staffed_take : (p : ℕ) → s < length plan → Lowest (bit_and (get_or may s 0) people) p → StaffedBy (may_in may) (has_bit people) steps rest' plan₀ (set plan s p)
  staffed_take p l low =
      record {
        kept = record {
          sized = length-set plan s p ∙ w.kept.sized;
          kept = λ k h. get_or-set_other plan s k p 0 (λ e. true-false (w.part s first.lowest.has) (subst (λ (x : ℕ). has_bit steps x ≡ false) e h)) ∙ w.kept.kept k h;
        };
        part = λ k h. w.part k (taken_was first k h);
        able = λ k h n a.
            by_cases (eqb k s)
            (λ t. subst (λ (x : ℕ). (has_bit people (plan_in (set plan s p) x) ≡ true) × (may_in may x (plan_in (set plan s p) x) ≡ true)) (sym (eqb-true k s t))
            (subst (λ (x : ℕ). (has_bit people x ≡ true) × (may_in may s x ≡ true)) (sym (get_or-set_same plan s p 0 l)) (able_of may people s p low.has)))
            (λ t. let d : k ≡ s → ⊥ = eqb-false k s t in
            subst (λ (x : ℕ). (has_bit people x ≡ true) × (may_in may k x ≡ true)) (sym (get_or-set_other plan s k p 0 d))
            (w.able k h (sym (removed_other first.removed k d) ∙ n) a));
      }

pub staffed_all : {may : May} {C : ℕ → Bool} {steps rest : ℕ} {plan₀ plan : List ℕ} → StaffedBy may C steps rest plan₀ plan → rest ≡ 0
    → StaffedBy may C steps 0 plan₀ plan
staffed_all {may} {C} {steps} {rest} {plan₀} {plan} w e = subst (λ (x : ℕ). StaffedBy may C steps x plan₀ plan) e w
