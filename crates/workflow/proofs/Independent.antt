-- Every rule, of each of the five kinds, is class-independent for its level. Assumes nothing.
use mathlib.Core.Bool.{true}
use mathlib.Core.Path.{◌≡◌, sym, ◌∙◌, ap}
use Prim.Native.Nat.{ℕ, ◌<◌}
use native.Mathlib.Omega.{arith}
use lib.Dec.{ltb}
use borrow.Author.Tests.{ltb-true, ltb-false}
use Rattle.bits.proofs.Below.{by_cases}
use Rattle.workflow.specs.Problem.{Rule, Job, Plan}
use Rattle.workflow.specs.Independent.{OnScope, classes_of, ClassMember, Permutes, ClassIndependent, constraint, Alike}
use Rattle.workflow.proofs.Valid.{met_alike, met_cong}

-- the person that stands for p once the classes are permuted
replaced : (j : Job) (q : ℕ) (φ : ℕ → ℕ) → Permutes j q φ → (p : ℕ)
    → (p' : ℕ) × (p < j.people → (p' < j.people) × (j.class q p' ≡ φ (j.class q p)))
replaced j q φ perm p =
    by_cases (ltb p j.people)
    (λ t. let w = perm.into p (ltb-true _ _ t) in (w.0, λ l. (w.1, w.2)))
    (λ t. (0, λ l. absurd (omega (arith, ltb-false p j.people t))))

-- the rule is class-independent: its count and its loads know only which steps of the scope share a class, and a permutation keeps that
pub rule_independent : (j : Job) (r : Rule) → ClassIndependent j r.level (constraint j r)
rule_independent j r =
    record {
      by_class = λ θ on m. met_cong j r m.plan θ (λ s l k. m.agrees s (l, k)) m.belongs;
      permuted = λ φ perm θ on m. moved φ perm θ on m;
    }
  where
    moved : (φ : ℕ → ℕ) → Permutes j r.level φ → (θ : Plan) → OnScope j (constraint j r) θ
        → ClassMember j r.level (constraint j r) (classes_of j r.level θ)
        → ClassMember j r.level (constraint j r) (λ s. φ (classes_of j r.level θ s))
    moved φ perm θ on m =
        let σ : Plan = λ s. (replaced j r.level φ perm (θ s)).0 in
        let is : (s : ℕ) → s < j.steps → r.scope s ≡ true → j.class r.level (σ s) ≡ φ (j.class r.level (θ s))
        = λ s l k. ((replaced j r.level φ perm (θ s)).1 (on s (l, k))).1
        in
        let kept : Alike j.steps r.scope (classes_of j r.level m.plan) (classes_of j r.level σ)
        = record {
          forth = λ s t a b h k e.
              is s a h
              ∙ ap φ (sym (m.agrees s (a, h)) ∙ e ∙ m.agrees t (b, k))
              ∙ sym (is t b k);
          back = λ s t a b h k e.
              m.agrees s (a, h)
              ∙ perm.injective (θ s) (θ t) (on s (a, h)) (on t (b, k)) (sym (is s a h) ∙ e ∙ is t b k)
              ∙ sym (m.agrees t (b, k));
        }
        in
        record {
          plan = σ;
          on = λ s i. ((replaced j r.level φ perm (θ s)).1 (on s i)).0;
          belongs = met_alike j r m.plan σ kept m.belongs;
          agrees = λ s i. is s i.0 i.1;
        }
