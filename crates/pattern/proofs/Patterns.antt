-- Every plan has a pattern on every set of steps, and what it is to have one depends on little. Assumes nothing.
use mathlib.Core.Bool.{Bool, true, false, ◌&&◌}
use mathlib.Core.Path.{◌≡◌, refl, sym, ap, ◌∙◌}
use Prim.Native.Nat.{ℕ, suc, ◌≤◌, ◌<◌}
use native.Mathlib.Omega.{arith}
use lib.Dec.{eqb}
use borrow.Author.Tests.{eqb-true, eq-eqb}
use Rattle.bits.specs.Below.{first}
use Rattle.bits.proofs.Below.{true-false, and_left, and_right, first_has}
use Rattle.bits.proofs.Counting.{and_of}
use Rattle.workflow.specs.Problem.{Job, Plan}
use Rattle.workflow.specs.Independent.{classes_of}
use Rattle.pattern.specs.Pattern.{Label, Pattern, Refining, Has, pattern_of}
use Rattle.pattern.proofs.Sets.{alike_part, alike_cong, alike_trans}
use Rattle.pattern.proofs.Number.{first_at_most}

module _ (j : Job) (placed : ℕ → Bool) (π : Plan) (q : ℕ) where
  -- the label of a step is a placed step of its class
  label_facts : (s : ℕ) → s < j.steps → placed s ≡ true
      → (pattern_of j placed π q s < j.steps) × (placed (pattern_of j placed π q s) ≡ true) × (classes_of j q π (pattern_of j placed π q s) ≡ classes_of j q π s)
  unfolding pattern_of
  label_facts s l h =
      let test : ℕ → Bool = λ t. placed t && eqb (classes_of j q π t) (classes_of j q π s) in
      let m : first j.steps test < j.steps
      = omega (arith, first_at_most j.steps test s (and_of (placed s) _ h (eq-eqb (classes_of j q π s) (classes_of j q π s) refl)))
      in
      let x : test (first j.steps test) ≡ true = first_has j.steps test m in
      (m, and_left (placed (first j.steps test)) _ x, eqb-true _ _ (and_right (placed (first j.steps test)) _ x))

  -- steps of one class have one label
  label_same : (s t : ℕ) → classes_of j q π s ≡ classes_of j q π t → pattern_of j placed π q s ≡ pattern_of j placed π q t
  unfolding pattern_of
  label_same s t e = ap (λ (v : ℕ). first j.steps (λ u. placed u && eqb (classes_of j q π u) v)) e

  label_tells : (s t : ℕ) → s < j.steps → t < j.steps → placed s ≡ true → placed t ≡ true
      → pattern_of j placed π q s ≡ pattern_of j placed π q t → classes_of j q π s ≡ classes_of j q π t
  label_tells s t l m h k e = sym (label_facts s l h).2 ∙ ap (classes_of j q π) e ∙ (label_facts t m k).2

module _ (j : Job) (placed : ℕ → Bool) (π : Plan) where
  -- "There is a NER-pattern p for every plan π"
  pub pattern_has : Has j placed (pattern_of j placed π) π
  pattern_has =
      record {
        alike = λ q a b. record {
          forth = λ s t l m h k e. label_same j placed π q s t e;
          back = λ s t l m h k e. label_tells j placed π q s t l m h k e;
        };
      }

  -- and it is consistent
  pub pattern_of_lem : Refining j → ((s : ℕ) → s < j.steps → placed s ≡ true → π s < j.people) → Pattern j.steps j.levels placed (pattern_of j placed π)
  pattern_of_lem refining within =
      record {
        labelled = λ q a b. record {
          below = λ s l h. (label_facts j placed π q s l h).0;
          among = λ s l h. (label_facts j placed π q s l h).1;
          own = λ s l h. label_same j placed π q _ s (label_facts j placed π q s l h).2;
        };
        consistent = record {
          finer = λ q s t a b l m h k e.
              label_same j placed π q s t
              (refining.finer q (π s) (π t) a b (within s l h) (within t m k) (label_tells j placed π (suc q) s t l m h k e));
        };
      }

-- having a pattern depends on the labels of the placed steps at the job's levels only
pub has_cong : (j : Job) (placed : ℕ → Bool) (label label' : Label) (π : Plan)
    → ((q s : ℕ) → 1 ≤ q → q ≤ j.levels → s < j.steps → placed s ≡ true → label q s ≡ label' q s)
    → Has j placed label π → Has j placed label' π
has_cong j placed label label' π e h =
    record {
      alike = λ q a b.
          alike_trans j.steps placed (classes_of j q π) (label q) (label' q) (h.alike q a b)
          (alike_cong j.steps placed (label q) (label' q) (λ s l i. e q s a b l i));
    }

-- and on the people of the placed steps only
pub has_agree : (j : Job) (placed : ℕ → Bool) (label : Label) (π σ : Plan) → ((s : ℕ) → s < j.steps → placed s ≡ true → π s ≡ σ s)
    → Has j placed label π → Has j placed label σ
has_agree j placed label π σ e h =
    record {
      alike = λ q a b.
          alike_trans j.steps placed (classes_of j q σ) (classes_of j q π) (label q)
          (alike_cong j.steps placed (classes_of j q σ) (classes_of j q π) (λ s l i. ap (j.class q) (sym (e s l i)))) (h.alike q a b);
    }

-- a plan that has the pattern has it on fewer steps
pub has_part : (j : Job) (part placed : ℕ → Bool) (label : Label) (π : Plan)
    → ((s : ℕ) → s < j.steps → part s ≡ true → placed s ≡ true) → Has j placed label π → Has j part label π
has_part j part placed label π less h =
    record { alike = λ q a b. alike_part j.steps part placed (classes_of j q π) (label q) less (h.alike q a b) }

-- nothing placed: the empty pattern is a pattern, and every plan has it
pub nothing_pattern : (steps levels : ℕ) (placed : ℕ → Bool) (label : Label) → ((s : ℕ) → s < steps → placed s ≡ false) → Pattern steps levels placed label
nothing_pattern steps levels placed label h =
    record {
      labelled = λ q a b. record {
        below = λ s l i. true-false i (h s l);
        among = λ s l i. true-false i (h s l);
        own = λ s l i. true-false i (h s l);
      };
      consistent = record { finer = λ q s t a b l m i k e. true-false i (h s l) };
    }

pub nothing_has : (j : Job) (placed : ℕ → Bool) (label : Label) (π : Plan) → ((s : ℕ) → s < j.steps → placed s ≡ false) → Has j placed label π
nothing_has j placed label π h =
    record {
      alike = λ q a b. record {
        forth = λ s t l m i k e. true-false i (h s l);
        back = λ s t l m i k e. true-false i (h s l);
      };
    }
