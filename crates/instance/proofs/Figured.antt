-- The figures of the rules, written one after the other. Assumes nothing.
use mathlib.Core.List.{List}
use mathlib.Core.Path.{◌≡◌, refl, ◌∙◌}
use Prim.Native.Nat.{ℕ, zero, suc, ◌+◌, ◌^◌, ◌≤◌, ◌<◌}
use native.Mathlib.Omega.{arith}
use lib.Dec.{eqb}
use lib.ListN.{length, get_or, set, replicate, length-set, length-replicate, get_or-replicate}
use lib.Pow.{pow_mono}
use lib.Seq.{get_or-set_same, get_or-set_other}
use borrow.Author.Tests.{eqb-true, eqb-false}
use Rattle.bits.proofs.Below.{by_cases}
use Rattle.bits.proofs.SetLaws.{has_below}
use Rattle.workflow.specs.Problem.{Kind, Job, Plan, OfPeople, class_count, class_load, looked_at}
use Rattle.workflow.specs.First.{plan_of}
use Rattle.workflow.specs.Numbered.{kind_in}
use Rattle.sheet.specs.Readable.{ReadableJob}
use Rattle.sheet.specs.declared.SheetJob as sheet
use Rattle.instance.specs.Instance.{instance_of}
use Rattle.instance.specs.Figures.{FiguresOf, RulesStaffed, Staffed}

module _ (kind : ℕ → Kind) (j : Job) (π : Plan) where
  pub figures_none : FiguresOf kind j π 0 (replicate {A = ℕ} 64 0)
  figures_none = record { sized = length-replicate {A = ℕ} 64 0; each = λ i l. absurd (omega arith); rest = λ i l m. get_or-replicate {A = ℕ} 64 i 0 0 m }

  pub figures_more : {n v : ℕ} {figures : List ℕ} → FiguresOf kind j π n figures → n < 64 → v ≡ looked_at (kind n) (class_count j (j.rule n) π) (class_load j (j.rule n) π) → FiguresOf kind j π (n + 1) (set figures n v)
  figures_more {n} {v} {figures} w l e =
      record {
        sized = length-set figures n v ∙ w.sized;
        each = λ i b.
            by_cases (eqb i n)
            (λ t. rw (eqb-true i n t) (get_or-set_same figures n v 0 (omega (arith, w.sized)) ∙ e))
            (λ t. get_or-set_other figures n i v 0 (eqb-false i n t) ∙ w.each i (let d = eqb-false i n t in omega arith));
        rest = λ i b m.
            let d : i ≡ n → ⊥ = λ h. absurd (omega arith) in
            get_or-set_other figures n i v 0 d ∙ w.rest i (omega arith) m;
      }

-- kind 5 looks at the largest load, and the others at the count
pub looks_at_load : (kind classes load : ℕ) → 4 < kind → looked_at (kind_in kind) classes load ≡ load
looks_at_load zero classes load l = absurd (omega arith)
looks_at_load (suc zero) classes load l = absurd (omega arith)
looks_at_load (suc (suc zero)) classes load l = absurd (omega arith)
looks_at_load (suc (suc (suc zero))) classes load l = absurd (omega arith)
looks_at_load (suc (suc (suc (suc zero)))) classes load l = absurd (omega arith)
looks_at_load (suc (suc (suc (suc (suc n))))) classes load l = refl

pub looks_at_count : (kind classes load : ℕ) → kind ≤ 4 → looked_at (kind_in kind) classes load ≡ classes
looks_at_count zero classes load l = refl
looks_at_count (suc zero) classes load l = refl
looks_at_count (suc (suc zero)) classes load l = refl
looks_at_count (suc (suc (suc zero))) classes load l = refl
looks_at_count (suc (suc (suc (suc zero)))) classes load l = refl
looks_at_count (suc (suc (suc (suc (suc n))))) classes load l = absurd (omega arith)

-- what a readable job has of its rules and of a plan of its people
module _ {people steps rules : ℕ} {j : sheet.SheetJob} (r : ReadableJob people steps rules j) where
  pub scoped : (i : ℕ) → i < rules → get_or j.rule_scope i 0 < 2 ^ steps
  scoped i l = (r.rule i l).scope

  pub staffed : (plan : List ℕ) → OfPeople (instance_of people steps rules j) (plan_of plan) → Staffed steps plan
  staffed plan within s l = omega (arith, within s l, r.people_most)

  pub rules_staffed : (plan : List ℕ) → length plan ≡ 12 → Staffed steps plan → RulesStaffed rules j plan
  rules_staffed plan sized all =
      record {
        few = r.rules_most;
        levels = r.levels_most;
        sized = sized;
        scoped = λ i l. let a : 2 ^ steps ≤ 2 ^ 12 = pow_mono r.steps_most in omega (arith, scoped i l);
        staffed = λ i s l h t b. all t (omega (arith, has_below steps (get_or j.rule_scope i 0) s (scoped i l) h));
      }
