-- The first person of a class as its label: what the labels of a rule's steps say of a plan. Assumes nothing.
use mathlib.Core.Bool.{Bool, true}
use mathlib.Core.List.{List}
use mathlib.Core.Path.{◌≡◌, sym, subst, ◌∙◌}
use Prim.Native.Nat.{ℕ, ◌^◌, ◌≤◌, ◌<◌}
use native.Mathlib.Omega.{arith}
use Rattle.bits.specs.Says.{Says}
use Rattle.bits.specs.Word.{has_bit}
use Rattle.bits.proofs.SetLaws.{has_below}
use Rattle.workflow.specs.Labels.{LabelsOf}
use Rattle.workflow.specs.Problem.{Job, OfPeople, class_count, class_load, distinct, largest_load}
use Rattle.pattern.proofs.Number.{uses_distinct, uses_load, use_le}
use Rattle.pattern.specs.declared.Size.{Size}
use Rattle.pattern.specs.Number.{first_use}
use Rattle.pattern.specs.Rule.{level_in, load_in, scope_in, unpacked}
use Rattle.pattern.specs.Tables.{class_in, plan_in}
use Rattle.eligible.specs.Classes.{ForClasses, ForJobs, RuleAt}

-- the name of the class of a step's person, at the level of a rule
abbrev pub named : ℕ → List ℕ → Job → ℕ → ℕ
named r plan j s = first_use j.people (j.class (level_in r)) (plan_in plan s)

-- what is read of the rule
module _ (crowd plan : List ℕ) (r : ℕ) {scope : ℕ} (its_scope : scope ≡ scope_in r) where
  pub its_steps : {size : Size} → RuleAt size crowd r → scope < 2 ^ size.steps
  its_steps {size} at = subst (λ (m : ℕ). m < 2 ^ size.steps) (sym its_scope) at.scoped

  -- a label that names the class of a step's person does so at the level of the rule
  pub name_at : {level : ℕ} (s v : ℕ) → level ≡ level_in r → ForClasses crowd level (λ people c. plan_in plan s < people → v ≡ first_use people c (plan_in plan s))
      → has_bit scope s ≡ true → ForJobs crowd r (λ j. OfPeople j (plan_in plan) → v ≡ named r plan j s)
  name_at {level} s v its_level name h size rule at within =
      subst (λ (q : ℕ). ForClasses crowd q (λ people c. plan_in plan s < people → v ≡ first_use people c (plan_in plan s))) its_level name
      size.people at.grouped (within s (has_below size.steps scope s (its_steps at) h))

  -- a word can hold it
  pub name_small : (s : ℕ) → has_bit scope s ≡ true → ForJobs crowd r (λ j. OfPeople j (plan_in plan) → named r plan j s < 64)
  name_small s h size rule at within =
      omega (
        arith,
        at.grouped.few,
        use_le size.people (class_in crowd (level_in r)) (plan_in plan s),
        within s (has_below size.steps scope s (its_steps at) h),
      )

  -- there are as many names as the count of the rule
  pub walked_all : {labels n : ℕ} → ((m : ℕ) (S : ℕ → Bool) (c : ℕ → ℕ) → LabelsOf m S c labels → n ≡ distinct m S c)
      → ForJobs crowd r (λ j. OfPeople j (plan_in plan) → LabelsOf j.steps (has_bit scope) (named r plan j) labels → n ≡ class_count j (unpacked r) (plan_in plan))
  walked_all {labels} counted size rule at within gathered =
      counted size.steps (has_bit (scope_in r)) _ (rw its_scope at gathered)
      ∙ uses_distinct size.people (class_in crowd (level_in r)) size.steps (has_bit (scope_in r)) (plan_in plan) (λ s l h. within s l)

  -- and the largest number of steps with one name is the largest load
  pub plan_loaded : (b : Bool) → ForJobs crowd r (λ j. OfPeople j (plan_in plan) → Says b (largest_load j.steps (has_bit scope) (named r plan j) ≤ load_in r)
      → Says b (class_load j (unpacked r) (plan_in plan) ≤ load_in r))
  plan_loaded b size rule at within says =
      subst (λ (x : ℕ). Says b (x ≤ load_in r))
      (uses_load size.people (class_in crowd (level_in r)) size.steps (has_bit (scope_in r)) (plan_in plan) (λ s l h. within s l))
      (rw its_scope at says)
