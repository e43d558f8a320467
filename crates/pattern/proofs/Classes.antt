-- Classes given in two ways that have the same people in one class: under either the job has the same valid plans. Assumes nothing.
use mathlib.Core.List.{List}
use mathlib.Core.Logic.{◌↔◌}
use mathlib.Core.Path.{◌≡◌, refl, sym, ◌∙◌}
use Prim.Native.Nat.{ℕ, suc, ◌≤◌, ◌<◌}
use native.Mathlib.Omega.{arith}
use Rattle.workflow.specs.Same.{SamePlans}
use Rattle.workflow.proofs.Same.{renamed_same}
use Rattle.pattern.specs.declared.Size.{Size}
use Rattle.pattern.specs.Given.{Ruled, Given, Numbers, ClassTable, Classed}
use Rattle.pattern.specs.Pattern.{Refining}
use Rattle.pattern.specs.Number.{number_of}
use Rattle.pattern.specs.Tables.{class_in, job_with, job_in}
use Rattle.pattern.proofs.Number.{number_same, number_tells, number_few, number_moves}

-- two ways to give the classes, in which the same people share one: the job has the same plans
pub same_classes : (size : Size) (rule : List ℕ) (c d : ℕ → ℕ → ℕ) → Ruled size rule
    → ((q p p' : ℕ) → 1 ≤ q → q ≤ size.levels → p < size.people → p' < size.people → (c q p ≡ c q p') ↔ (d q p ≡ d q p'))
    → SamePlans (job_with size c rule) (job_with size d rule)
same_classes size rule c d w alike =
    renamed_same _ _
    (record {
      steps = refl;
      people = refl;
      rules = refl;
      least = λ i l. refl;
      most = λ i l. refl;
      load = λ i l. refl;
      scope = λ i s l. refl;
      classes = λ i p p' l h h'. let k = w.rule_ok i l in alike _ p p' k.from k.to h h';
    })

-- people of one class of the table a are in one class of the table b
abbrev pub Joined : Size → List ℕ → List ℕ → Type 0
Joined size a b = (q p p' : ℕ) → 1 ≤ q → q ≤ size.levels → p < size.people → p' < size.people → class_in a q p ≡ class_in a q p' → class_in b q p ≡ class_in b q p'

module _ (size : Size) (a b rule : List ℕ) (forth : Joined size a b) (back : Joined size b a) where
  pub refining_moves : Refining (job_in size a rule) → Refining (job_in size b rule)
  refining_moves w =
      record { finer = λ q p p' l m h h' e. forth q p p' l (omega arith) h h' (w.finer q p p' l m h h' (back (suc q) p p' (omega arith) m h h' e)) }

  pub numbers_move : (q p : ℕ) → 1 ≤ q → q ≤ size.levels → p < size.people
      → number_of size.people (class_in a q) p ≡ number_of size.people (class_in b q) p
  numbers_move q p l m h =
      number_moves size.people (class_in a q) (class_in b q) (λ x y k k' e. forth q x y l m k k' e) (λ x y k k' e. back q x y l m k k' e) p h

  pub same_plans : Ruled size rule → SamePlans (job_in size a rule) (job_in size b rule)
  same_plans w = same_classes size rule (class_in a) (class_in b) w (λ q p p' l m h h'. (forth q p p' l m h h', back q p p' l m h h'))

-- ---- the numbers of classes that are known by the masks of their people

module _ {size : Size} {class crowd rule : List ℕ} (given : Given size crowd rule) (its : Numbers size class crowd) where
  pub numbered_forth : Joined size crowd class
  numbered_forth q p p' l m h h' e =
      its.numbers q p l m h ∙ number_same size.people (class_in crowd q) p p' e ∙ sym (its.numbers q p' l m h')

  pub numbered_back : Joined size class crowd
  numbered_back q p p' l m h h' e =
      number_tells size.people (class_in crowd q) p p' h h' (sym (its.numbers q p l m h) ∙ e ∙ its.numbers q p' l m h')

  pub numbered_classed : Classed size class rule
  numbered_classed =
      record {
        ruled = given.ruled;
        few_people = given.few_people;
        classes = its.sized;
        refining = refining_moves size crowd class rule numbered_forth numbered_back given.refining;
        numbers = λ q p l m h. its.numbers q p l m h ∙ numbers_move size crowd class rule numbered_forth numbered_back q p l m h;
      }

  pub numbered_same : SamePlans (job_in size crowd rule) (job_in size class rule)
  numbered_same = same_plans size crowd class rule numbered_forth numbered_back given.ruled

-- a number is less than 64
pub number_small : {size : Size} {class rule : List ℕ} → Classed size class rule → (q p : ℕ) → 1 ≤ q → q ≤ size.levels → p < size.people → class_in class q p < 64
number_small {size} {class} w q p l m h = omega (arith, w.numbers q p l m h, number_few size.people (class_in class q) p h, w.few_people)

pub classed_table : {size : Size} {class rule : List ℕ} → Classed size class rule → ClassTable size.people size.levels class
classed_table w = record { few = w.few_people; sized = w.classes; numbers = w.numbers; finer = w.refining.finer }
