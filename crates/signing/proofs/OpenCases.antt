-- An opening is one of three cases. Assumes nothing.
use mathlib.Core.List.{List}
use mathlib.Core.Path.{◌≡◌, refl, ◌∙◌, ap}
use Prim.Native.Nat.{ℕ}
use Rattle.sheet.specs.Read.{Read, job, fault, read_sheet}
use Rattle.workflow.specs.First.{plan_of, first_plan}
use Rattle.workflow.proofs.First.{found_cases, first_plan_found, first_plan_nothing}
use Rattle.instance.specs.Instance.{instance_in, may_do}
use Rattle.signing.specs.Cases.{OpenCase, unreadable, planless, done}
use Rattle.signing.specs.Open.{if_plan, open_read, open_answer}
use Rattle.signing.specs.declared.JobState.{JobState}

module _ (s : List ℕ) (j : JobState) where
  pub open_cases : OpenCase s j (open_answer j s)
  unfolding open_read if_plan
  open_cases = go (read_sheet s) refl
    where
      go : (r : Read) → read_sheet s ≡ r → OpenCase s j (open_answer j s)
      go (fault f c) e = unreadable f c e (ap (open_read j s) e)
      go (job people steps rules) e =
          let posed = instance_in s people steps rules in
          let may = may_do s people steps rules in
          found_cases (first_plan posed may)
          (λ xs f. done people steps rules e (plan_of xs, (first_plan_found posed may xs f).1.valid) (ap (open_read j s) e ∙ ap (if_plan s j) f))
          (λ f. planless people steps rules e (λ w. first_plan_nothing posed may f w.0 w.1) (ap (open_read j s) e ∙ ap (if_plan s j) f))
