-- The question whether a job can still be finished, put to the tables of the search. Assumes nothing.
use mathlib.Core.Bool.{Bool, true, false, ◌&&◌}
use Rattle.std.specs.Prelude.{Option, Some, None, is_some}
use Rattle.bits.proofs.Below.{true-false}
use mathlib.Core.List.{List}
use mathlib.Core.Path.{◌≡◌, refl, sym, ◌∙◌, ap}
use Prim.Native.Nat.{ℕ, ◌≤◌, ◌<◌}
use native.Mathlib.Omega.{arith}
use lib.ListN.{get_or}
use Rattle.bits.specs.Says.{Says}
use Rattle.bits.proofs.Says.{says_of}
use Rattle.sheet.specs.declared.SheetJob as sheet
use Rattle.workflow.specs.Problem.{Satisfiable}
use Rattle.workflow.proofs.Same.{same_satisfiable}
use Rattle.workflow.proofs.Valid.{satisfiable_mono}
use Rattle.instance.specs.Instance.{instance_of, may_of}
use Rattle.pattern.specs.Tables.{may_in, plan_in}
use Rattle.levels.specs.declared.Tables.{Tables}
use Rattle.levels.specs.Tabled.{tabled_job}
use Rattle.search.specs.Existence.{Existence}
use Rattle.tables.specs.Posing.{Poses, Permits}
use Rattle.signing.specs.Bound.{left_to, bound}
use Rattle.signing.specs.Masks.{BoundMasks}

module _ {people steps rules : ℕ} {j : sheet.SheetJob} {t : Tables} {may rest signer : List ℕ}
    (few_steps : steps ≤ 12) (few_people : people ≤ 64)
    (w : Poses people steps rules j t) (m : Permits people steps j may) (b : BoundMasks may signer 12 rest) where
  -- the masks say who may do a step
  same_may : (s p : ℕ) → s < steps → p < people → may_in rest s p ≡ bound (may_of j) signer s p
  same_may s p l k =
      b.each s p (omega arith) (omega arith)
      ∙ ap (λ (x : Bool). x && left_to (get_or signer s 0) p) (m.permitted s p l k)

  pub asked : (o : Option (List ℕ)) → Existence (tabled_job t) (may_in rest) o
      → Says (is_some o) (Satisfiable (instance_of people steps rules j) (bound (may_of j) signer))
  asked (Some plan) x =
      says_of true (Satisfiable (instance_of people steps rules j) (bound (may_of j) signer))
      (λ e.
      satisfiable_mono (instance_of people steps rules j) (may_in rest) (bound (may_of j) signer) (λ s p l k h. sym (same_may s p l k) ∙ h)
      ((same_satisfiable w.same (may_in rest)).1 (plan_in plan, x.1)))
      (λ e v. true-false refl e)
  asked None x =
      says_of false (Satisfiable (instance_of people steps rules j) (bound (may_of j) signer))
      (λ e. true-false e refl)
      (λ e v.
      x
      ((same_satisfiable w.same (may_in rest)).0
      (satisfiable_mono (instance_of people steps rules j) (bound (may_of j) signer) (may_in rest) (λ s p l k h. same_may s p l k ∙ h) v)))
