-- What holds of the job that the tables pose holds of the job of the sheet. Assumes nothing.
use mathlib.Core.List.{List}
use mathlib.Core.Logic.{◌↔◌}
use mathlib.Core.Path.{◌≡◌, sym, ◌∙◌}
use Prim.Native.Nat.{ℕ}
use Rattle.sheet.specs.declared.SheetJob as sheet
use Rattle.workflow.specs.Problem.{Plan, Valid}
use Rattle.workflow.specs.First.{first_plan}
use Rattle.workflow.proofs.Same.{same_first, permitted_first, permitted_valid}
use Rattle.instance.specs.Instance.{instance_of, may_of}
use Rattle.pattern.specs.Tables.{may_in}
use Rattle.levels.specs.declared.Tables.{Tables}
use Rattle.levels.specs.Tabled.{tabled_job}
use Rattle.tables.specs.Posing.{Poses, Permits}

module _ {people steps rules : ℕ} {j : sheet.SheetJob} {t : Tables} {may : List ℕ} (w : Poses people steps rules j t) (m : Permits people steps j may) where
  pub posed_first : first_plan (instance_of people steps rules j) (may_of j) ≡ first_plan (tabled_job t) (may_in may)
  posed_first =
      sym (permitted_first (instance_of people steps rules j) (may_in may) (may_of j) m.permitted) ∙ sym (same_first w.same (may_in may))

  pub posed_valid : (π : Plan) → Valid (instance_of people steps rules j) (may_of j) π ↔ Valid (tabled_job t) (may_in may) π
  posed_valid π =
      let p = permitted_valid (instance_of people steps rules j) (may_in may) (may_of j) m.permitted π in
      let s = w.same.valid (may_in may) π in
      (λ v. s.0 (p.1 v), λ v. p.0 (s.1 v))
