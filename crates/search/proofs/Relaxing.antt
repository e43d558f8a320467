-- A relaxed job without a valid plan: the job has none. Assumes nothing.
use mathlib.Core.Bool.{Bool, true, false, not}
use mathlib.Core.List.{List}
use Rattle.std.specs.Prelude.{Option, None, Some, is_some}
use mathlib.Core.Path.{◌≡◌, refl, sym}
use Prim.Native.Nat.{ℕ}
use borrow.Author.Tests.{not-true}
use Rattle.bits.proofs.Below.{true-false}
use Rattle.workflow.specs.Problem.{Job, May}
use Rattle.pattern.specs.Tables.{may_in}
use Rattle.pattern.proofs.Classes.{numbered_same}
use Rattle.levels.specs.declared.Tables.{Tables}
use Rattle.levels.specs.Tabled.{tabled_job, Ready}
use Rattle.levels.specs.Trims.{Trims}
use Rattle.relax.specs.Relaxed.{Relaxes}
use Rattle.search.specs.Existence.{Existence, Refuting}

module _ {t one : Tables} {carried : List ℕ} (ready : Ready t) (law : Relaxes t.size t.class t.rule carried)
    (trims : Trims t.size t.class carried one) where
  pub refuting : (may : List ℕ) (found : Option (List ℕ)) (r : Bool) → is_some found ≡ not r → Existence (tabled_job one) (may_in may) found
      → Refuting (tabled_job t) (may_in may) r
  refuting may None r h x =
      let known = numbered_same ready.tabled.given ready.numbers in
      record {
        none_valid = λ e (π, v). x (π, (trims.same.valid (may_in may) π).0 (law.valid (may_in may) π ((known.valid (may_in may) π).0 v)));
      }
  refuting may (Some plan) r h x = record { none_valid = λ e. true-false e (not-true r (sym h)) }

pub refuting_none : (j : Job) (may : May) → Refuting j may false
refuting_none j may = record { none_valid = λ e. true-false e refl }

-- a job that is refuted has no valid plan
pub existence_refuted : (j : Job) (may : May) (r : Bool) → Refuting j may r → r ≡ true → Existence j may None
existence_refuted j may r w t = w.none_valid t
