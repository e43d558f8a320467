-- From a set of steps to a group of the next level. Assumes nothing.
use mathlib.Core.Bool.{Bool, true}
use mathlib.Core.Path.{◌≡◌, sym, ◌∙◌}
use Prim.Native.Nat.{ℕ, suc, ◌+◌, ◌<◌}
use native.Mathlib.Omega.{arith}
use Rattle.workflow.specs.Problem.{Job}
use Rattle.pattern.specs.Pattern.{Label, Labelled}
use Rattle.pattern.specs.Realize.{fibre}
use Rattle.pattern.proofs.Levels.{consistent_up}
use Rattle.pattern.proofs.Sets.{fibre_of, fibre_in, fibre_at}
use Rattle.realize.specs.Parts.{Steps}

-- a group holds whole groups of the levels below its own
pub steps_next : (j : Job) (label : Label) (q g : ℕ) (S G : ℕ → Bool) → q < j.levels → Steps j label q S
    → ((s : ℕ) → G s ≡ fibre S (label (suc q)) g s) → Steps j label (q + 1) G
steps_next j label q g S G deep w e =
    record {
      below = λ s h. w.below s (was s h);
      consistent = record { finer = λ r s t a b l m h k x. w.consistent.finer r s t a b l m (was s h) (was t k) x };
      labelled = λ r a b.
          let lab : Labelled j.steps S (label r) = w.labelled r (omega arith) b in
          record {
            below = λ s l h. lab.below s l (was s h);
            among = λ s l h.
                e (label r s)
                ∙ fibre_of S (label (suc q)) g (label r s) (lab.among s l (was s h))
                (consistent_up j.steps j.levels S label w.consistent (suc q) r (omega arith) (omega arith) b (label r s) s
                (lab.below s l (was s h)) l (lab.among s l (was s h)) (was s h) (lab.own s l (was s h))
                ∙ fibre_at S (label (suc q)) g s (sym (e s) ∙ h));
            own = λ s l h. lab.own s l (was s h);
          };
    }
  where
    was : (s : ℕ) → G s ≡ true → S s ≡ true
    was s h = fibre_in S (label (suc q)) g s (sym (e s) ∙ h)
