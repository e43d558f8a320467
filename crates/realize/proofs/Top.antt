-- The whole pattern: all placed steps, and everybody. Assumes nothing.
use mathlib.Core.Bool.{Bool, true}
use mathlib.Core.List.{List}
use mathlib.Core.Path.{◌≡◌, refl, sym, subst, ap, ◌∙◌}
use Prim.Native.Nat.{ℕ, suc, ◌<◌}
use native.Mathlib.Omega.{arith}
use lib.Dec.{ltb}
use borrow.Author.Tests.{ltb-true, ltb-false, lt-ltb}
use Rattle.bits.specs.Set.{Mask}
use Rattle.bits.specs.Word.{has_bit}
use Rattle.bits.proofs.Below.{by_cases}
use Rattle.bits.proofs.Masks.{mask_has, mask_in}
use Rattle.bits.proofs.Says.{says_of, says_true, says_false}
use Rattle.workflow.specs.Problem.{Job}
use Rattle.pattern.specs.Tables.{may_in, label_in, plan_in}
use Rattle.pattern.specs.Realize.{Realized}
use Rattle.pattern.proofs.Realize.{realizes_mono, realized_mono}
use Rattle.realize.specs.declared.parts.Task.{Task}
use Rattle.realize.specs.Parts.{ArraysSized, people_in, WholeTask, TablesFor, Part}
use Rattle.realize.specs.Decision.{Decided, Realizable}
use Rattle.realize.specs.Filling.{Filled, Realizing}

module _ {j : Job} {people levels : ℕ} {may label nest reach : List ℕ} {placed : ℕ} (k : TablesFor j people levels may label nest reach placed) where
  module _ {all : ℕ} (mask : Mask (λ p. ltb p people) all) where
    abbrev whole_task : Task
    whole_task = record { levels = levels; q = 0; steps = placed; inside = all }

    -- the part that level 0 has
    whole_part : Part j may label nest reach whole_task
    whole_part =
        record {
          tables = k.tables;
          steps = record {
            below = k.below;
            consistent = k.pattern.consistent;
            labelled = λ r a b. k.pattern.labelled r a b;
          };
          within = omega arith;
          people = λ e p h. omega (arith, ltb-true p people (mask_in mask p h), k.all);
        }

    -- there are no more classes than people
    class_few : (p : ℕ) → p < j.people → j.class 1 p < people
    class_few p l =
        by_cases (ltb 0 j.levels)
        (λ t. omega (arith, k.tables.small 0 p (ltb-true 0 j.levels t) l, k.all))
        (λ t. let e : j.levels ≡ 0 = omega (arith, ltb-false 0 j.levels t) in
        let i : j.class 1 p ≡ p = ap (λ (x : ℕ). j.class (suc x) p) (sym e) ∙ k.tables.person p in
        omega (arith, k.all))

    -- everybody, by the mask and by no condition
    everybody_of : Realized j (may_in may) (label_in label) 0 (has_bit placed) (λ p. true)
        → Realized j (may_in may) (label_in label) 0 (has_bit placed) (people_in j whole_task)
    everybody_of =
        realized_mono j (may_in may) (label_in label) (label_in label) 0 _ _ (λ p. true) (people_in j whole_task) (λ s l h. h)
        (λ p l h. mask_has mask (j.class 1 p) (lt-ltb (j.class 1 p) people (class_few p l))) (λ r s a b l h. refl)

module _ {people levels placed : ℕ} {t : Task} (whole : WholeTask people levels placed t) {may label nest reach : List ℕ} where
  pub decided_realizable : {r : Bool} → Decided may label nest reach t r → Realizable people levels may label nest reach placed r
  decided_realizable {r} w = record {
    says = λ j k.
        let d = (subst (λ (x : Task). Decided may label nest reach x r) whole.task w).says j (whole_part k whole.mask) in
        says_of r _
        (λ e. realized_mono j (may_in may) (label_in label) (label_in label) 0 _ _ (people_in j (whole_task k whole.mask)) (λ p. true) (λ s l h. h) (λ p l h. refl) (λ r s a b l h. refl)
        (says_true r _ d e))
        (λ e x. says_false r _ d e (everybody_of k whole.mask x));
  }

  pub filled_realizing : {before after : List ℕ} → Filled may label nest reach t before after
      → Realizing people levels may label nest reach placed before after
  filled_realizing {before} {after} w =
      let f = subst (λ (x : Task). Filled may label nest reach x before after) whole.task w in
      record {
        kept = f.kept;
        realizes = λ j k x.
            realizes_mono j (may_in may) (label_in label) (label_in label) 0 _ _ (people_in j (whole_task k whole.mask)) (λ p. true) (plan_in after) (λ s l h. h) (λ p l h. refl)
            (λ r s a b l h. refl) (f.sends j (whole_part k whole.mask) (everybody_of k whole.mask x));
      }
