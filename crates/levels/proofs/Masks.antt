-- The masks of the people of each person's class, gathered by the classes' numbers, know the same classes. Assumes nothing.
use mathlib.Core.Bool.{true}
use mathlib.Core.List.{List}
use mathlib.Core.Path.{◌≡◌, refl, sym, subst, ap, ◌∙◌}
use Prim.Native.Nat.{ℕ, ◌-◌, ◌%◌, ◌^◌, ◌≤◌, ◌<◌}
use native.Mathlib.Omega.{arith}
use native.Mathlib.Nat.{mod-eq_of_lt}
use Rattle.bits.specs.Word.{has_bit}
use Rattle.bits.proofs.Counting.{bool_ext}
use Rattle.bits.proofs.Masks.{bits_below}
use Rattle.bits.proofs.SetLaws.{same_bits}
use Rattle.workflow.specs.Same.{SamePlans}
use Rattle.pattern.specs.declared.Size.{Size}
use Rattle.pattern.specs.Given.{Given, Numbers, Classed}
use Rattle.pattern.specs.Tables.{class_in, job_in}
use Rattle.pattern.proofs.Classes.{Joined, refining_moves, numbers_move, same_plans, number_small}
use Rattle.levels.specs.Tabled.{Gathered}

module _ {size : Size} {class crowd rule : List ℕ} (classed : Classed size class rule) (g : Gathered size.people size.levels class crowd) where
  has : (q p p' : ℕ) → 1 ≤ q → q ≤ size.levels → p < size.people → p' < size.people → class_in class q p' ≡ class_in class q p → has_bit (class_in crowd q p) p' ≡ true
  has q p p' a b l m e = g.has (q - 1) p p' (omega arith) l m (ap (λ (v : ℕ). v % 64) e)

  only : (q p p' : ℕ) → 1 ≤ q → q ≤ size.levels → p < size.people → has_bit (class_in crowd q p) p' ≡ true → (p' < size.people) × (class_in class q p' ≡ class_in class q p)
  only q p p' a b l h =
      let o = g.only (q - 1) p p' (omega arith) l h in
      (o.0, sym (mod-eq_of_lt (number_small classed q p' a b o.0)) ∙ o.1 ∙ mod-eq_of_lt (number_small classed q p a b l))

  -- people of one class have one mask
  forth : Joined size class crowd
  forth q p p' a b l m e =
      same_bits 64 (class_in crowd q p) (class_in crowd q p') (word q p a b l) (word q p' a b m)
      (λ x k. bool_ext _ _
      (λ h. let o = only q p x a b l h in has q p' x a b m o.0 (o.1 ∙ e))
      (λ h. let o = only q p' x a b m h in has q p x a b l o.0 (o.1 ∙ sym e)))
    where
      word : (q p : ℕ) → 1 ≤ q → q ≤ size.levels → p < size.people → class_in crowd q p < 2 ^ 64
      word q p a b l = bits_below 64 (class_in crowd q p) (λ x h. omega (arith, (only q p x a b l h).0, classed.few_people))

  -- and those who have one mask are of one class: each is in their own
  back : Joined size crowd class
  back q p p' a b l m e =
      (only q p' p a b m (subst (λ (x : ℕ). has_bit x p ≡ true) e (has q p p a b l l refl))).1

  pub gathered_given : Given size crowd rule
  gathered_given =
      record {
        ruled = classed.ruled;
        few_people = classed.few_people;
        crowds = record {
          sized = g.sized;
          has = λ q p p' a b l m e. has q p p' a b l m (back q p' p a b m l e);
          only = λ q p p' a b l h. let o = only q p p' a b l h in (o.0, forth q p' p a b o.0 l o.1);
        };
        refining = refining_moves size class crowd rule forth back classed.refining;
      }

  pub gathered_numbers : Numbers size class crowd
  gathered_numbers =
      record {
        sized = classed.classes;
        numbers = λ q p a b l. classed.numbers q p a b l ∙ numbers_move size class crowd rule forth back q p a b l;
      }

  pub gathered_same : SamePlans (job_in size class rule) (job_in size crowd rule)
  gathered_same = same_plans size class crowd rule forth back classed.ruled
