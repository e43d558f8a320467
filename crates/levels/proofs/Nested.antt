-- A table of what lies inside each class is that of the job whose classes it was made of: each class has the number that it had. Assumes
-- nothing.
use mathlib.Core.Bool.{true}
use mathlib.Core.List.{List}
use mathlib.Core.Path.{◌≡◌, sym, subst, ap, ◌∙◌}
use Prim.Native.Nat.{ℕ, zero, suc, ◌+◌, ◌*◌, ◌-◌, ◌≤◌, ◌<◌}
use native.Mathlib.Omega.{arith}
use lib.Dec.{ltb}
use lib.ListN.{get_or}
use borrow.Author.Tests.{ltb-true, ltb-false}
use Rattle.bits.specs.Word.{has_bit}
use Rattle.bits.proofs.Below.{by_cases, first_unique}
use Rattle.bits.proofs.Counting.{is_false}
use Rattle.workflow.specs.Same.{SamePlans}
use Rattle.pattern.specs.declared.Size.{Size}
use Rattle.pattern.specs.Given.{ClassTable, Classed, Nest}
use Rattle.pattern.specs.Tables.{class_in, number_in, job_in, holder_in, nested_in, nested_job}
use Rattle.pattern.proofs.Number.{number_few}
use Rattle.pattern.proofs.Classes.{same_classes, classed_table}
use Rattle.pattern.proofs.Nested.{nested_last, nested_up}
use Rattle.pattern.specs.Nesting.{part_in, Nesting}
use Rattle.pattern.proofs.Nesting.{part_last, part_above, number_is, part_same}

module _ {size : Size} {class nest rule : List ℕ} (classed : Classed size class rule) (w : Nesting size.people size.levels class nest) where
  table : ClassTable size.people size.levels class
  table = classed_table classed

  -- what p stands for lies in the class of p alone
  held : (q p : ℕ) → q < size.levels → p < size.people → holder_in nest q (part_in size.levels class q p) ≡ number_in class q p
  held q p d l =
      first_unique 64 (λ v. has_bit (get_or nest (q * 64 + v) 0) (part_in size.levels class q p)) (number_in class q p) (omega arith)
      (λ m. w.has q p d l (omega (arith, classed.few_people)))
      (λ k m. is_false _ (λ t.
      let o = w.only q k (part_in size.levels class q p) d (omega arith) t in
      let e : number_in class q o.0 ≡ number_in class q p = part_same table q o.0 p d o.1 l o.3 in
      omega (arith, o.2)))

  -- so the class of the nested job is that of the table
  numbered : (k q p : ℕ) → q < size.levels → size.levels ≡ suc q + k → p < size.people → nested_in nest size.levels (suc q) p ≡ number_in class q p
  numbered zero q p d e l =
      let m : suc q ≡ size.levels = omega arith in
      nested_up nest size.levels q p d
      ∙ ap (holder_in nest q)
      (ap (λ (x : ℕ). nested_in nest size.levels (suc x) p) m ∙ nested_last nest size.levels p ∙ sym (part_last size.levels class q p (omega arith)))
      ∙ held q p d l
  numbered (suc k) q p d e l =
      let m : suc q < size.levels = omega arith in
      nested_up nest size.levels q p d
      ∙ ap (holder_in nest q) (numbered k (suc q) p m (omega arith) l ∙ sym (part_above size.levels class q p m))
      ∙ held q p d l

  pub nested_number : (q p : ℕ) → q < size.levels → p < size.people → nested_in nest size.levels (suc q) p ≡ number_in class q p
  nested_number q p d l = numbered (size.levels - suc q) q p d (omega arith) l

  nested_part : (q p : ℕ) → q < size.levels → p < size.people → nested_in nest size.levels (suc (suc q)) p ≡ part_in size.levels class q p
  nested_part q p d l =
      by_cases (ltb (suc q) size.levels)
      (λ t. let m : suc q < size.levels = ltb-true (suc q) size.levels t in
      nested_number (suc q) p m l ∙ sym (part_above size.levels class q p m))
      (λ t. let m : size.levels ≤ suc q = ltb-false (suc q) size.levels t in
      let e : suc q ≡ size.levels = omega arith in
      ap (λ (x : ℕ). nested_in nest size.levels (suc x) p) e ∙ nested_last nest size.levels p ∙ sym (part_last size.levels class q p m))

  nested_class : (q p : ℕ) → 1 ≤ q → q ≤ size.levels → p < size.people → nested_in nest size.levels q p ≡ class_in class q p
  nested_class q p a b l =
      let e : suc (q - 1) ≡ q = omega arith in
      subst (λ (x : ℕ). nested_in nest size.levels x p ≡ class_in class x p) e
      (nested_number (q - 1) p (omega arith) l ∙ number_is table (q - 1) p (omega arith) l)

  pub nested_given : Nest size nest rule
  nested_given =
      record {
        ruled = classed.ruled;
        few_people = classed.few_people;
        sized = w.sized;
        small = λ q p d l.
            omega (arith, nested_number q p d l, number_is table q p d l, classed.numbers (suc q) p (omega arith) d l, number_few size.people (class_in class (suc q)) p l);
        has = λ q p d l.
            subst (λ (x : ℕ). has_bit (get_or nest (q * 64 + x) 0) (nested_in nest size.levels (suc (suc q)) p) ≡ true) (sym (nested_number q p d l))
            (subst (λ (x : ℕ). has_bit (get_or nest (q * 64 + number_in class q p) 0) x ≡ true) (sym (nested_part q p d l)) (w.has q p d l (omega (arith, classed.few_people))));
        only = λ q v p d m l h.
            let o = w.only q v (part_in size.levels class q p) d m (subst (λ (x : ℕ). has_bit (get_or nest (q * 64 + v) 0) x ≡ true) (nested_part q p d l) h) in
            nested_number q p d l ∙ part_same table q p o.0 d l o.1 (sym o.3) ∙ o.2;
        crew = λ q v p e m h.
            let o = w.only q v p (omega arith) m h in
            subst (λ (x : ℕ). x < size.people) (sym (part_last size.levels class q o.0 (omega arith)) ∙ o.3) o.1;
      }

  pub nested_same : SamePlans (job_in size class rule) (nested_job size nest rule)
  nested_same =
      same_classes size rule (class_in class) (nested_in nest size.levels) classed.ruled
      (λ q p p' a b l l'. (
        λ e. nested_class q p a b l ∙ e ∙ sym (nested_class q p' a b l'),
        λ e. sym (nested_class q p a b l) ∙ e ∙ nested_class q p' a b l',
      ))
