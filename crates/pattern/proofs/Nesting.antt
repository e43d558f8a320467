-- Laws of the numbers of classes as a table has them, and of what people stand for inside a class. Assumes nothing.
use mathlib.Core.Bool.{Bool, cond}
use mathlib.Core.List.{List}
use mathlib.Core.Path.{◌≡◌, sym, ap, ◌∙◌}
use Prim.Native.Nat.{ℕ, suc, ◌*◌, ◌+◌, ◌-◌, ◌≤◌, ◌<◌}
use native.Mathlib.Nat.{mod-eq_of_lt}
use native.Mathlib.Omega.{arith}
use lib.Dec.{ltb}
use lib.ListN.{get_or}
use borrow.Author.Tests.{ltb-true, ltb-false, le-leb, lt-leb}
use Rattle.bits.proofs.Below.{by_cases}
use Rattle.pattern.specs.Given.{ClassTable}
use Rattle.pattern.specs.Nesting.{part_in}
use Rattle.pattern.specs.Tables.{class_in, number_in}
use Rattle.pattern.proofs.Number.{number_few}

-- what p stands for at the last level, and above it
module _ (levels : ℕ) (class : List ℕ) (q p : ℕ) where
  pub part_last : levels ≤ suc q → part_in levels class q p ≡ p
  part_last l = ap (λ (t : Bool). cond t p (number_in class (suc q) p)) (le-leb levels (suc q) l)

  pub part_above : suc q < levels → part_in levels class q p ≡ number_in class (suc q) p
  part_above l = ap (λ (t : Bool). cond t p (number_in class (suc q) p)) (lt-leb levels (suc q) l)

module _ {people levels : ℕ} {class : List ℕ} (table : ClassTable people levels class) where
  -- a number fits into a word's bits
  pub number_is : (q p : ℕ) → q < levels → p < people → number_in class q p ≡ class_in class (suc q) p
  number_is q p d l =
      let e : suc q - 1 ≡ q = omega arith in
      let f : class_in class (suc q) p ≡ get_or class (q * 64 + p) 0 = ap (λ (x : ℕ). get_or class (x * 64 + p) 0) e in
      let s : get_or class (q * 64 + p) 0 < 64
      = omega (arith, table.few, table.numbers (suc q) p (omega arith) d l, number_few people (class_in class (suc q)) p l)
      in
      mod-eq_of_lt s ∙ sym f

  -- people who stand for the same are of one class
  pub part_same : (q p p' : ℕ) → q < levels → p < people → p' < people → part_in levels class q p ≡ part_in levels class q p'
      → number_in class q p ≡ number_in class q p'
  part_same q p p' d l l' e =
      by_cases (ltb (suc q) levels)
      (λ t. let m : suc q < levels = ltb-true (suc q) levels t in
      number_is q p d l
      ∙ table.finer (suc q) p p' (omega arith) m l l'
      (sym (number_is (suc q) p m l) ∙ sym (part_above levels class q p m) ∙ e ∙ part_above levels class q p' m ∙ number_is (suc q) p' m l')
      ∙ sym (number_is q p' d l'))
      (λ t. let m : levels ≤ suc q = ltb-false (suc q) levels t in
      ap (number_in class q) (sym (part_last levels class q p m) ∙ e ∙ part_last levels class q p' m))
