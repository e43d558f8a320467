-- Classes by level; and labels for the classes of steps, a class having the first step that has it. Assumes nothing.
use mathlib.Core.Bool.{Bool, true, false}
use mathlib.Core.List.{List}
use mathlib.Core.Path.{◌≡◌, refl, sym, subst, ap, ◌∙◌}
use Prim.Native.Nat.{ℕ, ◌+◌, ◌*◌, ◌-◌, ◌<◌, ◌≤◌}
use native.Mathlib.Omega.{arith}
use lib.Dec.{eqb, leb, ltb}
use lib.ListN.{get_or}
use borrow.Author.Tests.{eqb-true, eqb-false, eq-eqb, le-leb, lt-ltb, ltb-true}
use Rattle.bits.specs.Below.{first}
use Rattle.bits.proofs.Below.{by_cases, true-false, and_right, first-le, first_has, first_none}
use Rattle.bits.proofs.ColumnLaws.{column_entry}
use Rattle.bits.proofs.Counting.{is_false}
use Rattle.workflow.specs.Problem.{distinct, largest_load}
use Rattle.workflow.specs.Independent.{Alike}
use Rattle.workflow.proofs.Counts.{distinct_alike}
use Rattle.workflow.proofs.Loads.{load_alike}
use Rattle.instance.specs.Instance.{is_class_level, class_at}

-- at a class level it is the entry of the table
pub class_entry_lem : (levels : ℕ) (class : List ℕ) (q p : ℕ) → is_class_level levels q ≡ true → p < 64 → get_or class ((q - 1) * 64 + p) 0 ≡ class_at levels class q p
class_entry_lem levels class q p h l = sym (rw h (column_entry class q p l))

-- at any other each person is a class
pub class_person : (levels : ℕ) (class : List ℕ) (q p : ℕ) → is_class_level levels q ≡ false → p ≡ class_at levels class q p
class_person levels class q p h = rw h

-- which levels are class levels
pub class_level : (levels q : ℕ) → 1 ≤ q → q < levels → is_class_level levels q ≡ true
class_level levels q l m = rw (le-leb 1 q l, lt-ltb q levels m) refl

pub past_classes : (levels q : ℕ) → levels ≤ q → is_class_level levels q ≡ false
past_classes levels q l = is_false (is_class_level levels q) (λ t. let m = ltb-true q levels (and_right (leb 1 q) (ltb q levels) t) in omega arith)

-- the first step that has the class of step s
abbrev pub first_alike : (ℕ → ℕ) → ℕ → ℕ
first_alike c s = first s (λ t. eqb (c t) (c s))

module _ (c : ℕ → ℕ) where
  pub alike_le : (s r : ℕ) → r ≡ first_alike c s → r ≤ s
  alike_le s r e = subst (λ (x : ℕ). x ≤ s) (sym e) (first-le s (λ t. eqb (c t) (c s)))

  -- it has the class
  alike_class : (s : ℕ) → c (first_alike c s) ≡ c s
  alike_class s =
      by_cases (eqb (first_alike c s) s)
      (λ h. subst (λ (x : ℕ). c x ≡ c s) (sym (eqb-true (first_alike c s) s h)) refl)
      (λ h. let d = eqb-false (first_alike c s) s h in let l = first-le s (λ t. eqb (c t) (c s)) in
      eqb-true _ _ (first_has s (λ t. eqb (c t) (c s)) (omega (arith, d, l))))

  -- no step before it has
  alike_none : (s t : ℕ) → t < first_alike c s → c t ≡ c s → ⊥
  alike_none s t l e = true-false (eq-eqb _ _ e) (first_none s (λ t. eqb (c t) (c s)) t l)

  -- steps of one class have one label
  alike_same : (s t : ℕ) → c s ≡ c t → first_alike c s ≡ first_alike c t
  alike_same s t e =
      let a = alike_class s in let b = alike_class t in
      let x : first_alike c s < first_alike c t → ⊥ = λ l. alike_none t (first_alike c s) l (a ∙ e) in
      let y : first_alike c t < first_alike c s → ⊥ = λ l. alike_none s (first_alike c t) l (b ∙ sym e) in
      omega arith

  -- and steps of one label have one class
  alike_tells : (s t : ℕ) → first_alike c s ≡ first_alike c t → c s ≡ c t
  alike_tells s t e = sym (alike_class s) ∙ ap c e ∙ alike_class t

  labels_alike : (n : ℕ) (S : ℕ → Bool) → Alike n S (first_alike c) c
  labels_alike n S = record { forth = λ s t a b h k e. alike_tells s t e; back = λ s t a b h k e. alike_same s t e }

  pub alike_distinct : (n : ℕ) (S : ℕ → Bool) → distinct n S (first_alike c) ≡ distinct n S c
  alike_distinct n S = distinct_alike n S _ _ (labels_alike n S)

  pub alike_load : (n : ℕ) (S : ℕ → Bool) → largest_load n S (first_alike c) ≡ largest_load n S c
  alike_load n S = load_alike n S _ _ (labels_alike n S)
