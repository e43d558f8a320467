-- The people of each person's class, from those of each class. Assumes nothing.
use mathlib.Core.Bool.{true}
use mathlib.Core.List.{List}
use mathlib.Core.Path.{◌≡◌, sym, subst, ap, ◌∙◌}
use Prim.Native.Nat.{ℕ, suc, ◌+◌, ◌*◌, ◌-◌, ◌%◌, ◌≤◌, ◌<◌}
use native.Mathlib.Omega.{arith}
use native.Mathlib.Nat.{not-suc-le-zero}
use lib.Dec.{eqb}
use lib.ListN.{length, get_or, set, length-set}
use lib.Seq.{get_or-set_same, get_or-set_other}
use borrow.Author.Tests.{eqb-true, eqb-false}
use Rattle.bits.specs.Word.{has_bit}
use Rattle.bits.specs.Set.{Added}
use Rattle.bits.proofs.Below.{by_cases, below_suc, true-false}
use Rattle.bits.proofs.SetLaws.{empty_lacks, added_has, added_other}
use Rattle.bits.specs.Sizes.{most_levels, class_entries}
use Rattle.pattern.specs.declared.Size.{Size}
use Rattle.pattern.specs.Given.{Given, Numbers}
use Rattle.pattern.specs.Tables.{class_in, number_in}
use Rattle.pattern.proofs.Classes.{numbered_forth, numbered_back, numbered_classed, classed_table}
use Rattle.pattern.proofs.Nesting.{number_is}
use Rattle.pattern.specs.Nesting.{ByNumber}
use Rattle.levels.specs.Tabled.{ByPerson, Gathered}

module _ (class numbered : List ℕ) where
  pub person_more : (x : ℕ) (crowd : List ℕ) → x < class_entries → ByPerson class numbered x crowd
      → ByPerson class numbered (x + 1) (set crowd x (get_or numbered (x - x % 64 + get_or class x 0 % 64) 0))
  person_more x crowd l w =
      record {
        sized = length-set crowd x _ ∙ w.sized;
        each = λ y h.
            by_cases (eqb y x)
            (λ t. subst (λ (z : ℕ). get_or (set crowd x (get_or numbered (x - x % 64 + get_or class x 0 % 64) 0)) z 0 ≡ get_or numbered (z - z % 64 + get_or class z 0 % 64) 0)
            (sym (eqb-true y x t)) (get_or-set_same crowd x _ 0 (omega (arith, w.sized))))
            (λ t. let d : y ≡ x → ⊥ = eqb-false y x t in get_or-set_other crowd x y _ 0 d ∙ w.each y (omega arith));
      }

pub gathered : {people levels : ℕ} {class numbered crowd : List ℕ} (x : ℕ) → people ≤ 64 → levels * 64 ≤ x
    → ByNumber people levels class (λ b p. p) (levels * 64) numbered → ByPerson class numbered x crowd → Gathered people levels class crowd
gathered {people} {levels} {class} {numbered} {crowd} x few all w m =
    record {
      sized = m.sized;
      has = λ b p p' l h h' e.
          subst (λ (z : ℕ). has_bit z p' ≡ true) (sym (entry b p l h))
          (subst (λ (z : ℕ). has_bit (get_or numbered (b * 64 + z) 0) p' ≡ true) e (w.has b p' l h' (omega arith)));
      only = λ b p p' l h t.
          let o = w.only b (number_in class b p) p' l (omega arith) (subst (λ (z : ℕ). has_bit z p' ≡ true) (entry b p l h) t) in
          (subst (λ (z : ℕ). z < people) o.3 o.1, ap (number_in class b) (sym o.3) ∙ o.2);
    }
  where
    entry : (b p : ℕ) → b < levels → p < people → get_or crowd (b * 64 + p) 0 ≡ get_or numbered (b * 64 + get_or class (b * 64 + p) 0 % 64) 0
    entry b p l h =
        let z : b * 64 + p - (b * 64 + p) % 64 ≡ b * 64 = omega arith in
        m.each (b * 64 + p) (omega arith) ∙ ap (λ (y : ℕ). get_or numbered (y + get_or class (b * 64 + p) 0 % 64) 0) z

-- ---- a last level on which each person is a class

-- the levels before the last are gathered, and at the last the people before n have themselves
pub record Completing (people last : ℕ) (class : List ℕ) (n : ℕ) (crowd : List ℕ) : Type 0 where
  pub above : Gathered people last class crowd
  pub own : (p : ℕ) → p < n → has_bit (get_or crowd (last * 64 + p) 0) p ≡ true
  pub none : (p p' : ℕ) → p < n → has_bit (get_or crowd (last * 64 + p) 0) p' ≡ true → p' ≡ p

module _ {people last : ℕ} {class crowd : List ℕ} (few : people ≤ 64) where
  pub completing_more : (n word : ℕ) → n < people → last < most_levels → Completing people last class n crowd → Added 0 n word
      → Completing people last class (n + 1) (set crowd (last * 64 + n) word)
  completing_more n word l deep w joined =
      record {
        above = record {
          sized = length-set crowd (last * 64 + n) word ∙ w.above.sized;
          has = λ b p p' m h h' e. ap (λ (x : ℕ). has_bit x p') (other b p m h) ∙ w.above.has b p p' m h h' e;
          only = λ b p p' m h t. w.above.only b p p' m h (sym (ap (λ (x : ℕ). has_bit x p') (other b p m h)) ∙ t);
        };
        own = λ p h.
            by_cases (eqb p n)
            (λ t. subst (λ (x : ℕ). has_bit (get_or (set crowd (last * 64 + n) word) (last * 64 + x) 0) x ≡ true) (sym (eqb-true p n t))
            (ap (λ (x : ℕ). has_bit x n) same ∙ added_has joined))
            (λ t. ap (λ (x : ℕ). has_bit x p) (before p (eqb-false p n t)) ∙ w.own p (let d = eqb-false p n t in omega arith));
        none = λ p p' h k.
            by_cases (eqb p n)
            (λ t. let e : p ≡ n = eqb-true p n t in
            by_cases (eqb p' n)
            (λ u. eqb-true p' n u ∙ sym e)
            (λ u. true-false
            (sym (added_other joined p' (eqb-false p' n u)) ∙ sym (ap (λ (x : ℕ). has_bit x p') same)
            ∙ subst (λ (x : ℕ). has_bit (get_or (set crowd (last * 64 + n) word) (last * 64 + x) 0) p' ≡ true) e k) (empty_lacks p')))
            (λ t. w.none p p' (let d = eqb-false p n t in omega arith) (sym (ap (λ (x : ℕ). has_bit x p') (before p (eqb-false p n t))) ∙ k));
      }
    where
      same : get_or (set crowd (last * 64 + n) word) (last * 64 + n) 0 ≡ word
      same = get_or-set_same crowd (last * 64 + n) word 0 (omega (arith, w.above.sized))

      before : (p : ℕ) → (p ≡ n → ⊥) → get_or (set crowd (last * 64 + n) word) (last * 64 + p) 0 ≡ get_or crowd (last * 64 + p) 0
      before p d = get_or-set_other crowd (last * 64 + n) (last * 64 + p) word 0 (omega arith)

      other : (b p : ℕ) → b < last → p < people → get_or (set crowd (last * 64 + n) word) (b * 64 + p) 0 ≡ get_or crowd (b * 64 + p) 0
      other b p m h = get_or-set_other crowd (last * 64 + n) (b * 64 + p) word 0 (omega arith)

  pub completed : (n levels : ℕ) → people ≤ n → suc last ≡ levels → ((p : ℕ) → p < people → number_in class last p ≡ p) → Completing people last class n crowd
      → Gathered people levels class crowd
  completed n levels all deep its w =
      record {
        sized = w.above.sized;
        has = λ b p p' l h h' e.
            below_suc last b (omega arith)
            (λ m. w.above.has b p p' m h h' e)
            (λ m. let k : p' ≡ p = sym (its p' h') ∙ subst (λ (x : ℕ). number_in class x p' ≡ number_in class x p) m e ∙ its p h in
            subst (λ (x : ℕ). has_bit (get_or crowd (x * 64 + p) 0) p' ≡ true) (sym m)
            (subst (λ (x : ℕ). has_bit (get_or crowd (last * 64 + p) 0) x ≡ true) (sym k) (w.own p (omega arith))));
        only = λ b p p' l h t.
            below_suc last b (omega arith)
            (λ m. w.above.only b p p' m h t)
            (λ m. let k : p' ≡ p = w.none p p' (omega arith) (subst (λ (x : ℕ). has_bit (get_or crowd (x * 64 + p) 0) p' ≡ true) m t) in
            (omega arith, ap (number_in class b) k));
      }

-- the table of the people of each person's class, from what the search over people is given
pub given_gathered : {size : Size} {class crowd rule : List ℕ} → Given size crowd rule → Numbers size class crowd
    → Gathered size.people size.levels class crowd
given_gathered {size} {class} {crowd} given its =
    record {
      sized = given.crowds.sized;
      has = λ b p p' l h h' e.
          subst (λ (x : ℕ). has_bit (get_or crowd x 0) p' ≡ true) (at b p)
          (given.crowds.has (suc b) p p' (omega arith) l h h'
          (numbered_back given its (suc b) p' p (omega arith) l h' h (sym (number b p' l h') ∙ e ∙ number b p l h)));
      only = λ b p p' l h t.
          let o = given.crowds.only (suc b) p p' (omega arith) l h (subst (λ (x : ℕ). has_bit (get_or crowd x 0) p' ≡ true) (sym (at b p)) t) in
          (o.0, number b p' l o.0 ∙ numbered_forth given its (suc b) p' p (omega arith) l o.0 h o.1 ∙ sym (number b p l h));
    }
  where
    at : (b p : ℕ) → (suc b - 1) * 64 + p ≡ b * 64 + p
    at b p = let e : suc b - 1 ≡ b = omega arith in ap (λ (x : ℕ). x * 64 + p) e

    number : (b p : ℕ) → b < size.levels → p < size.people → number_in class b p ≡ class_in class (suc b) p
    number = number_is (classed_table (numbered_classed given its))
