-- The table of classes, filled level by level and person by person. Assumes nothing.
use mathlib.Core.Bool.{Bool, true, false, cond}
use mathlib.Core.List.{List}
use mathlib.Core.Path.{◌≡◌, refl, sym, ◌∙◌, ap, subst}
use Prim.Native.Nat.{ℕ, zero, suc, ◌+◌, ◌*◌, ◌-◌, ◌%◌, ◌<◌, ◌≤◌}
use native.Mathlib.Omega.{arith}
use native.Mathlib.Nat.{not-suc-le-zero}
use native.Mathlib.Numerals.{add-one}
use lib.Dec.{eqb, ltb}
use lib.ListN.{length, get_or, set, length-set}
use lib.Seq.{get_or-set_same, get_or-set_other}
use borrow.Author.Tests.{eqb-true, eqb-false, eq-eqb, ne_eqb, ltb-true, ltb-false}
use Rattle.bits.specs.Columns.{column_of, class_entry}
use Rattle.bits.specs.Sizes.{most_levels, class_entries}
use Rattle.bits.specs.Slots.{NoneBefore}
use Rattle.bits.proofs.Below.{by_cases, below_suc, first_unique}
use Rattle.instance.proofs.Classes.{class_level, past_classes}
use Rattle.workflow.proofs.Counts.{distinct-le}
use Rattle.pattern.specs.Number.{first_use, classes_before, number_of}
use Rattle.pattern.specs.Tables.{class_in}
use Rattle.pattern.proofs.Number.{use_le, use_class, met_new, met_old, number_first, number_again}
use Rattle.tables.specs.Arrays.{word_of, NumbersAt, Entered, LevelNumbered, ClassesOf}

-- where the first person of a slot has the word of somebody there, nobody before has it
pub leads : (words : List ℕ) (people p r : ℕ) → p < people → NoneBefore words p r → get_or words r 0 ≡ get_or words p 0 → r ≡ first_use people (word_of words) p
unfolding first_use
leads words people p r l w e =
    sym
    (first_unique people (λ q. eqb (get_or words q 0) (get_or words p 0)) r (omega (arith, w.within)) (λ h. eq-eqb _ _ e)
    (λ q h. ne_eqb _ _ (λ d. w.before q h (ap (λ (x : ℕ). x % 1024) d))))

-- ---- how many classes are met, c giving the class of each of so many people

pub met_none : (c : ℕ → ℕ) → 0 ≡ classes_before c 0
met_none c = omega (arith, distinct-le 0 (λ p. true) c)

-- at most as many as people
pub met_few : (c : ℕ → ℕ) (p met : ℕ) → met ≡ classes_before c p → met ≤ p
met_few c p met e = omega (arith, distinct-le p (λ p'. true) c)

-- with p there is one more where p's class is new, and else there are as many
module _ (people : ℕ) (c : ℕ → ℕ) (p met : ℕ) (l : p < people) (is : met ≡ classes_before c p) (new : Bool) (tells : new ≡ eqb (first_use people c p) p) where
  pub one_more : new ≡ true → met + 1 ≡ classes_before c (p + 1)
  one_more t = add-one met ∙ ap suc is ∙ sym (met_new people c p l (eqb-true _ _ (sym tells ∙ t))) ∙ ap (classes_before c) (sym (add-one p))

  pub as_many : new ≡ false → met ≡ classes_before c (p + 1)
  as_many t = is ∙ sym (met_old people c p l (eqb-false _ _ (sym tells ∙ t))) ∙ ap (classes_before c) (sym (add-one p))

-- ---- the number of the class of person p is entered

module _ (words : List ℕ) (people top p : ℕ) (class : List ℕ) (w : NumbersAt words people top p class) (l : p < people) (few : people ≤ 64) (low : top + 64 ≤ class_entries) where
  set_entered : (x : ℕ) → x ≡ number_of people (word_of words) p → Entered words people top p class (set class (top + p) x)
  set_entered x e =
      record {
        size = length-set class (top + p) x ∙ w.size;
        number = get_or-set_same class (top + p) x 0 (omega (arith, w.size)) ∙ e;
        others = λ k d. get_or-set_other class (top + p) k x 0 d;
      }

  -- a new class has the next one
  pub new_entered : first_use people (word_of words) p ≡ p → (met : ℕ) → met ≡ classes_before (word_of words) p
      → Entered words people top p class (set class (top + p) met)
  new_entered e met m = set_entered met (m ∙ sym (number_first people (word_of words) p e))

  -- another has that of its first use
  pub old_entered : (first_use people (word_of words) p ≡ p → ⊥) → (q : ℕ) → q ≡ first_use people (word_of words) p
      → Entered words people top p class (set class (top + p) (get_or class (top + q) 0))
  old_entered d q u =
      set_entered (get_or class (top + q) 0)
      (w.each q (omega (arith, use_le people (word_of words) p)) ∙ ap (number_of people (word_of words)) u ∙ sym (number_again people (word_of words) p l))

-- ---- the numbers of one level, one person more

pub level_none : (words : List ℕ) (people top : ℕ) (class : List ℕ) → length class ≡ class_entries → LevelNumbered words people top 0 class class
level_none words people top class l = record { size = l; each = λ p h. absurd (not-suc-le-zero h); before = λ k h. refl }

module _ {words : List ℕ} {people top n : ℕ} {start class : List ℕ} (k : LevelNumbered words people top n start class) where
  pub level_before : NumbersAt words people top n class
  level_before = record { size = k.size; each = k.each }

  pub level_more : {out : List ℕ} → Entered words people top n class out → LevelNumbered words people top (n + 1) start out
  level_more {out} e =
      record {
        size = e.size;
        each = λ p h.
            below_suc n p (subst (λ (x : ℕ). p < x) (add-one n) h)
            (λ q. e.others (top + p) (λ d. omega arith) ∙ k.each p q)
            (λ d. subst (λ (x : ℕ). get_or out (top + x) 0 ≡ number_of people (word_of words) x) (sym d) e.number);
        before = λ i l. e.others i (λ d. omega arith) ∙ k.before i l;
      }

-- ---- at the last level each person is a class, and its number

own_use : (people p : ℕ) → p < people → first_use people (λ x. x) p ≡ p
own_use people p l = use_class people (λ x. x) p l

own_before : (people p : ℕ) → p ≤ people → classes_before (λ x. x) p ≡ p
own_before people zero l = sym (met_none (λ x. x))
own_before people (suc p) l = met_new people (λ x. x) p l (own_use people p l) ∙ ap suc (own_before people p (omega arith))

pub own_number : (people p : ℕ) → p < people → number_of people (λ x. x) p ≡ p
own_number people p l = number_first people (λ x. x) p (own_use people p l) ∙ own_before people p (omega arith)

-- ---- the levels one after the other

-- the classes of the first n class levels have their numbers
pub record LevelsOf (words : List ℕ) (people n : ℕ) (class : List ℕ) : Type 0 where
  pub size : length class ≡ class_entries
  pub numbers : (q p : ℕ) → 1 ≤ q → q ≤ n → p < people → class_in class q p ≡ number_of people (word_of (column_of words q)) p

-- and the first m people at the level after
pub record PeopleAt (words : List ℕ) (people n m : ℕ) (class : List ℕ) : Type 0 where
  pub levels : LevelsOf words people n class
  pub persons : (p : ℕ) → p < m → get_or class (n * 64 + p) 0 ≡ p

module _ (words : List ℕ) (people : ℕ) (few : people ≤ 64) where
  pub levels_none : (class : List ℕ) → length class ≡ class_entries → LevelsOf words people 0 class
  levels_none class l = record { size = l; numbers = λ q p a b h. absurd (omega arith) }

  pub levels_more : (n top : ℕ) (level class out : List ℕ) → LevelsOf words people n class → top ≡ n * 64 → level ≡ column_of words (n + 1)
      → LevelNumbered level people top people class out → LevelsOf words people (n + 1) out
  levels_more n top level class out w t e k =
      record {
        size = k.size;
        numbers = λ q p a b h.
            by_cases (eqb q (n + 1))
            (λ x.
            let d : q ≡ n + 1 = eqb-true q (n + 1) x in
            let i : (q - 1) * 64 + p ≡ top + p = omega arith in
            ap (λ (y : ℕ). get_or out y 0) i ∙ k.each p h ∙ ap (λ (l : List ℕ). number_of people (word_of l) p) (e ∙ ap (column_of words) (sym d)))
            (λ x.
            let d : q ≡ n + 1 → ⊥ = eqb-false q (n + 1) x in
            k.before ((q - 1) * 64 + p) (omega arith) ∙ w.numbers q p a (omega arith) h);
      }

  pub people_none : (n : ℕ) (class : List ℕ) → LevelsOf words people n class → PeopleAt words people n 0 class
  people_none n class w = record { levels = w; persons = λ p h. absurd (not-suc-le-zero h) }

  pub people_more : (n m : ℕ) (class : List ℕ) → n < most_levels → m < 64 → PeopleAt words people n m class → PeopleAt words people n (m + 1) (set class (n * 64 + m) m)
  people_more n m class l h w =
      record {
        levels =
            record {
              size = length-set class (n * 64 + m) m ∙ w.levels.size;
              numbers = λ q p a b c. get_or-set_other class (n * 64 + m) ((q - 1) * 64 + p) m 0 (λ d. omega arith) ∙ w.levels.numbers q p a b c;
            };
        persons = λ p b.
            below_suc m p (subst (λ (x : ℕ). p < x) (add-one m) b)
            (λ q. get_or-set_other class (n * 64 + m) (n * 64 + p) m 0 (λ d. omega arith) ∙ w.persons p q)
            (λ d. subst (λ (x : ℕ). get_or (set class (n * 64 + m) m) (n * 64 + x) 0 ≡ x) (sym d)
            (get_or-set_same class (n * 64 + m) m 0 (omega (arith, w.levels.size))));
      }

  -- which is the table of all levels
  pub classes_all : (levels n m : ℕ) (class : List ℕ) → n + 1 ≡ levels → people ≤ m → PeopleAt words people n m class → ClassesOf levels words people class
  classes_all levels n m class e l w =
      record {
        size = w.levels.size;
        numbers = λ q p a b h.
            by_cases (ltb q levels)
            (λ t.
            let c = class_level levels q a (ltb-true q levels t) in
            w.levels.numbers q p a (let k = ltb-true q levels t in omega arith) h
            ∙ ap (λ (x : Bool). number_of people (λ y. cond x (class_entry words q y) y) p) (sym c))
            (λ t.
            let k = ltb-false q levels t in
            let d = past_classes levels q k in
            let i : (q - 1) * 64 + p ≡ n * 64 + p = omega arith in
            ap (λ (y : ℕ). get_or class y 0) i
            ∙ w.persons p (omega arith)
            ∙ sym (own_number people p h)
            ∙ ap (λ (x : Bool). number_of people (λ y. cond x (class_entry words q y) y) p) (sym d));
      }
