-- The table of classes: filled level by level, and the classes of each level in it. Assumes nothing.
use mathlib.Core.List.{List, ◌++◌}
use mathlib.Core.Path.{◌≡◌, refl, sym, subst, ap, ◌∙◌}
use Prim.Native.Nat.{ℕ, zero, suc, ◌+◌, ◌*◌, ◌-◌, ◌/◌, ◌%◌, ◌<◌, ◌≤◌}
use native.Mathlib.Omega.{arith}
use native.Mathlib.Nat.{not-suc-le-zero}
use lib.Dec.{eqb, ltb}
use lib.ListN.{length, get_or, take, set, replicate, length-append, length-set, length-replicate, get_or-append}
use lib.Seq.{get_or-append-add, get_or-set_same, get_or-set_other, ext_get_or}
use borrow.Author.Tests.{eqb-true, eqb-false, ltb-true, ltb-false}
use Rattle.bits.specs.Columns.{column_of}
use Rattle.bits.specs.Sizes.{most_class_levels, class_words}
use Rattle.bits.proofs.Below.{by_cases, below_suc}
use Rattle.bits.proofs.ColumnLaws.{column_entry, column_length}
use Rattle.card.specs.Fields.{class_levels, class_of}
use Rattle.sheet.specs.Answer.{table, class_columns, class_table, zeros}
use Rattle.sheet.proofs.Fill.{length-table, get_d_table, get_d_table_past, get_d_zeros}

-- ---- the table as the definition has it

module _ (s people : List ℕ) (few : length people ≤ 64) where
  pub length_columns : (n : ℕ) → length (class_columns s people n) ≡ n * 64
  unfolding class_columns
  length_columns zero = refl
  length_columns (suc n) =
      length-append (class_columns s people n) (table 64 (class_of s (suc n)) people)
      ∙ omega (arith, length_columns n, length-table 64 (class_of s (suc n)) people few)

  -- person p at level r + 1
  pub columns_entry : (n r p : ℕ) → r < n → p < 64
      → get_or (class_columns s people n) (r * 64 + p) 0 ≡ get_or (table 64 (class_of s (suc r)) people) p 0
  unfolding class_columns
  columns_entry zero r p l m = absurd (not-suc-le-zero l)
  columns_entry (suc n) r p l m =
      let w = length_columns n in
      below_suc n r l
      (λ k. get_or-append (class_columns s people n) (table 64 (class_of s (suc n)) people) 0 (r * 64 + p) (omega arith) ∙ columns_entry n r p k m)
      (λ e.
      let i : r * 64 + p ≡ length (class_columns s people n) + p = omega arith in
      ap (λ (x : ℕ). get_or (class_columns s people n ++ table 64 (class_of s (suc n)) people) x 0) i
      ∙ get_or-append-add (class_columns s people n) (table 64 (class_of s (suc n)) people) p 0
      ∙ ap (λ (x : ℕ). get_or (table 64 (class_of s (suc x)) people) p 0) (sym e))

  -- ---- with zeros after the last level

  module _ (deep : class_levels s ≤ most_class_levels) where
    pub length_classes : length (class_table s people) ≡ class_words
    length_classes =
        length-append (class_columns s people (class_levels s)) (zeros (class_words - class_levels s * 64))
        ∙ omega (arith, length_columns (class_levels s), length-replicate {A = ℕ} (class_words - class_levels s * 64) 0)

    pub classes_entry : (r p : ℕ) → r < class_levels s → p < 64 → get_or (class_table s people) (r * 64 + p) 0 ≡ get_or (table 64 (class_of s (suc r)) people) p 0
    classes_entry r p l m =
        let w = length_columns (class_levels s) in
        get_or-append (class_columns s people (class_levels s)) (zeros (class_words - class_levels s * 64)) 0 (r * 64 + p) (omega arith)
        ∙ columns_entry (class_levels s) r p l m

    pub classes_past : (x : ℕ) → class_levels s * 64 ≤ x → get_or (class_table s people) x 0 ≡ 0
    classes_past x l =
        let w = length_columns (class_levels s) in
        let e : x ≡ length (class_columns s people (class_levels s)) + (x - class_levels s * 64) = omega arith in
        ap (λ (y : ℕ). get_or (class_table s people) y 0) e
        ∙ get_or-append-add (class_columns s people (class_levels s)) (zeros (class_words - class_levels s * 64)) (x - class_levels s * 64) 0
        ∙ get_d_zeros (class_words - class_levels s * 64) (x - class_levels s * 64)

    -- the classes of a level are the table of its field
    pub classes_level : (q : ℕ) → 1 ≤ q → q ≤ class_levels s → column_of (class_table s people) q ≡ table 64 (class_of s q) people
    classes_level q l m =
        let class = class_table s people in
        let w = column_length class q length_classes l (omega arith) in
        let e : suc (q - 1) ≡ q = omega arith in
        ext_get_or 0 (column_of class q) (table 64 (class_of s q) people) (w ∙ sym (length-table 64 (class_of s q) people few))
        (λ p k.
        let j : p < 64 = omega arith in
        column_entry class q p j
        ∙ classes_entry (q - 1) p (omega arith) j
        ∙ ap (λ (x : ℕ). get_or (table 64 (class_of s x) people) p 0) e)

-- ---- as the code fills it

-- the classes of the levels before q + 1 are there, and at level q + 1 those of the first k people
pub record ClassesFilled (s list : List ℕ) (count q k : ℕ) (out : List ℕ) : Type 0 where
  pub sized : length out ≡ class_words
  pub done : (r p : ℕ) → r < q → p < 64 → get_or out (r * 64 + p) 0 ≡ get_or (table 64 (class_of s (suc r)) (take count list)) p 0
  pub row : (p : ℕ) → p < k → get_or out (q * 64 + p) 0 ≡ class_of s (suc q) (get_or list p 0)
  pub rest : (x : ℕ) → q * 64 + k ≤ x → get_or out x 0 ≡ 0

module _ (s list : List ℕ) (count : ℕ) where
  pub classes_none : ClassesFilled s list count 0 0 (replicate class_words 0)
  classes_none =
      record {
        sized = length-replicate {A = ℕ} class_words 0;
        done = λ r p l m. absurd (not-suc-le-zero l);
        row = λ p l. absurd (not-suc-le-zero l);
        rest = λ x l. get_d_zeros class_words x;
      }

  pub classes_more : (q k v : ℕ) (out : List ℕ) → q < most_class_levels → k < 64 → ClassesFilled s list count q k out
      → v ≡ class_of s (suc q) (get_or list k 0) → ClassesFilled s list count q (k + 1) (set out (q * 64 + k) v)
  classes_more q k v out l m w e =
      record {
        sized = length-set out (q * 64 + k) v ∙ w.sized;
        done = λ r p a b. other (r * 64 + p) (λ d. omega arith) ∙ w.done r p a b;
        row = λ p a.
            by_cases (eqb p k)
            (λ t.
            let d : p ≡ k = eqb-true p k t in
            subst (λ (x : ℕ). get_or (set out (q * 64 + k) v) (q * 64 + x) 0 ≡ class_of s (suc q) (get_or list x 0)) (sym d)
            (get_or-set_same out (q * 64 + k) v 0 (omega (arith, w.sized)) ∙ e))
            (λ t. let d : p ≡ k → ⊥ = eqb-false p k t in other (q * 64 + p) (λ c. omega arith) ∙ w.row p (omega arith));
        rest = λ x a. other x (λ d. omega arith) ∙ w.rest x (omega arith);
      }
    where
      other : (x : ℕ) → (x ≡ q * 64 + k → ⊥) → get_or (set out (q * 64 + k) v) x 0 ≡ get_or out x 0
      other x d = get_or-set_other out (q * 64 + k) x v 0 d

  module _ (listed : length (take count list) ≡ count) (few : count ≤ 64) (taken : (p : ℕ) → p < count → get_or (take count list) p 0 ≡ get_or list p 0) where
    pub classes_row : (q : ℕ) (out : List ℕ) → ClassesFilled s list count q count out → ClassesFilled s list count (q + 1) 0 out
    classes_row q out w =
        record {
          sized = w.sized;
          done = λ r p l m.
              by_cases (eqb r q)
              (λ t.
              let d : r ≡ q = eqb-true r q t in
              subst (λ (x : ℕ). get_or out (x * 64 + p) 0 ≡ get_or (table 64 (class_of s (suc x)) (take count list)) p 0) (sym d) (last p m))
              (λ t. let d : r ≡ q → ⊥ = eqb-false r q t in w.done r p (omega arith) m);
          row = λ p l. absurd (not-suc-le-zero l);
          rest = λ x l. w.rest x (omega arith);
        }
      where
        last : (p : ℕ) → p < 64 → get_or out (q * 64 + p) 0 ≡ get_or (table 64 (class_of s (suc q)) (take count list)) p 0
        last p m =
            by_cases (ltb p count)
            (λ t.
            let l : p < count = ltb-true p count t in
            w.row p l
            ∙ ap (class_of s (suc q)) (sym (taken p l))
            ∙ sym (get_d_table 64 (class_of s (suc q)) (take count list) p (omega arith)))
            (λ t.
            let l : count ≤ p = ltb-false p count t in
            w.rest (q * 64 + p) (omega arith) ∙ sym (get_d_table_past 64 (class_of s (suc q)) (take count list) p (omega arith)))

    pub classes_all : (q : ℕ) (out : List ℕ) → class_levels s ≤ most_class_levels → q ≡ class_levels s → ClassesFilled s list count q 0 out → out ≡ class_table s (take count list)
    classes_all q out deep e w =
        let f : length (take count list) ≤ 64 = omega arith in
        let n = length_classes s (take count list) f deep in
        ext_get_or 0 out (class_table s (take count list)) (omega (arith, w.sized))
        (λ x m.
        by_cases (ltb (x / 64) q)
        (λ t.
        let l : x / 64 < q = ltb-true (x / 64) q t in
        let d : x ≡ x / 64 * 64 + x % 64 = omega arith in
        ap (λ (y : ℕ). get_or out y 0) d
        ∙ w.done (x / 64) (x % 64) l (omega arith)
        ∙ sym (classes_entry s (take count list) f deep (x / 64) (x % 64) (omega arith) (omega arith))
        ∙ ap (λ (y : ℕ). get_or (class_table s (take count list)) y 0) (sym d))
        (λ t.
        let l : q ≤ x / 64 = ltb-false (x / 64) q t in
        w.rest x (omega arith) ∙ sym (classes_past s (take count list) f deep x (omega arith))))
