-- The classes with somebody for each step, found from what lies inside each class and level by level. Assumes nothing.
use mathlib.Core.Bool.{Bool, true}
use mathlib.Core.List.{List}
use mathlib.Core.Path.{◌≡◌, refl, sym, subst, ◌∙◌}
use Prim.Native.Nat.{ℕ, suc, ◌+◌, ◌*◌, ◌/◌, ◌%◌, ◌≤◌, ◌<◌}
use native.Mathlib.Nat.{not-suc-le-zero}
use native.Mathlib.Omega.{arith}
use lib.Bits.{bit_and}
use lib.Dec.{eqb, ltb}
use lib.ListN.{length, get_or, set, length-set}
use lib.Seq.{get_or-set_same, get_or-set_other}
use borrow.Author.Tests.{eqb-true, eqb-false, ltb-true, ltb-false, lt-ltb}
use Rattle.bits.specs.Word.{has_bit}
use Rattle.bits.specs.Set.{Added, Mask}
use Rattle.bits.proofs.Below.{by_cases, below_suc, true-false}
use Rattle.bits.proofs.Counting.{and_of}
use Rattle.bits.proofs.SetLaws.{empty_lacks, zero_empty, and-bit, and-bit_left, and-bit_right, and_apart, added_has, added_keeps, added_other}
use Rattle.bits.proofs.Masks.{mask_has, mask_in, some_bit}
use Rattle.bits.specs.Sizes.{most_levels, label_entries}
use Rattle.workflow.specs.Problem.{Job}
use Rattle.pattern.specs.Given.{ClassTable}
use Rattle.pattern.specs.Nesting.{part_in, Nesting}
use Rattle.pattern.specs.Tables.{class_in, number_in, may_in}
use Rattle.pattern.proofs.Nesting.{part_last, part_above, number_is, part_same}
use Rattle.pattern.proofs.Number.{numbering}
use Rattle.realize.specs.Parts.{Held, Holding, PartsOf, ReachedFrom, Rising, Reachable, Offers}

-- ---- the classes with one of a set inside

module _ (nest : List ℕ) (q these : ℕ) where
  pub held_none : Held nest q these 0 0
  held_none =
      record {
        full = λ v l. absurd (not-suc-le-zero l);
        has = λ v w l. absurd (not-suc-le-zero l);
        only = λ v h. true-false h (empty_lacks v);
      }

  module _ {x r : ℕ} (w : Held nest q these x r) (some : get_or nest (q * 64 + x) 0 ≡ 0 → ⊥) where
    filled : (v : ℕ) → v < x + 1 → get_or nest (q * 64 + v) 0 ≡ 0 → ⊥
    filled v l e =
        below_suc x v (omega arith) (λ m. w.full v m e) (λ m. some (subst (λ (y : ℕ). get_or nest (q * 64 + y) 0 ≡ 0) m e))

    -- a class with none of them
    pub held_skip : bit_and (get_or nest (q * 64 + x) 0) these ≡ 0 → Held nest q these (x + 1) r
    held_skip e =
        record {
          full = filled;
          has = λ v u l h k.
              below_suc x v (omega arith) (λ m. w.has v u m h k)
              (λ m. true-false k (and_apart (get_or nest (q * 64 + x) 0) these u e (subst (λ (y : ℕ). has_bit (get_or nest (q * 64 + y) 0) u ≡ true) m h)));
          only = λ v h. let o = w.only v h in (omega (arith, o.0), o.1, o.2, o.3);
        }

    -- a class with one
    pub held_more : {r' : ℕ} → (bit_and (get_or nest (q * 64 + x) 0) these ≡ 0 → ⊥) → Added r x r' → Held nest q these (x + 1) r'
    held_more {r'} d more =
        record {
          full = filled;
          has = λ v u l h k.
              below_suc x v (omega arith) (λ m. added_keeps more v (w.has v u m h k))
              (λ m. subst (λ (y : ℕ). has_bit r' y ≡ true) (sym m) (added_has more));
          only = λ v h.
              by_cases (eqb v x)
              (λ t. let e : v ≡ x = eqb-true v x t in
              let b = some_bit (bit_and (get_or nest (q * 64 + x) 0) these) d in (
                omega arith,
                b.0,
                subst (λ (y : ℕ). has_bit (get_or nest (q * 64 + y) 0) b.0 ≡ true) (sym e) (and-bit_left (get_or nest (q * 64 + x) 0) these b.0 b.1),
                and-bit_right (get_or nest (q * 64 + x) 0) these b.0 b.1,
              ))
              (λ t. let o = w.only v (sym (added_other more v (eqb-false v x t)) ∙ h) in (omega (arith, o.0), o.1, o.2, o.3));
        }

  -- all classes have something inside, or those before x, which has nothing
  pub holding_all : {x r : ℕ} → Held nest q these x r → x ≤ 64 → 64 ≤ x → Holding nest q these r
  holding_all {x} w l m = record { stop = x; within = l; empty = λ h. absurd (omega arith); held = w }

  pub holding_empty : {x r : ℕ} → Held nest q these x r → x < 64 → get_or nest (q * 64 + x) 0 ≡ 0 → Holding nest q these r
  holding_empty {x} w l e = record { stop = x; within = omega arith; empty = λ h. e; held = w }

-- ---- what people stand for

pub parts_cong : {people : ℕ} {test : ℕ → Bool} {f : ℕ → ℕ} (g : ℕ → ℕ) {m : ℕ} → ((p : ℕ) → p < people → f p ≡ g p) → PartsOf people test f m
    → PartsOf people test g m
parts_cong g {m} same w =
    record {
      has = λ p l t. subst (λ (y : ℕ). has_bit m y ≡ true) (same p l) (w.has p l t);
      only = λ v h. let o = w.only v h in (o.0, o.1, o.2, sym (same o.0 o.1) ∙ o.3);
    }

-- those permitted a step, as people
pub parts_able : (people : ℕ) (may : List ℕ) (s all : ℕ) → Mask (λ p. ltb p people) all
    → PartsOf people (may_in may s) (λ p. p) (bit_and (get_or may s 0) all)
parts_able people may s all mask =
    record {
      has = λ p l t. and-bit (get_or may s 0) all p ∙ and_of (may_in may s p) (has_bit all p) t (mask_has mask p (lt-ltb p people l));
      only = λ p h. (
        p,
        ltb-true p people (mask_in mask p (and-bit_right (get_or may s 0) all p h)),
        and-bit_left (get_or may s 0) all p h,
        refl,
      );
    }

-- what people stand for inside the classes of the last level, and of a level above it
pub parts_last : {people : ℕ} {test : ℕ → Bool} {m : ℕ} (levels : ℕ) (class : List ℕ) (q : ℕ) → levels ≤ q + 1 → PartsOf people test (λ p. p) m
    → PartsOf people test (part_in levels class q) m
parts_last levels class q l w =
    parts_cong (part_in levels class q) (λ p h. sym (part_last levels class q p (omega arith))) w

pub parts_inner : {people : ℕ} {test : ℕ → Bool} {m : ℕ} (levels : ℕ) (class : List ℕ) (q : ℕ) → q + 1 < levels
    → PartsOf people test (number_in class (suc q)) m → PartsOf people test (part_in levels class q) m
parts_inner levels class q l w =
    parts_cong (part_in levels class q) (λ p h. sym (part_above levels class q p (omega arith))) w

-- ---- a level from the one below it

module _ {people levels : ℕ} {class : List ℕ} (table : ClassTable people levels class) where
  -- where each person is a class
  pub parts_own : {test : ℕ → Bool} {m : ℕ} (q : ℕ) → q < levels → ((p : ℕ) → p < people → class_in class (suc q) p ≡ p)
      → PartsOf people test (λ p. p) m → PartsOf people test (number_in class q) m
  parts_own q d own w = parts_cong (number_in class q) (λ p l. sym (number_is table q p d l ∙ own p l)) w

  module _ {nest : List ℕ} (nesting : Nesting people levels class nest) (q : ℕ) (d : q < levels) where
    -- a class has something inside
    inside : (p : ℕ) → p < people → has_bit (get_or nest (q * 64 + number_in class q p) 0) (part_in levels class q p) ≡ true
    inside p l = nesting.has q p d l (omega (arith, table.few))

    -- no number before that of a class is left out, so that each class stands before the first with nothing inside
    before_stop : {these r : ℕ} (h : Holding nest q these r) (p : ℕ) → p < people → number_in class q p < h.stop
    before_stop h p l =
        by_cases (ltb (number_in class q p) h.stop) (λ t. ltb-true (number_in class q p) h.stop t)
        (λ t.
        let n = numbering people (class_in class (suc q)) in
        let m : number_in class q p < 64 = omega arith in
        let u : h.stop ≤ number_in class q p = ltb-false (number_in class q p) h.stop t in
        let e = number_is table q p d l ∙ table.numbers (suc q) p (omega arith) d l in
        let o = n.each h.stop (omega (arith, n.below p l)) in
        let f : number_in class q o.0 ≡ h.stop = number_is table q o.0 d o.1 ∙ table.numbers (suc q) o.0 (omega arith) d o.1 ∙ o.2 in
        true-false (inside o.0 o.1)
        (zero_empty (get_or nest (q * 64 + number_in class q o.0) 0)
        (subst (λ (y : ℕ). get_or nest (q * 64 + y) 0 ≡ 0) (sym f) (h.empty (omega arith))) (part_in levels class q o.0)))

    -- the classes that have inside what people stand for are the classes of these people
    pub parts_up : {test : ℕ → Bool} {these r : ℕ} → PartsOf people test (part_in levels class q) these → Holding nest q these r
        → PartsOf people test (number_in class q) r
    parts_up {test} {these} {r} w h =
        record {
          has = λ p l t. h.held.has (number_in class q p) (part_in levels class q p) (before_stop h p l) (inside p l) (w.has p l t);
          only = λ v k.
              let a = h.held.only v k in
              let b = nesting.only q v a.1 d (omega (arith, a.0, h.within)) a.2 in
              let o = w.only a.1 a.3 in
              (o.0, o.1, o.2, part_same table q o.0 b.0 d o.1 b.1 (o.3 ∙ sym b.3) ∙ b.2);
        }

-- ---- the table

module _ (people : ℕ) (class may : List ℕ) where
  pub reached_from : (x x' z : ℕ) {reach : List ℕ} → x ≤ x' → ReachedFrom people class may x z reach → ReachedFrom people class may x' z reach
  reached_from x x' z l w = record { sized = w.sized; each = λ y h k. w.each y (omega arith) k }

  -- all levels
  pub reached_all : (x z : ℕ) {reach : List ℕ} → x ≡ 0 → ReachedFrom people class may x z reach → Reachable people class may z reach
  reached_all x z e w =
      record {
        sized = w.sized;
        has = λ y p h. (w.each y (omega arith) h).has p;
        only = λ y v h. (w.each y (omega arith) h).only v;
      }

  module _ (levels q : ℕ) where
    -- an entry of the level below
    pub rising_below : {s : ℕ} {reach : List ℕ} → s < 12 → q + 1 < levels → Rising people levels class may q s reach
        → PartsOf people (may_in may s) (number_in class (suc q)) (get_or reach (q * 12 + s + 12) 0)
    rising_below {s} {reach} l m w =
        let a : (q * 12 + s + 12) / 12 ≡ suc q = omega arith in
        let b : (q * 12 + s + 12) % 12 ≡ s = omega arith in
        subst (λ (y : ℕ). PartsOf people (may_in may y) (number_in class (suc q)) (get_or reach (q * 12 + s + 12) 0)) b
        (subst (λ (y : ℕ). PartsOf people (may_in may ((q * 12 + s + 12) % 12)) (number_in class y) (get_or reach (q * 12 + s + 12) 0)) a
        (w.below.each (q * 12 + s + 12) (omega arith) (omega arith)))

    -- the next entry
    pub rising_more : (s row : ℕ) (reach : List ℕ) → q < most_levels → s < 12 → Rising people levels class may q s reach
        → PartsOf people (may_in may s) (number_in class q) row → Rising people levels class may q (s + 1) (set reach (q * 12 + s) row)
    rising_more s row reach d l w parts =
        record {
          row =
              record {
                sized = length-set reach x row ∙ w.row.sized;
                each = λ y h k.
                    by_cases (eqb y x)
                    (λ t. subst (λ (i : ℕ). PartsOf people (may_in may (i % 12)) (number_in class (i / 12)) (get_or (set reach x row) i 0)) (sym (eqb-true y x t)) new)
                    (λ t. let n : y ≡ x → ⊥ = eqb-false y x t in other y n (w.row.each y h (omega arith)));
              };
          below =
              record {
                sized = length-set reach x row ∙ w.below.sized;
                each = λ y h k. let n : y ≡ x → ⊥ = λ e. omega arith in other y n (w.below.each y h k);
              };
        }
      where
        x : ℕ
        x = q * 12 + s

        other : (y : ℕ) → (y ≡ x → ⊥) → PartsOf people (may_in may (y % 12)) (number_in class (y / 12)) (get_or reach y 0)
            → PartsOf people (may_in may (y % 12)) (number_in class (y / 12)) (get_or (set reach x row) y 0)
        other y n = subst (PartsOf people (may_in may (y % 12)) (number_in class (y / 12))) (sym (get_or-set_other reach x y row 0 n))

        new : PartsOf people (may_in may (x % 12)) (number_in class (x / 12)) (get_or (set reach x row) x 0)
        new =
            let a : x / 12 ≡ q = omega arith in
            let b : x % 12 ≡ s = omega arith in
            subst (PartsOf people (may_in may (x % 12)) (number_in class (x / 12))) (sym (get_or-set_same reach x row 0 (omega (arith, w.row.sized))))
            (subst (λ (y : ℕ). PartsOf people (may_in may y) (number_in class (x / 12)) row) (sym b)
            (subst (λ (y : ℕ). PartsOf people (may_in may s) (number_in class y) row) (sym a) parts))

    -- the level made
    pub rising_all : {s : ℕ} {reach : List ℕ} → 12 ≤ s → Rising people levels class may q s reach
        → ReachedFrom people class may (q * 12) (levels * 12) reach
    rising_all {s} l w =
        record {
          sized = w.row.sized;
          each = λ y h k.
              by_cases (ltb y (q * 12 + s)) (λ t. w.row.each y h (ltb-true y (q * 12 + s) t))
              (λ t. let m : q * 12 + s ≤ y = ltb-false y (q * 12 + s) t in w.below.each y (omega arith) k);
        }

-- ---- the classes of a job

-- the classes of the job have the numbers of the table
module _ {j : Job} {class may reach : List ℕ} (its : (q p : ℕ) → q < j.levels → p < j.people → number_in class q p ≡ j.class (suc q) p)
    (w : Reachable j.people class may (j.levels * 12) reach) where
  pub reachable_offers : Offers j may reach
  reachable_offers =
      record {
        sized = w.sized;
        has = λ q s p d l k m.
            let a : (q * 12 + s) / 12 ≡ q = omega arith in
            let b : (q * 12 + s) % 12 ≡ s = omega arith in
            subst (λ (x : ℕ). has_bit (get_or reach (q * 12 + s) 0) x ≡ true) (its q p d k)
            (subst (λ (x : ℕ). has_bit (get_or reach (q * 12 + s) 0) (number_in class x p) ≡ true) a
            (w.has (q * 12 + s) p (omega arith) k (subst (λ (x : ℕ). may_in may x p ≡ true) (sym b) m)));
        only = λ q s v d l h.
            let a : (q * 12 + s) / 12 ≡ q = omega arith in
            let b : (q * 12 + s) % 12 ≡ s = omega arith in
            let o = w.only (q * 12 + s) v (omega arith) h in (
              o.0,
              o.1,
              subst (λ (x : ℕ). may_in may x o.0 ≡ true) b o.2,
              sym (its q o.0 d o.1) ∙ subst (λ (x : ℕ). number_in class x o.0 ≡ v) a o.3,
            );
      }
