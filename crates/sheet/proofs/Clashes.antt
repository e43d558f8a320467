-- Where no tag fell into a slot, none stood before; where the first person of a slot has the same class and the same above, no earlier one has
-- the class with another above; and the first clash of two kinds. Assumes nothing.
use mathlib.Core.Bool.{Bool, true, false, ◌&&◌, ◌||◌, or-false}
use mathlib.Core.List.{List, [], ◌∷◌, ◌++◌}
use mathlib.Core.Path.{◌≡◌, refl, sym, ◌∙◌, ap}
use Prim.Native.Nat.{ℕ, zero, suc, ◌+◌, ◌%◌, ◌<◌, ◌≤◌}
use native.Mathlib.Omega.{arith}
use native.Mathlib.Nat.{not-suc-le-zero}
use lib.Dec.{eqb, ltb}
use lib.ListN.{length, get_or, take, set, replicate, length-set, length-replicate}
use native.Mathlib.Numerals.{add-one}
use Rattle.std.specs.List.{list_any}
use Rattle.bits.proofs.Scan.{any-zero, any_more}
use lib.Seq.{take-suc, get_or-set_same, get_or-set_other}
use borrow.Author.Count.{below_more}
use borrow.Author.Tests.{eqb-true, eqb-false, eq-eqb, ltb-true, ltb-false, not-true, not-false}
use Rattle.bits.specs.Below.{any}
use Rattle.bits.specs.Slots.{slot_of, NoneBefore}
use Rattle.bits.proofs.Below.{by_cases, true-false, and_left, and_right}
use Rattle.bits.proofs.Counting.{is_false, any_none, none_any}
use Rattle.sheet.specs.Cards.{equal_at, moved_at}
use Rattle.sheet.specs.Slots.{SlotsMarked, Unmoved}

pub marked_none : (tags : List ℕ) → SlotsMarked tags 0 (replicate 1024 false)
marked_none tags = record { size = length-replicate 1024 false; each = λ j h. absurd (not-suc-le-zero h) }

module _ (tags : List ℕ) (k : ℕ) (marks : List Bool) (w : SlotsMarked tags k marks) where
  pub marked_same : get_or marks (slot_of tags k) false ≡ true → SlotsMarked tags (k + 1) marks
  marked_same h = record { size = w.size; each = below_more (λ (j : ℕ). get_or marks (slot_of tags j) false ≡ true) k w.each h }

  own : get_or (set marks (slot_of tags k) true) (slot_of tags k) false ≡ true
  own = get_or-set_same marks (slot_of tags k) true false (omega (arith, w.size))

  kept : (j : ℕ) → j < k → get_or (set marks (slot_of tags k) true) (slot_of tags j) false ≡ true
  kept j l =
      by_cases (eqb (slot_of tags j) (slot_of tags k))
      (λ t. ap (λ (h : ℕ). get_or (set marks (slot_of tags k) true) h false) (eqb-true _ _ t) ∙ own)
      (λ t. get_or-set_other marks (slot_of tags k) (slot_of tags j) true false (eqb-false _ _ t) ∙ w.each j l)

  pub marked_more : SlotsMarked tags (k + 1) (set marks (slot_of tags k) true)
  marked_more =
      record {
        size = length-set marks (slot_of tags k) true ∙ w.size;
        each = below_more (λ (j : ℕ). get_or (set marks (slot_of tags k) true) (slot_of tags j) false ≡ true) k kept own;
      }

  pub not-marked : get_or marks (slot_of tags k) false ≡ false → false ≡ any k (λ j. equal_at tags j k)
  not-marked h =
      sym
      (none_any k (λ j. equal_at tags j k)
      (λ j l. is_false (equal_at tags j k)
      (λ t. true-false (w.each j l) (ap (λ (x : ℕ). get_or marks (x % 1024) false) (eqb-true _ _ t) ∙ h))))

module _ (below above : List ℕ) (k : ℕ) (u : Unmoved below above k) where
  -- two people before k of one class have one above
  pair : (i j : ℕ) → i < j → j < k → get_or below i 0 ≡ get_or below j 0 → get_or above i 0 ≡ get_or above j 0
  pair i j l m e =
      let h : moved_at below above i j ≡ false = any_none j (λ x. moved_at below above x j) (u.each j m) i l in
      eqb-true _ _ (not-false (equal_at above i j) (rw (eq-eqb _ _ e) at h))

  pub same_above : (i : ℕ) → NoneBefore below k i → (equal_at below i k && equal_at above i k) ≡ true → false ≡ any k (λ j. moved_at below above j k)
  same_above i w h =
      sym
      (none_any k (λ j. moved_at below above j k)
      (λ j l. is_false (moved_at below above j k)
      (λ t.
      let e : get_or below j 0 ≡ get_or below k 0 = eqb-true _ _ (and_left (equal_at below j k) _ t) in
      eqb-false _ _ (not-true (equal_at above j k) (and_right (equal_at below j k) _ t)) (with_i j l e ∙ eqb-true _ _ (and_right (equal_at below i k) _ h)))))
    where
      with_i : (j : ℕ) → j < k → get_or below j 0 ≡ get_or below k 0 → get_or above j 0 ≡ get_or above i 0
      with_i j l e =
          by_cases (ltb j i)
          (λ t. absurd (w.before j (ltb-true j i t) (ap (λ (x : ℕ). x % 1024) e)))
          (λ t. by_cases (eqb j i)
          (λ q. ap (λ (x : ℕ). get_or above x 0) (eqb-true j i q))
          (λ q.
          let f : j ≡ i → ⊥ = eqb-false j i q in
          let g : i ≤ j = ltb-false j i t in
          sym (pair i j (omega arith) l (eqb-true _ _ (and_left (equal_at below i k) _ h) ∙ sym e))))

-- the first entries of a list have a number where one of their places has it
list_any-snoc : (p : ℕ → Bool) (xs : List ℕ) (y : ℕ) → list_any p (xs ++ y ∷ []) ≡ (list_any p xs || p y)
list_any-snoc p [] y = or-false (p y)
list_any-snoc p (x ∷ xs) y = ap (λ (b : Bool). p x || b) (list_any-snoc p xs y) ∙ turned (p x) (list_any p xs) (p y)
  where
    turned : (a b c : Bool) → (a || (b || c)) ≡ ((a || b) || c)
    turned true b c = refl
    turned false b c = refl

pub contains-any : (l : List ℕ) (x k : ℕ) → k ≤ length l → list_any (λ y. eqb y x) (take k l) ≡ any k (λ j. eqb (get_or l j 0) x)
contains-any l x zero h = any-zero (λ j. eqb (get_or l j 0) x)
contains-any l x (suc k) h =
    ap (list_any (λ y. eqb y x)) (take-suc l k 0 (omega arith))
    ∙ list_any-snoc (λ y. eqb y x) (take k l) (get_or l k 0)
    ∙ ap (λ (b : Bool). b || eqb (get_or l k 0) x) (contains-any l x k (omega arith))
    ∙ any_more (λ j. eqb (get_or l j 0) x) k _ _ refl refl
    ∙ ap (λ (n : ℕ). any n (λ j. eqb (get_or l j 0) x)) (add-one k)
