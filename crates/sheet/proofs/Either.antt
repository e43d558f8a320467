-- The first clash over several levels: each level is gone through up to the first found so far. Assumes nothing.
use mathlib.Core.Bool.{Bool, true, false, ◌||◌}
use mathlib.Core.List.{List}
use mathlib.Core.Path.{◌≡◌, refl, sym, ◌∙◌, ap, ap₂, subst}
use Prim.Native.Nat.{ℕ, suc, ◌+◌, ◌-◌, ◌≤◌}
use native.Mathlib.Omega.{arith}
use lib.Dec.{ltb}
use borrow.Author.Tests.{ltb-true, ltb-false}
use Rattle.bits.specs.Below.{any, first}
use Rattle.bits.specs.Columns.{column_of}
use Rattle.bits.proofs.Below.{by_cases, first-le, first_has, first_none, first_unique}
use Rattle.bits.proofs.Counting.{any_of, any_at, any_none, none_any}
use Rattle.bits.proofs.Masks.{or_left, or_right}
use Rattle.sheet.specs.Cards.{moved_at, moved_in}
use Rattle.sheet.specs.Read.{first_clash}

-- a clash of one kind or of another
abbrev either : (ℕ → ℕ → Bool) → (ℕ → ℕ → Bool) → ℕ → ℕ → Bool
either f g j k = f j k || g j k

module _ (f g : ℕ → ℕ → Bool) where
  -- k clashes with an earlier one
  abbrev clashes : (ℕ → ℕ → Bool) → ℕ → Bool
  clashes h k = any k (λ j. h j k)

  left_clashes : (k : ℕ) → clashes f k ≡ true → clashes (either f g) k ≡ true
  left_clashes k t = let w = any_at k (λ j. f j k) t in any_of k (λ j. either f g j k) w.0 w.1 (or_left (f w.0 k) (g w.0 k) w.2)

  right_clashes : (k : ℕ) → clashes g k ≡ true → clashes (either f g) k ≡ true
  right_clashes k t = let w = any_at k (λ j. g j k) t in any_of k (λ j. either f g j k) w.0 w.1 (or_right (f w.0 k) (g w.0 k) w.2)

  neither_clashes : (k : ℕ) → clashes f k ≡ false → clashes g k ≡ false → clashes (either f g) k ≡ false
  neither_clashes k a b =
      none_any k (λ j. either f g j k) (λ j l. both (f j k) (g j k) (any_none k (λ i. f i k) a j l) (any_none k (λ i. g i k) b j l))
    where
      both : (x y : Bool) → x ≡ false → y ≡ false → x || y ≡ false
      both x y c d = rw (c, d) refl

  -- the first of the second kind up to the first of the first kind
  pub clash_either : (n : ℕ) → first_clash (first_clash n f) g ≡ first_clash n (either f g)
  unfolding first_clash
  clash_either n =
      let m = first n (clashes f) in
      let r = first m (clashes g) in
      let a = first-le n (clashes f) in
      let b = first-le m (clashes g) in
      sym
      (first_unique n (clashes (either f g)) r (omega arith)
      (λ l. by_cases (ltb r m)
      (λ t. right_clashes r (first_has m (clashes g) (ltb-true r m t)))
      (λ t.
      let c : m ≤ r = ltb-false r m t in
      let e : r ≡ m = omega arith in
      subst (λ (x : ℕ). clashes (either f g) x ≡ true) (sym e) (left_clashes m (first_has n (clashes f) (omega arith)))))
      (λ k l. neither_clashes k (first_none n (clashes f) k (omega arith)) (first_none m (clashes g) k l)))

pub clash_le : (n : ℕ) (f : ℕ → ℕ → Bool) → first_clash n f ≤ n
unfolding first_clash
clash_le n f = first-le n _

module _ (class : List ℕ) (count : ℕ) where
  pub moved_none : count ≡ first_clash count (moved_in class 0)
  unfolding first_clash any
  moved_none = sym (first_unique count _ count (omega arith) (λ l. absurd (omega arith)) (λ k l. none_any k _ (λ j m. refl)))

  -- one level more
  moved_more : (n first r : ℕ) → first ≡ first_clash count (moved_in class n)
      → r ≡ first_clash first (moved_at (column_of class (suc (suc n))) (column_of class (suc n))) → r ≡ first_clash count (moved_in class (suc n))
  unfolding any
  moved_more n first r e d =
      let below = column_of class (suc (suc n)) in let above = column_of class (suc n) in
      d ∙ ap (λ (x : ℕ). first_clash x (moved_at below above)) e ∙ clash_either (moved_in class n) (moved_at below above) count

  -- the same for level q, from 2, by its classes and those above
  pub moved_level : (q first r : ℕ) (below above : List ℕ) → 2 ≤ q → first ≡ first_clash count (moved_in class (q - 2))
      → below ≡ column_of class q → above ≡ column_of class (q - 1) → r ≡ first_clash first (moved_at below above) → r ≡ first_clash count (moved_in class (q + 1 - 2))
  moved_level q first r below above l e b a d =
      let x : q ≡ suc (suc (q - 2)) = omega arith in
      let y : q - 1 ≡ suc (q - 2) = omega arith in
      let z : suc (q - 2) ≡ q + 1 - 2 = omega arith in
      moved_more (q - 2) first r e
      (d ∙ ap₂ (λ (u v : List ℕ). first_clash first (moved_at u v)) (b ∙ ap (column_of class) x) (a ∙ ap (column_of class) y))
      ∙ ap (λ (n : ℕ). first_clash count (moved_in class n)) z
