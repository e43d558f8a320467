-- What lies inside each class, gathered entry by entry. Assumes nothing.
use mathlib.Core.Bool.{true}
use mathlib.Core.List.{List}
use mathlib.Core.Path.{◌≡◌, sym, subst, ap, ◌∙◌}
use Prim.Native.Nat.{ℕ, suc, ◌+◌, ◌*◌, ◌-◌, ◌/◌, ◌%◌, ◌≤◌, ◌<◌}
use native.Mathlib.Omega.{arith}
use native.Mathlib.Nat.{not-suc-le-zero}
use lib.Dec.{eqb}
use lib.ListN.{length, get_or, set, replicate, length-set, length-replicate, get_or-replicate}
use lib.Seq.{get_or-set_same, get_or-set_other}
use borrow.Author.Tests.{eqb-true, eqb-false}
use Rattle.bits.specs.Word.{has_bit}
use Rattle.bits.specs.Set.{Added}
use Rattle.bits.proofs.Below.{by_cases, true-false}
use Rattle.bits.proofs.SetLaws.{zero_empty, added_has, added_keeps, added_other}
use Rattle.bits.specs.Sizes.{most_levels, class_entries}
use Rattle.pattern.specs.Tables.{number_in}
use Rattle.pattern.specs.Nesting.{part_in, ByNumber}
use Rattle.pattern.proofs.Nesting.{part_last, part_above}
use Rattle.levels.specs.Tabled.{Gathered}

-- where the class of entry x stands
abbrev pub place : List ℕ → ℕ → ℕ
place class x = x - x % 64 + get_or class x 0 % 64

module _ (people levels : ℕ) (few : people ≤ 64) (deep : levels ≤ most_levels) (class : List ℕ) (part : ℕ → ℕ → ℕ) where
  pub numbered_all : (x : ℕ) (inside : List ℕ) → x ≤ levels * 64 → levels * 64 ≤ x → ByNumber people levels class part x inside
      → ByNumber people levels class part (levels * 64) inside
  numbered_all x inside l m w = let e : x ≡ levels * 64 = omega arith in subst (λ (y : ℕ). ByNumber people levels class part y inside) e w

  pub numbered_none : ByNumber people levels class part 0 (replicate {A = ℕ} class_entries 0)
  numbered_none =
      record {
        sized = length-replicate {A = ℕ} class_entries 0;
        has = λ b p l m h. absurd (not-suc-le-zero h);
        only = λ b v w l m h. true-false h (zero_empty (get_or (replicate {A = ℕ} class_entries 0) (b * 64 + v) 0) (get_or-replicate {A = ℕ} class_entries (b * 64 + v) 0 0 (omega arith)) w);
      }

  module _ (x : ℕ) (inside : List ℕ) (w : ByNumber people levels class part x inside) (below : x < levels * 64) where
    -- an entry of nobody
    pub numbered_skip : people ≤ x % 64 → ByNumber people levels class part (x + 1) inside
    numbered_skip out =
        record {
          sized = w.sized;
          has = λ b p l m h. w.has b p l m (let z : b * 64 + p ≡ x → ⊥ = λ e. omega arith in omega arith);
          only = w.only;
        }

    module _ (u word : ℕ) (somebody : x % 64 < people) (is : u ≡ part (x / 64) (x % 64)) (joined : Added (get_or inside (place class x) 0) u word) where
      fits : place class x < length inside
      fits = omega (arith, w.sized)

      same : get_or (set inside (place class x) word) (place class x) 0 ≡ word
      same = get_or-set_same inside (place class x) word 0 fits

      keeps : (i p : ℕ) → has_bit (get_or inside i 0) p ≡ true → has_bit (get_or (set inside (place class x) word) i 0) p ≡ true
      keeps i p h =
          by_cases (eqb i (place class x))
          (λ t. let e : i ≡ place class x = eqb-true i (place class x) t in
          subst (λ (y : ℕ). has_bit (get_or (set inside (place class x) word) y 0) p ≡ true) (sym e)
          (ap (λ (y : ℕ). has_bit y p) same ∙ added_keeps joined p (subst (λ (y : ℕ). has_bit (get_or inside y 0) p ≡ true) e h)))
          (λ t. ap (λ (y : ℕ). has_bit y p) (get_or-set_other inside (place class x) i word 0 (eqb-false i (place class x) t)) ∙ h)

      -- the level and the person of the entry
      part_at : (b p : ℕ) → p < people → b * 64 + p ≡ x → part b p ≡ u
      part_at b p m e =
          let f : x / 64 ≡ b = omega arith in
          let g : x % 64 ≡ p = omega arith in
          sym (is ∙ ap (λ (y : ℕ). part y (x % 64)) f ∙ ap (part b) g)

      own : (b p : ℕ) → p < people → b * 64 + p ≡ x
          → has_bit (get_or (set inside (place class x) word) (b * 64 + number_in class b p) 0) (part b p) ≡ true
      own b p m e =
          let d : b * 64 + number_in class b p ≡ place class x
          = ap (λ (y : ℕ). b * 64 + get_or class y 0 % 64) e ∙ (let z : b * 64 ≡ x - x % 64 = omega arith in ap (λ (y : ℕ). y + get_or class x 0 % 64) z)
          in
          subst (λ (y : ℕ). has_bit (get_or (set inside (place class x) word) y 0) (part b p) ≡ true) (sym d)
          (subst (λ (y : ℕ). has_bit (get_or (set inside (place class x) word) (place class x) 0) y ≡ true) (sym (part_at b p m e))
          (ap (λ (y : ℕ). has_bit y u) same ∙ added_has joined))

      new : (b v : ℕ) → b < levels → v < 64 → b * 64 + v ≡ place class x
          → (p : ℕ) × (p < people) × (number_in class b p ≡ v) × (part b p ≡ u)
      new b v l m e =
          let kl : get_or class x 0 % 64 < 64 = omega arith in
          let z : b * 64 + x % 64 ≡ x = omega arith in (
            x % 64,
            somebody,
            ap (λ (y : ℕ). get_or class y 0 % 64) z ∙ (let k : get_or class x 0 % 64 ≡ v = omega arith in k),
            part_at b (x % 64) somebody z,
          )

      -- the entry of somebody
      pub numbered_take : ByNumber people levels class part (x + 1) (set inside (place class x) word)
      numbered_take =
          record {
            sized = length-set inside (place class x) word ∙ w.sized;
            has = λ b p l m h.
                by_cases (eqb (b * 64 + p) x)
                (λ t. own b p m (eqb-true (b * 64 + p) x t))
                (λ t. keeps _ (part b p) (w.has b p l m (let z : b * 64 + p ≡ x → ⊥ = eqb-false (b * 64 + p) x t in omega arith)));
            only = λ b v p l m h.
                by_cases (eqb (b * 64 + v) (place class x))
                (λ t. let e : b * 64 + v ≡ place class x = eqb-true (b * 64 + v) (place class x) t in
                let g : has_bit word p ≡ true = sym (ap (λ (y : ℕ). has_bit y p) same) ∙ subst (λ (y : ℕ). has_bit (get_or (set inside (place class x) word) y 0) p ≡ true) e h in
                by_cases (eqb p u)
                (λ k. let n = new b v l m e in (n.0, n.1, n.2, n.3 ∙ sym (eqb-true p u k)))
                (λ k. w.only b v p l m
                (subst (λ (y : ℕ). has_bit (get_or inside y 0) p ≡ true) (sym e) (sym (added_other joined p (eqb-false p u k)) ∙ g))))
                (λ t. w.only b v p l m
                (sym (ap (λ (y : ℕ). has_bit y p) (get_or-set_other inside (place class x) (b * 64 + v) word 0 (eqb-false (b * 64 + v) (place class x) t))) ∙ h));
          }

    -- all that the people of the class stand for, at once
    module _ (word : ℕ) (somebody : x % 64 < people)
        (Has-All : (p : ℕ) → p < people → number_in class (x / 64) p ≡ number_in class (x / 64) (x % 64) → has_bit word (part (x / 64) p) ≡ true)
        (only-those : (u : ℕ) → has_bit word u ≡ true
        → (p : ℕ) × (p < people) × (number_in class (x / 64) p ≡ number_in class (x / 64) (x % 64)) × (part (x / 64) p ≡ u)) where
      stored : get_or (set inside (place class x) word) (place class x) 0 ≡ word
      stored = get_or-set_same inside (place class x) word 0 (omega (arith, w.sized))

      -- the class of entry x, by its level and its number
      place_at : place class x ≡ x / 64 * 64 + number_in class (x / 64) (x % 64)
      place_at =
          let z : x / 64 * 64 + x % 64 ≡ x = omega arith in
          let y : x - x % 64 ≡ x / 64 * 64 = omega arith in
          ap (λ (k : ℕ). k + get_or class x 0 % 64) y ∙ ap (λ (k : ℕ). x / 64 * 64 + get_or class k 0 % 64) (sym z)

      pub numbered_set : ByNumber people levels class part (x + 1) (set inside (place class x) word)
      numbered_set =
          record {
            sized = length-set inside (place class x) word ∙ w.sized;
            has = λ b p l m h.
                by_cases (eqb (b * 64 + number_in class b p) (place class x))
                (λ t. let e : b * 64 + number_in class b p ≡ place class x = eqb-true (b * 64 + number_in class b p) (place class x) t in
                let kl : number_in class b p < 64 = omega arith in
                let kx : number_in class (x / 64) (x % 64) < 64 = omega arith in
                let f : b ≡ x / 64 = omega (arith, place_at) in
                let g : number_in class b p ≡ number_in class (x / 64) (x % 64) = omega (arith, place_at) in
                subst (λ (y : ℕ). has_bit (get_or (set inside (place class x) word) y 0) (part b p) ≡ true) (sym e)
                (ap (λ (y : ℕ). has_bit y (part b p)) stored
                ∙ subst (λ (y : ℕ). has_bit word (part y p) ≡ true) (sym f) (Has-All p m (ap (λ (y : ℕ). number_in class y p) (sym f) ∙ g))))
                (λ t. let d : b * 64 + number_in class b p ≡ place class x → ⊥ = eqb-false (b * 64 + number_in class b p) (place class x) t in
                ap (λ (y : ℕ). has_bit y (part b p)) (get_or-set_other inside (place class x) (b * 64 + number_in class b p) word 0 d)
                ∙ w.has b p l m (let n : b * 64 + p ≡ x → ⊥ = λ e. d (entered b p m e) in omega arith));
            only = λ b v u l m h.
                by_cases (eqb (b * 64 + v) (place class x))
                (λ t. let e : b * 64 + v ≡ place class x = eqb-true (b * 64 + v) (place class x) t in
                let kx : number_in class (x / 64) (x % 64) < 64 = omega arith in
                let f : b ≡ x / 64 = omega (arith, place_at) in
                let g : v ≡ number_in class (x / 64) (x % 64) = omega (arith, place_at) in
                let o = only-those u (sym (ap (λ (y : ℕ). has_bit y u) stored) ∙ subst (λ (y : ℕ). has_bit (get_or (set inside (place class x) word) y 0) u ≡ true) e h) in
                (o.0, o.1, ap (λ (y : ℕ). number_in class y o.0) f ∙ o.2 ∙ sym g, ap (λ (y : ℕ). part y o.0) f ∙ o.3))
                (λ t. w.only b v u l m
                (sym (ap (λ (y : ℕ). has_bit y u) (get_or-set_other inside (place class x) (b * 64 + v) word 0 (eqb-false (b * 64 + v) (place class x) t))) ∙ h));
          }
        where
          entered : (b p : ℕ) → p < people → b * 64 + p ≡ x → b * 64 + number_in class b p ≡ place class x
          entered b p m e =
              ap (λ (y : ℕ). b * 64 + get_or class y 0 % 64) e ∙ (let z : b * 64 ≡ x - x % 64 = omega arith in ap (λ (y : ℕ). y + get_or class x 0 % 64) z)

-- ---- the two kinds of levels

module _ (people levels : ℕ) (few : people ≤ 64) (deep : levels ≤ most_levels) (class crowd : List ℕ) (g : Gathered people levels class crowd)
    (x : ℕ) (inside : List ℕ) (w : ByNumber people levels class (part_in levels class) x inside) (below : x < levels * 64) (somebody : x % 64 < people) where
  -- at the last level, the people of the class
  pub nest_people : levels * 64 ≤ x + 64 → ByNumber people levels class (part_in levels class) (x + 1) (set inside (place class x) (get_or crowd x 0))
  nest_people last =
      numbered_set people levels few deep class (part_in levels class) x inside w below (get_or crowd x 0) somebody
      (λ p l e. subst (λ (y : ℕ). has_bit (get_or crowd x 0) y ≡ true) (sym (part_last levels class (x / 64) p end))
      (subst (λ (y : ℕ). has_bit (get_or crowd y 0) p ≡ true) at (g.has (x / 64) (x % 64) p (omega arith) somebody l e)))
      (λ u h. let o = g.only (x / 64) (x % 64) u (omega arith) somebody (subst (λ (y : ℕ). has_bit (get_or crowd y 0) u ≡ true) (sym at) h) in
      (u, o.0, o.1, part_last levels class (x / 64) u end))
    where
      end : levels ≤ suc (x / 64)
      end = omega arith

      at : x / 64 * 64 + x % 64 ≡ x
      at = omega arith

  -- above it, the class of the next level
  pub nest_class : (word : ℕ) → x + 64 < levels * 64 → Added (get_or inside (place class x) 0) (get_or class (x + 64) 0 % 64) word
      → ByNumber people levels class (part_in levels class) (x + 1) (set inside (place class x) word)
  nest_class word above joined =
      numbered_take people levels few deep class (part_in levels class) x inside w below (get_or class (x + 64) 0 % 64) word somebody
      (let e : x + 64 ≡ suc (x / 64) * 64 + x % 64 = omega arith in
      ap (λ (y : ℕ). get_or class y 0 % 64) e ∙ sym (part_above levels class (x / 64) (x % 64) (omega arith))) joined
