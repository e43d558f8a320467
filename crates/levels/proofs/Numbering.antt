-- The marked levels, numbered one after the other. Assumes nothing.
use mathlib.Core.Bool.{true, false}
use mathlib.Core.List.{List}
use mathlib.Core.Path.{◌≡◌, sym, subst, ◌∙◌}
use Prim.Native.Nat.{ℕ, suc, ◌+◌, ◌≤◌, ◌<◌}
use native.Mathlib.Omega.{arith}
use native.Mathlib.Numerals.{add-one}
use lib.Dec.{eqb}
use lib.ListN.{length, get_or, set, length-set}
use lib.Seq.{get_or-set_same, get_or-set_other}
use borrow.Author.Tests.{eqb-true, eqb-false}
use Rattle.bits.specs.Word.{has_bit}
use Rattle.bits.specs.Set.{Added}
use Rattle.bits.proofs.Below.{by_cases}
use Rattle.bits.proofs.SetLaws.{added_has, added_keeps}
use Rattle.bits.specs.Sizes.{most_levels, level_entries}
use Rattle.pattern.specs.Rule.{level_in}
use Rattle.levels.specs.Trims.{Keeps, Marks, KeptLevels}
use Rattle.levels.proofs.Keeping.{keeps_none, keeps_skip, keeps_take}

pub marks_more : (i all level all' : ℕ) (rule : List ℕ) → level ≡ level_in (get_or rule i 0) → Added all level all' → Marks i rule all → Marks (i + 1) rule all'
marks_more i all level all' rule e a w k l =
    by_cases (eqb k i)
    (λ x. subst (λ (v : ℕ). has_bit all' (level_in (get_or rule v 0)) ≡ true) (sym (eqb-true k i x)) (subst (λ (v : ℕ). has_bit all' v ≡ true) e (added_has a)))
    (λ x. let n : k ≡ i → ⊥ = eqb-false k i x in added_keeps a (level_in (get_or rule k 0)) (w k (omega arith)))

pub numbered_none : (m : ℕ) (old new : List ℕ) → length old ≡ level_entries → length new ≡ level_entries → KeptLevels 0 m 0 old new
numbered_none m old new e f = record { olds = e; news = f; few = omega arith; keeps = keeps_none (has_bit m) _ _ }

module _ {q m n : ℕ} {old new : List ℕ} (w : KeptLevels q m n old new) where
  pub numbered_skip : has_bit m (q + 1) ≡ false → KeptLevels (q + 1) m n old new
  numbered_skip h =
      record {
        olds = w.olds;
        news = w.news;
        few = omega (arith, w.few);
        keeps = subst (λ (k : ℕ). Keeps k n (has_bit m) (λ k. get_or old k 0) (λ k. get_or new k 0)) (sym (add-one q))
            (keeps_skip q n (has_bit m) (λ k. get_or old k 0) (λ k. get_or new k 0) (subst (λ (k : ℕ). has_bit m k ≡ false) (add-one q) h) w.keeps);
      }

  pub numbered_take : q < most_levels → KeptLevels (q + 1) m (n + 1) (set old (n + 1) (q + 1)) (set new (q + 1) (n + 1))
  numbered_take l =
      record {
        olds = length-set old (n + 1) (q + 1) ∙ w.olds;
        news = length-set new (q + 1) (n + 1) ∙ w.news;
        few = omega (arith, w.few);
        keeps = subst (λ (k : ℕ). Keeps k (n + 1) (has_bit m) old' new') (sym (add-one q))
            (subst (λ (k : ℕ). Keeps (suc q) k (has_bit m) old' new') (sym (add-one n))
            (keeps_take q n (has_bit m) (λ k. get_or old k 0) (λ k. get_or new k 0) old' new'
            (λ k b. get_or-set_other old (n + 1) k (q + 1) 0 (λ e. omega arith))
            (subst (λ (k : ℕ). old' k ≡ suc q) (add-one n) (get_or-set_same old (n + 1) (q + 1) 0 (omega (arith, w.olds, w.few)) ∙ add-one q))
            (λ r b. get_or-set_other new (q + 1) r (n + 1) 0 (λ e. omega arith))
            (subst (λ (k : ℕ). new' k ≡ suc n) (add-one q) (get_or-set_same new (q + 1) (n + 1) 0 (omega (arith, w.news)) ∙ add-one n))
            w.keeps));
      }
    where
      old' : ℕ → ℕ
      old' k = get_or (set old (n + 1) (q + 1)) k 0

      new' : ℕ → ℕ
      new' k = get_or (set new (q + 1) (n + 1)) k 0

pub numbered_all : {levels q m n : ℕ} {old new : List ℕ} → KeptLevels q m n old new → q ≤ levels → levels ≤ q → KeptLevels levels m n old new
numbered_all {levels} {q} {m} {n} {old} {new} w a b = let e : q ≡ levels = omega arith in subst (λ (k : ℕ). KeptLevels k m n old new) e w
