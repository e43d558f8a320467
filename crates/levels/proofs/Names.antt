-- The rules that name each step, gathered rule by rule and step by step. Assumes nothing.
use mathlib.Core.Bool.{true, false}
use mathlib.Core.List.{List}
use mathlib.Core.Path.{◌≡◌, sym, subst, ap, ◌∙◌}
use Prim.Native.Nat.{ℕ, ◌+◌, ◌≤◌, ◌<◌}
use native.Mathlib.Omega.{arith}
use native.Mathlib.Nat.{not-suc-le-zero}
use lib.Dec.{eqb}
use lib.ListN.{length, get_or, set, replicate, length-set, length-replicate, get_or-replicate}
use lib.Seq.{get_or-set_same, get_or-set_other}
use borrow.Author.Tests.{eqb-true, eqb-false}
use Rattle.bits.specs.Word.{has_bit}
use Rattle.bits.specs.Set.{Added, FirstAndRest}
use Rattle.bits.proofs.Below.{by_cases, true-false}
use Rattle.bits.proofs.SetLaws.{zero_empty, added_has, added_keeps, added_other, removed_other}
use Rattle.pattern.specs.Rule.{scope_in}
use Rattle.levels.specs.Tabled.{Naming}
use Rattle.bits.proofs.Masks.{taken_was}

-- the same with rule i begun: the steps of `rest` are still to be given it
pub record Giving (i rest : ℕ) (rule of : List ℕ) : Type 0 where
  pub few : rest < 4096
  pub sized : length of ≡ 12
  pub has : (k s : ℕ) → k < i → s < 12 → has_bit (scope_in (get_or rule k 0)) s ≡ true → has_bit (get_or of s 0) k ≡ true
  pub own : (s : ℕ) → s < 12 → has_bit (scope_in (get_or rule i 0)) s ≡ true → has_bit rest s ≡ false → has_bit (get_or of s 0) i ≡ true
  pub only : (k s : ℕ) → s < 12 → has_bit (get_or of s 0) k ≡ true → (k ≤ i) × (has_bit (scope_in (get_or rule k 0)) s ≡ true)
  pub part : (s : ℕ) → has_bit rest s ≡ true → has_bit (scope_in (get_or rule i 0)) s ≡ true

module _ (rule : List ℕ) where
  pub giving_none : (i : ℕ) (of : List ℕ) → scope_in (get_or rule i 0) < 4096 → Naming i rule of → Giving i (scope_in (get_or rule i 0)) rule of
  giving_none i of small w =
      record {
        few = small;
        sized = w.sized;
        has = w.has;
        own = λ s l h n. true-false h n;
        only = λ k s l h. let o = w.only k s l h in (omega (arith, o.0), o.1);
        part = λ s h. h;
      }

  pub giving_next : (i rest s rest' word : ℕ) (of : List ℕ) → Giving i rest rule of → FirstAndRest rest s rest' → Added (get_or of s 0) i word
      → Giving i rest' rule (set of s word)
  giving_next i rest s rest' word of w t more =
      record {
        few = omega (arith, w.few, t.less);
        sized = length-set of s word ∙ w.sized;
        has = λ k t l m h. keeps k t (w.has k t l m h);
        own = λ t' l h n.
            by_cases (eqb t' s)
            (λ x. subst (λ (y : ℕ). has_bit (get_or (set of s word) y 0) i ≡ true) (sym (eqb-true t' s x)) (ap (λ (y : ℕ). has_bit y i) same ∙ added_has more))
            (λ x. keeps i t' (w.own t' l h (sym (removed_other t.removed t' (eqb-false t' s x)) ∙ n)));
        only = λ k t' l h.
            by_cases (eqb k i)
            (λ x. new k t' l h (eqb-true k i x))
            (λ x. w.only k t' l (sym (other k t' (eqb-false k i x)) ∙ h));
        part = λ t' h. w.part t' (taken_was t t' h);
      }
    where
      same : get_or (set of s word) s 0 ≡ word
      same = get_or-set_same of s word 0 (omega (arith, w.sized, t.below 12 w.few))

      other : (k t : ℕ) → (k ≡ i → ⊥) → has_bit (get_or (set of s word) t 0) k ≡ has_bit (get_or of t 0) k
      other k t d =
          by_cases (eqb t s)
          (λ x. subst (λ (y : ℕ). has_bit (get_or (set of s word) y 0) k ≡ has_bit (get_or of y 0) k) (sym (eqb-true t s x))
          (ap (λ (y : ℕ). has_bit y k) same ∙ added_other more k d))
          (λ x. ap (λ (y : ℕ). has_bit y k) (get_or-set_other of s t word 0 (eqb-false t s x)))

      keeps : (k t : ℕ) → has_bit (get_or of t 0) k ≡ true → has_bit (get_or (set of s word) t 0) k ≡ true
      keeps k t h =
          by_cases (eqb t s)
          (λ x. let e : t ≡ s = eqb-true t s x in
          subst (λ (y : ℕ). has_bit (get_or (set of s word) y 0) k ≡ true) (sym e)
          (ap (λ (y : ℕ). has_bit y k) same ∙ added_keeps more k (subst (λ (y : ℕ). has_bit (get_or of y 0) k ≡ true) e h)))
          (λ x. ap (λ (y : ℕ). has_bit y k) (get_or-set_other of s t word 0 (eqb-false t s x)) ∙ h)

      -- the rule begun is given to the step taken, or stood there before
      new : (k u : ℕ) → u < 12 → has_bit (get_or (set of s word) u 0) k ≡ true → k ≡ i → (k ≤ i) × (has_bit (scope_in (get_or rule k 0)) u ≡ true)
      new k u l h e =
          by_cases (eqb u s)
          (λ x. (
            omega arith,
            subst (λ (y : ℕ). has_bit (scope_in (get_or rule y 0)) u ≡ true) (sym e)
                (subst (λ (y : ℕ). has_bit (scope_in (get_or rule i 0)) y ≡ true) (sym (eqb-true u s x)) (w.part s t.lowest.has)),
          ))
          (λ x. w.only k u l (sym (ap (λ (y : ℕ). has_bit y k) (get_or-set_other of s u word 0 (eqb-false u s x))) ∙ h))

  pub naming_next : (i rest : ℕ) (of : List ℕ) → Giving i rest rule of → rest ≡ 0 → Naming (i + 1) rule of
  naming_next i rest of w e =
      record {
        sized = w.sized;
        has = λ k s l m h.
            by_cases (eqb k i)
            (λ x. let q : k ≡ i = eqb-true k i x in
            subst (λ (y : ℕ). has_bit (get_or of s 0) y ≡ true) (sym q)
            (w.own s m (subst (λ (y : ℕ). has_bit (scope_in (get_or rule y 0)) s ≡ true) q h) (zero_empty rest e s)))
            (λ x. let d : k ≡ i → ⊥ = eqb-false k i x in w.has k s (omega arith) m h);
        only = λ k s l h. let o = w.only k s l h in (omega (arith, o.0), o.1);
      }

  pub naming_all : (n i : ℕ) (of : List ℕ) → i ≤ n → n ≤ i → Naming i rule of → Naming n rule of
  naming_all n i of l m w = let e : i ≡ n = omega arith in subst (λ (x : ℕ). Naming x rule of) e w
