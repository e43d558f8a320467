-- The sums of some entries and of one more. Assumes nothing.
use mathlib.Core.Bool.{Bool, true, false, cond}
use mathlib.Core.List.{List, [], ◌∷◌, ◌++◌}
use mathlib.Core.Path.{◌≡◌, refl, ◌∙◌, ap, subst}
use Prim.Native.Nat.{ℕ, ◌+◌}
use native.Mathlib.Omega.{arith}
use lib.Dec.{eqb}
use borrow.Author.Tests.{eqb-true, eq-eqb, ne_eqb}
use Rattle.bits.specs.Member.{member}
use Rattle.bits.proofs.Below.{by_cases, true-false}
use Rattle.ledger.specs.Entry.{Entry}
use Rattle.ledger.specs.Sums.{meet, met_after, people_in, sum_of, sum_all}
use Rattle.ledger.proofs.People.{meet_has, met_keeps}

module _ (figure : Entry → ℕ) where
  sum_snoc : (t : ℕ) (es : List Entry) (e : Entry) → sum_of figure t (es ++ e ∷ []) ≡ sum_of figure t es + cond (eqb e.tag t) (figure e) 0
  unfolding sum_of
  sum_snoc t [] e = omega arith
  sum_snoc t (d ∷ es) e = let r = sum_snoc t es e in omega (arith, r)

  -- of the entry's own person
  pub sum_own : (t : ℕ) (es : List Entry) (e : Entry) → e.tag ≡ t → sum_of figure t (es ++ e ∷ []) ≡ sum_of figure t es + figure e
  sum_own t es e q = sum_snoc t es e ∙ ap (λ (b : Bool). sum_of figure t es + cond b (figure e) 0) (eq-eqb e.tag t q)

  -- and of anybody else
  pub sum_other : (t : ℕ) (es : List Entry) (e : Entry) → (e.tag ≡ t → ⊥) → sum_of figure t (es ++ e ∷ []) ≡ sum_of figure t es
  sum_other t es e q =
      let r = sum_snoc t es e ∙ ap (λ (b : Bool). sum_of figure t es + cond b (figure e) 0) (ne_eqb e.tag t q) in omega (arith, r)

  pub all_snoc : (es : List Entry) (e : Entry) → sum_all figure (es ++ e ∷ []) ≡ sum_all figure es + figure e
  unfolding sum_all
  all_snoc [] e = omega arith
  all_snoc (d ∷ es) e = let r = all_snoc es e in omega (arith, r)

  -- who has no entry has no minutes
  sum_stranger : (seen : List ℕ) (es : List Entry) (t : ℕ) → member (met_after seen es) t ≡ false → sum_of figure t es ≡ 0
  unfolding sum_of met_after
  sum_stranger seen [] t h = refl
  sum_stranger seen (e ∷ es) t h =
      by_cases (eqb e.tag t)
      (λ q.
      let same = eqb-true e.tag t q in
      true-false (met_keeps (meet seen e.tag) es t (subst (λ (x : ℕ). member (meet seen e.tag) x ≡ true) same (meet_has seen e.tag))) h)
      (λ q.
      let r = sum_stranger (meet seen e.tag) es t h in
      let z = ap (λ (b : Bool). cond b (figure e) 0) q in
      omega (arith, r, z))

  pub sum_new : (es : List Entry) (t : ℕ) → member (people_in es) t ≡ false → sum_of figure t es ≡ 0
  sum_new es t h = sum_stranger [] es t h
