-- The laws of a class given to one group, or taken from it. Assumes nothing.
use mathlib.Core.Bool.{true, false}
use mathlib.Core.Path.{◌≡◌, refl, sym, ◌∙◌, subst}
use mathlib.Core.List.{List, [], ◌∷◌}
use Rattle.std.specs.Prelude.{Option, Some, None, MatchOption}
use Rattle.std.specs.List.{AllWithin, HoldsAt}
use Prim.Native.Nat.{ℕ, zero, suc, ◌≤◌, ◌<◌}
use native.Mathlib.Omega.{arith}
use native.Mathlib.Nat.{not-suc-le-zero}
use lib.Dec.{eqb, ltb}
use lib.ListN.{length, get_or, set, length-set, get_or-eq_default}
use lib.Seq.{get_or-set_same, get_or-set_other}
use borrow.Author.Tests.{eqb-true, eqb-false, ltb-true, ltb-false}
use Rattle.bits.specs.Word.{has_bit}
use Rattle.bits.specs.Set.{Removed}
use Rattle.bits.proofs.Below.{by_cases, true-false}
use Rattle.bits.proofs.SetLaws.{removed_lacks, removed_was}
use Rattle.matching.specs.Assignment.{suits, class_at}
use Rattle.matching.specs.State.{Placed, Held, Holder, Unserved, Grown}

pub equal_or_not : {P : Type 0} (a b : ℕ) → (a ≡ b → P) → ((a ≡ b → ⊥) → P) → P
equal_or_not a b p q = by_cases (eqb a b) (λ t. p (eqb-true a b t)) (λ t. q (eqb-false a b t))

-- ---- the holder of a class

-- the first place that has the class, by the library's search
pub holder_by_place : (at : List ℕ) (c : ℕ) (r : Option ℕ) → length at ≡ 12
    → MatchOption r (AllWithin (λ d. d ≡ c → ⊥) at 0 (length at)) (λ h. (h < length at) × HoldsAt (λ d. d ≡ c) at h × AllWithin (λ d. d ≡ c → ⊥) at 0 h)
    → Holder at c r
holder_by_place at c None s f = λ k l e. f k 64 (omega arith) (omega arith) e
holder_by_place at c (Some h) s f = (omega (arith, f.0), f.1 64)

-- ---- a class given to one group, or taken from it

-- only the 12 groups have classes
placed_below : (at : List ℕ) (k : ℕ) → length at ≡ 12 → Placed at k → k < 12
placed_below at k s p =
    by_cases (ltb k 12) (λ t. ltb-true k 12 t)
    (λ t. let l : 12 ≤ k = ltb-false k 12 t in
    let m : length at ≤ k = omega arith in
    let e : class_at at k ≡ 64 = get_or-eq_default at 64 m in absurd (omega arith))

pub class_same : (at : List ℕ) (g c : ℕ) → length at ≡ 12 → g < 12 → class_at (set at g c) g ≡ c
class_same at g c s l = let m : g < length at = omega arith in get_or-set_same at g c 64 m

pub class_other : (at : List ℕ) (g c k : ℕ) → (k ≡ g → ⊥) → class_at (set at g c) k ≡ class_at at k
class_other at g c k n = get_or-set_other at g k c 64 n

-- a class of g's that nobody has and that is not free any more
pub given : {edges at : List ℕ} {free g c : ℕ} → g < 12 → c < 64 → Held edges at free → suits edges g c ≡ true
    → ((k : ℕ) → (k ≡ g → ⊥) → class_at at k ≡ c → ⊥) → has_bit free c ≡ false → Held edges (set at g c) free
given {edges} {at} {free} {g} {c} b l held suit nobody gone = record {
  sized = length-set at g c ∙ held.sized;
  most = λ k. equal_or_not k g
      (λ e. let q : class_at (set at g c) k ≡ c = here k e in omega arith)
      (λ n. let q : class_at (set at g c) k ≡ class_at at k = class_other at g c k n in let m : class_at at k ≤ 64 = held.most k in omega arith);
  along = λ k p. equal_or_not k g
      (λ e. subst (λ (x : ℕ). suits edges k x ≡ true) (sym (here k e)) (subst (λ (x : ℕ). suits edges x c ≡ true) (sym e) suit))
      (λ n. subst (λ (x : ℕ). suits edges k x ≡ true) (sym (class_other at g c k n)) (held.along k (was k n p)));
  apart = λ k m p e. equal_or_not k g
      (λ u. equal_or_not m g (λ v. u ∙ sym v) (λ n. absurd (nobody m n (sym (class_other at g c m n) ∙ sym e ∙ here k u))))
      (λ n. equal_or_not m g (λ v. absurd (nobody k n (sym (class_other at g c k n) ∙ e ∙ here m v)))
      (λ o. held.apart k m (was k n p) (sym (class_other at g c k n) ∙ e ∙ class_other at g c m o)));
  taken = λ k p. equal_or_not k g
      (λ e. subst (λ (x : ℕ). has_bit free x ≡ false) (sym (here k e)) gone)
      (λ n. subst (λ (x : ℕ). has_bit free x ≡ false) (sym (class_other at g c k n)) (held.taken k (was k n p)));
}
  where
    here : (k : ℕ) → k ≡ g → class_at (set at g c) k ≡ c
    here k e = subst (λ (x : ℕ). class_at (set at g c) x ≡ c) (sym e) (class_same at g c held.sized b)

    was : (k : ℕ) → (k ≡ g → ⊥) → Placed (set at g c) k → Placed at k
    was k n p = let q : class_at (set at g c) k ≡ class_at at k = class_other at g c k n in omega arith

-- a class taken from its holder
pub dropped : {edges at : List ℕ} {free h : ℕ} → h < 12 → Held edges at free → Held edges (set at h 64) free
dropped {edges} {at} {free} {h} b held = record {
  sized = length-set at h 64 ∙ held.sized;
  most = λ k. equal_or_not k h
      (λ e. let q : class_at (set at h 64) k ≡ 64 = here k e in omega arith)
      (λ n. let q : class_at (set at h 64) k ≡ class_at at k = class_other at h 64 k n in let m : class_at at k ≤ 64 = held.most k in omega arith);
  along = λ k p. subst (λ (x : ℕ). suits edges k x ≡ true) (sym (class_other at h 64 k (other k p))) (held.along k (was k p));
  apart = λ k m p e. equal_or_not m h
      (λ v. let q : class_at (set at h 64) m ≡ 64 = here m v in absurd (omega arith))
      (λ n. held.apart k m (was k p) (sym (class_other at h 64 k (other k p)) ∙ e ∙ class_other at h 64 m n));
  taken = λ k p. subst (λ (x : ℕ). has_bit free x ≡ false) (sym (class_other at h 64 k (other k p))) (held.taken k (was k p));
}
  where
    here : (k : ℕ) → k ≡ h → class_at (set at h 64) k ≡ 64
    here k e = subst (λ (x : ℕ). class_at (set at h 64) x ≡ 64) (sym e) (class_same at h 64 held.sized b)

    other : (k : ℕ) → Placed (set at h 64) k → k ≡ h → ⊥
    other k p e = let q : class_at (set at h 64) k ≡ 64 = here k e in omega arith

    was : (k : ℕ) → Placed (set at h 64) k → Placed at k
    was k p = let q : class_at (set at h 64) k ≡ class_at at k = class_other at h 64 k (other k p) in omega arith

-- ---- group g gets a class that nobody has

grown : {edges at : List ℕ} {free free' g c : ℕ} → Unserved edges at free g → c < 64 → Held edges (set at g c) free' → Grown edges at (set at g c) free' g
grown {edges} {at} {free} {free'} {g} {c} r l held = record {
  held = held;
  placed = let q : class_at (set at g c) g ≡ c = class_same at g c r.held.sized r.below in omega arith;
  kept = λ k p. let n : k ≡ g → ⊥ = λ e. idle k p e in
      let q : class_at (set at g c) k ≡ class_at at k = class_other at g c k n in omega arith;
  only = λ k p n. let q : class_at (set at g c) k ≡ class_at at k = class_other at g c k n in omega arith;
}
  where
    idle : (k : ℕ) → Placed at k → k ≡ g → ⊥
    idle k p e = let q : class_at at k ≡ 64 = subst (λ (x : ℕ). class_at at x ≡ 64) (sym e) r.idle in omega arith

pub lacks_part : (a b c : ℕ) → ((j : ℕ) → has_bit a j ≡ true → has_bit b j ≡ true) → has_bit b c ≡ false → has_bit a c ≡ false
lacks_part a b c h f = by_cases (has_bit a c) (λ t. true-false (h c t) f) (λ t. t)

pub grown_free : {edges at : List ℕ} {free free' g c : ℕ} → Unserved edges at free g → c < 64 → suits edges g c ≡ true → has_bit free c ≡ true
    → Removed free c free' → Grown edges at (set at g c) free' g
grown_free {edges} {at} {free} {free'} {g} {c} r l suit has gone =
    grown r l
    (given r.below l less suit (λ k n e. nobody k e) (removed_lacks gone))
  where
    less : Held edges at free'
    less = record {
      sized = r.held.sized;
      most = r.held.most;
      along = r.held.along;
      apart = r.held.apart;
      taken = λ k p. lacks_part free' free (class_at at k) (removed_was gone) (r.held.taken k p);
    }

    nobody : (k : ℕ) → class_at at k ≡ c → ⊥
    nobody k e = true-false (subst (λ (x : ℕ). has_bit free x ≡ true) (sym e) has) (r.held.taken k (omega arith))

pub grown_unheld : {edges at : List ℕ} {free g c : ℕ} → Unserved edges at free g → c < 64 → suits edges g c ≡ true → has_bit free c ≡ false
    → Holder at c None → Grown edges at (set at g c) free g
grown_unheld {edges} {at} {free} {g} {c} r l suit gone holder =
    grown r l
    (given r.below l r.held suit (λ k n e. nobody k e) gone)
  where
    nobody : (k : ℕ) → class_at at k ≡ c → ⊥
    nobody k e = holder k (placed_below at k r.held.sized (omega arith)) e
