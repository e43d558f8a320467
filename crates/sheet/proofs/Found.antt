-- What a search says that gives a place or none, and what a refusal that was given or not says of the reading. Assumes nothing.
use mathlib.Core.Bool.{Bool}
use mathlib.Core.List.{List}
use mathlib.Core.Path.{◌≡◌, refl, sym, ◌∙◌, ap, subst}
use Prim.Native.Nat.{ℕ, ◌<◌, ◌≤◌}
use native.Mathlib.Omega.{arith}
use lib.Dec.{ltb}
use borrow.Author.Tests.{lt-ltb, le-ltb, ltb-true, ltb-false}
use Rattle.std.specs.Prelude.{Option, Some, None, Result, Ok, Err}
use Rattle.std.specs.Option.{option_or, unwrap_or}
use Rattle.std.proofs.lemmas.Option.{none-some, same_Some}
use Rattle.bits.proofs.Below.{by_cases}
use Rattle.card.specs.Refusals.{fault_number}
use Rattle.card.specs.declared.refusal.Fault.{Fault}
use Rattle.card.specs.declared.refusal.Refusal.{Refusal}
use Rattle.card.proofs.Numbers.{refusal-back}
use Rattle.sheet.specs.Cards.{place_below}
use Rattle.sheet.specs.Read.{Read, fault, unless}
use Rattle.sheet.specs.Answer.{answer, otherwise}

pub found_place : {count k n : ℕ} → k < count → k ≡ n → Some k ≡ place_below count n
unfolding place_below
found_place {count} {k} {n} l e = subst (λ (x : ℕ). Some k ≡ place_below count x) e (rw (lt-ltb k count l))

pub no_place : {count n : ℕ} → count ≡ n → None ≡ place_below count n
unfolding place_below
no_place {count} {n} e = rw (le-ltb n count (omega arith))

module _ {count n : ℕ} {o : Option ℕ} (is : o ≡ place_below count n) where
  -- a place that was found is the place, and one of them
  pub place_some : {k : ℕ} → o ≡ Some k → (k < count) × (n ≡ k)
  unfolding place_below
  place_some {k} e =
      let d : place_below count n ≡ Some k = sym is ∙ e in
      by_cases (ltb n count)
      (λ t.
      let w : Some n ≡ Some k = rw t at d in
      let x : n ≡ k = same_Some n k w in
      let l : n < count = ltb-true n count t in
      (omega arith, x))
      (λ t. let w : None ≡ Some k = rw t at d in absurd (none-some k w))

  pub place_none : o ≡ None → count ≤ n
  unfolding place_below
  place_none e =
      let d : place_below count n ≡ None = sym is ∙ e in
      by_cases (ltb n count)
      (λ t. let w : Some n ≡ None = rw t at d in absurd (none-some n (sym w)))
      (λ t. ltb-false n count t)

  -- the place, or their number
  pub place_first : n ≤ count → unwrap_or o count ≡ n
  unfolding place_below
  place_first l =
      ap (λ (x : Option ℕ). unwrap_or x count) is
      ∙ by_cases (ltb n count)
      (λ t. rw t)
      (λ t. let m = ltb-false n count t in rw t (omega arith))

-- a place below the one found so far, or else that one
pub place_or : (count n m : ℕ) → n ≤ count → m ≤ n → option_or (place_below n m) (place_below count n) ≡ place_below count m
unfolding place_below
place_or count n m l h =
    by_cases (ltb m n)
    (λ t. let a = ltb-true m n t in rw (t, lt-ltb m count (omega arith)))
    (λ t. let a = ltb-false m n t in let e : m ≡ n = omega arith in rw (t, e))

-- a refusal is the answer to its number and its card
pub refusal : (s : List ℕ) {r : Refusal} {a : Read} → fault (fault_number r.fault) r.card ≡ a → Err r ≡ answer s a
unfolding answer
refusal s {r} e = ap Err (sym (refusal-back r)) ∙ ap (answer s) e

module _ (f : Fault) {c : ℕ} {r : Refusal} (is : r ≡ record { fault = f; card = c }) where
  numbered : fault (fault_number r.fault) r.card ≡ fault (fault_number f) c
  numbered = ap (λ (x : Refusal). fault (fault_number x.fault) x.card) is

  pub refusal_as : (s : List ℕ) {a : Read} → fault (fault_number f) c ≡ a → Err r ≡ answer s a
  refusal_as s e = refusal s (numbered ∙ e)

  -- the refusal of a place that was found
  pub given_some : (count n : ℕ) {k : ℕ} (card : ℕ → ℕ) {o : Option ℕ} → o ≡ place_below count n → o ≡ Some k → c ≡ card k
      → (next : Read) → otherwise (Some r) next ≡ unless (ltb n count) (fault_number f) (card n) next
  given_some count n {k} card w e d next =
      let p = place_some w e in
      let x = p.1 in
      let l : n < count = omega (arith, p.0) in
      numbered ∙ ap (fault (fault_number f)) (d ∙ ap card (sym x)) ∙ sym (ap (λ (b : Bool). unless b (fault_number f) (card n) next) (lt-ltb n count l))

pub given_none : (count n f c : ℕ) {o : Option ℕ} → o ≡ place_below count n → o ≡ None → (next : Read) → next ≡ unless (ltb n count) f c next
given_none count n f c w e next = sym (ap (λ (b : Bool). unless b f c next) (le-ltb n count (place_none w e)))

pub otherwise-or : (a b : Option Refusal) (next : Read) → otherwise (option_or a b) next ≡ otherwise a (otherwise b next)
otherwise-or None b next = refl
otherwise-or (Some r) b next = refl

pub ok_same : {A B : Type 0} {x y : A} → ◌≡◌ {A = Result A B} (Ok x) (Ok y) → x ≡ y
ok_same e = cc

pub err_same : {A B : Type 0} {x y : B} → ◌≡◌ {A = Result A B} (Err x) (Err y) → x ≡ y
err_same e = cc

pub err_ok : {A B : Type 0} {x : B} {y : A} → ◌≡◌ {A = Result A B} (Err x) (Ok y) → ⊥
err_ok e = let z : ◌≡◌ {A = ℕ} 0 1 = cc in absurd (omega arith)
