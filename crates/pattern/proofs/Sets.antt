-- Laws of the sets of steps and people that patterns speak of, and of `Alike`. Assumes nothing.
use mathlib.Core.Bool.{Bool, true, ◌&&◌}
use mathlib.Core.Path.{◌≡◌, sym, ◌∙◌}
use Prim.Native.Nat.{ℕ, ◌<◌}
use lib.Dec.{ltb}
use borrow.Author.Tests.{eqb-true, eq-eqb, ltb-true, lt-ltb}
use Rattle.bits.proofs.Below.{by_cases, true-false, and_left, and_right}
use Rattle.bits.proofs.Counting.{and_of}
use Rattle.workflow.specs.Independent.{Alike}
use Rattle.pattern.specs.Realize.{fibre, groups}

module _ (S : ℕ → Bool) (c : ℕ → ℕ) (v s : ℕ) where
  pub fibre_of : S s ≡ true → c s ≡ v → fibre S c v s ≡ true
  unfolding fibre
  fibre_of h e = and_of (S s) _ h (eq-eqb _ _ e)

  pub fibre_in : fibre S c v s ≡ true → S s ≡ true
  unfolding fibre
  fibre_in h = and_left (S s) _ h

  pub fibre_at : fibre S c v s ≡ true → c s ≡ v
  unfolding fibre
  fibre_at h = eqb-true _ _ (and_right (S s) _ h)

module _ (S : ℕ → Bool) (c : ℕ → ℕ) (g : ℕ) where
  pub groups_of : S g ≡ true → c g ≡ g → groups S c g ≡ true
  unfolding groups
  groups_of h e = and_of (S g) _ h (eq-eqb _ _ e)

  pub groups_in_lem : groups S c g ≡ true → S g ≡ true
  unfolding groups
  groups_in_lem h = and_left (S g) _ h

  pub groups_own : groups S c g ≡ true → c g ≡ g
  unfolding groups
  groups_own h = eqb-true _ _ (and_right (S g) _ h)

-- a part of the scope
pub alike_part : (n : ℕ) (part scope : ℕ → Bool) (c d : ℕ → ℕ) → ((s : ℕ) → s < n → part s ≡ true → scope s ≡ true) → Alike n scope c d → Alike n part c d
alike_part n part scope c d h a =
    record {
      forth = λ s t l m i k e. a.forth s t l m (h s l i) (h t m k) e;
      back = λ s t l m i k e. a.back s t l m (h s l i) (h t m k) e;
    }

pub alike_sym : (n : ℕ) (scope : ℕ → Bool) (c d : ℕ → ℕ) → Alike n scope c d → Alike n scope d c
alike_sym n scope c d a = record { forth = a.back; back = a.forth }

pub alike_trans : (n : ℕ) (scope : ℕ → Bool) (c d e : ℕ → ℕ) → Alike n scope c d → Alike n scope d e → Alike n scope c e
alike_trans n scope c d e a b =
    record {
      forth = λ s t l m i k x. b.forth s t l m i k (a.forth s t l m i k x);
      back = λ s t l m i k x. a.back s t l m i k (b.back s t l m i k x);
    }

-- equal values on the scope
pub alike_cong : (n : ℕ) (scope : ℕ → Bool) (c d : ℕ → ℕ) → ((s : ℕ) → s < n → scope s ≡ true → c s ≡ d s) → Alike n scope c d
alike_cong n scope c d h =
    record {
      forth = λ s t l m i k e. sym (h s l i) ∙ e ∙ h t m k;
      back = λ s t l m i k e. h s l i ∙ e ∙ sym (h t m k);
    }

-- a choice for each member of a set, a being of no account
pub choice : {A : Type 0} (n : ℕ) (S : ℕ → Bool) (P : ℕ → A → Type 0) (a : A) → ((s : ℕ) → s < n → S s ≡ true → (x : A) × P s x)
    → (f : ℕ → A) × ((s : ℕ) → s < n → S s ≡ true → P s (f s))
choice {A} n S P a h = (λ s. (at s).0, λ s. (at s).1)
  where
    at : (s : ℕ) → (x : A) × (s < n → S s ≡ true → P s x)
    at s =
        by_cases (ltb s n && S s)
        (λ t. let w = h s (ltb-true s n (and_left (ltb s n) (S s) t)) (and_right (ltb s n) (S s) t) in (w.0, λ l i. w.1))
        (λ t. (a, λ l i. true-false (and_of (ltb s n) (S s) (lt-ltb s n l) i) t))
