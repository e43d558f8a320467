-- The levels that rules name, kept in order: what is known of them, level after level. Assumes nothing.
use mathlib.Core.Bool.{Bool, true, false}
use mathlib.Core.Path.{◌≡◌, sym, subst, ap, ◌∙◌}
use Prim.Native.Nat.{ℕ, suc, ◌≤◌}
use native.Mathlib.Omega.{arith}
use Rattle.bits.proofs.Below.{true-false, below_suc}
use Rattle.levels.specs.Trims.{Keeps}

-- no level is passed
pub keeps_none : (named : ℕ → Bool) (old new : ℕ → ℕ) → Keeps 0 0 named old new
keeps_none named old new =
    record {
      from = λ k a b. absurd (omega arith);
      to = λ k a b. absurd (omega arith);
      ordered = λ k a b. absurd (omega arith);
      back = λ r a b h. absurd (omega arith);
      new_from = λ r a b h. absurd (omega arith);
      new_to = λ r a b h. absurd (omega arith);
    }

module _ (q n : ℕ) (named : ℕ → Bool) (old new : ℕ → ℕ) where
  -- a level that is not named is passed over
  pub keeps_skip : named (suc q) ≡ false → Keeps q n named old new → Keeps (suc q) n named old new
  keeps_skip f w =
      record {
        from = w.from;
        to = λ k a b. omega (arith, w.to k a b);
        ordered = w.ordered;
        back = λ r a b h. passed r b h (λ m. w.back r a m h);
        new_from = λ r a b h. passed r b h (λ m. w.new_from r a m h);
        new_to = λ r a b h. passed r b h (λ m. w.new_to r a m h);
      }
    where
      passed : {P : Type 0} (r : ℕ) → r ≤ suc q → named r ≡ true → (r ≤ q → P) → P
      passed r b h go =
          below_suc (suc q) r (omega arith)
          (λ m. go (omega arith)) (λ e. true-false h (subst (λ (x : ℕ). named x ≡ false) (sym e) f))

  -- a level is kept as the next
  pub keeps_take : (old' new' : ℕ → ℕ) → ((k : ℕ) → k ≤ n → old' k ≡ old k) → old' (suc n) ≡ suc q
      → ((r : ℕ) → r ≤ q → new' r ≡ new r) → new' (suc q) ≡ suc n → Keeps q n named old new → Keeps (suc q) (suc n) named old' new'
  keeps_take old' new' e last f next w =
      record {
        from = λ k a b.
            below_suc (suc n) k (omega arith) (λ m. omega (arith, e k (omega arith), w.from k a (omega arith)))
            (λ x. subst (λ (y : ℕ). 1 ≤ old' y) (sym x) (omega arith));
        to = λ k a b.
            below_suc (suc n) k (omega arith) (λ m. omega (arith, e k (omega arith), w.to k a (omega arith)))
            (λ x. subst (λ (y : ℕ). old' y ≤ suc q) (sym x) (omega arith));
        ordered = λ k a b.
            below_suc n k (omega arith)
            (λ m. omega (arith, e k (omega arith), e (suc k) m, w.ordered k a m))
            (λ x. omega (arith, e k (omega arith), w.to k a (omega arith), last' k x));
        back = λ r a b h.
            below_suc (suc q) r (omega arith)
            (λ m. ap old' (f r (omega arith)) ∙ e (new r) (w.new_to r a (omega arith) h) ∙ w.back r a (omega arith) h)
            (λ x. ap (λ (y : ℕ). old' (new' y)) x ∙ ap old' next ∙ last ∙ sym x);
        new_from = λ r a b h.
            below_suc (suc q) r (omega arith)
            (λ m. omega (arith, f r (omega arith), w.new_from r a (omega arith) h))
            (λ x. subst (λ (y : ℕ). 1 ≤ new' y) (sym x) (omega arith));
        new_to = λ r a b h.
            below_suc (suc q) r (omega arith)
            (λ m. omega (arith, f r (omega arith), w.new_to r a (omega arith) h))
            (λ x. subst (λ (y : ℕ). new' y ≤ suc n) (sym x) (omega arith));
      }
    where
      last' : (k : ℕ) → k ≡ n → old' (suc k) ≡ suc q
      last' k x = ap (λ (y : ℕ). old' (suc y)) x ∙ last
