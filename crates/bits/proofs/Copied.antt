-- Entries copied into an array, one after the other. Assumes nothing.
use mathlib.Core.List.{List}
use mathlib.Core.Path.{◌≡◌, sym, subst, ◌∙◌}
use Prim.Native.Nat.{ℕ, ◌+◌, ◌<◌, ◌≤◌}
use native.Mathlib.Omega.{arith}
use native.Mathlib.Nat.{not-suc-le-zero}
use lib.Dec.{eqb}
use lib.ListN.{length, get_or, set, length-set}
use lib.Seq.{get_or-set_same, get_or-set_other, ext_get_or}
use borrow.Author.Tests.{eqb-true, eqb-false}
use Rattle.bits.proofs.Below.{by_cases}

-- the first n entries are those that f gives
pub record Copied (size n : ℕ) (f : ℕ → ℕ) (xs : List ℕ) : Type 0 where
  pub sized : length xs ≡ size
  pub each : (i : ℕ) → i < n → get_or xs i 0 ≡ f i

pub copied_more : (size n : ℕ) (f : ℕ → ℕ) (xs : List ℕ) → n < size → Copied size n f xs → Copied size (n + 1) f (set xs n (f n))
copied_more size n f xs l w =
    record {
      sized = length-set xs n (f n) ∙ w.sized;
      each = λ i b.
          by_cases (eqb i n)
          (λ x. subst (λ (k : ℕ). get_or (set xs n (f n)) k 0 ≡ f k) (sym (eqb-true i n x)) (get_or-set_same xs n (f n) 0 (omega (arith, w.sized))))
          (λ x. let d : i ≡ n → ⊥ = eqb-false i n x in get_or-set_other xs n i (f n) 0 d ∙ w.each i (omega arith));
    }
