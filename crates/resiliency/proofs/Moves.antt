-- The spare count depends on who is away leaving a valid plan alone: two jobs that agree on that have the same. Assumes nothing.
use mathlib.Core.Bool.{Bool}
use mathlib.Core.List.{List}
use mathlib.Core.Logic.{◌↔◌}
use Prim.Native.Nat.{ℕ}
use Rattle.bits.specs.Member.{member}
use Rattle.workflow.specs.Problem.{May}
use Rattle.resiliency.specs.Away.{without, ResilientBy, FirstBreakingBy}
use Rattle.resiliency.specs.Count.{LargestBy}

module _ (people : ℕ) (can can' : May → Type 0) (may may' : May) (same : (away : ℕ → Bool) → can (without may away) ↔ can' (without may' away)) where
  pub resilient_moves : (t : ℕ) → ResilientBy people can may t → ResilientBy people can' may' t
  resilient_moves t r away l = (same away).0 (r away l)

  resilient_back : (t : ℕ) → ResilientBy people can' may' t → ResilientBy people can may t
  resilient_back t r away l = (same away).1 (r away l)

  pub largest_moves : (cap t : ℕ) → LargestBy people can may cap t → LargestBy people can' may' cap t
  largest_moves cap t w =
      record { most = w.most; stands = resilient_moves t w.stands; largest = λ u l r. w.largest u l (resilient_back u r) }

  pub breaking_moves : (k : ℕ) (xs : List ℕ) → FirstBreakingBy people can may k xs → FirstBreakingBy people can' may' k xs
  breaking_moves k xs w =
      record {
        group = w.group;
        breaks = λ z. w.breaks ((same (member xs)).1 z);
        after = λ ys g b d. w.after ys g (λ z. b ((same (member ys)).0 z)) d;
      }
