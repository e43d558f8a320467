-- Over a scope the classes of a level are at most as many as those of a finer one, and one of them holds as many steps. Assumes nothing.
use mathlib.Core.Bool.{Bool}
use Prim.Native.Nat.{ℕ, ◌≤◌, ◌<◌}
use Rattle.bits.specs.Below.{count}
use Rattle.bits.proofs.Counting.{count_at}
use Rattle.workflow.specs.Problem.{Plan, distinct, largest_load}
use Rattle.workflow.proofs.Counts.{distinct_finer, distinct_some}
use Rattle.workflow.proofs.Loads.{load_finer}
use Rattle.relax.specs.Bound.{Nests}

-- a plan has a class over a scope that has a step
pub some_class : (n : ℕ) (scope : ℕ → Bool) (c : ℕ → ℕ) → 1 ≤ count n scope → 1 ≤ distinct n scope c
some_class n scope c l = let w = count_at n scope l in distinct_some n scope c w.0 w.1 w.2

-- a coarser level has no more classes
pub coarser : (steps people : ℕ) (scope : ℕ → Bool) (coarse fine : ℕ → ℕ) → Nests people coarse fine → (π : Plan)
    → ((s : ℕ) → s < steps → π s < people)
    → distinct steps scope (λ s. coarse (π s)) ≤ distinct steps scope (λ s. fine (π s))
coarser steps people scope coarse fine n π within =
    distinct_finer steps scope _ _ (λ s t a b i k e. n.up (π s) (π t) (within s a) (within t b) e)

-- a finer level has no larger load
pub lighter : (steps people : ℕ) (scope : ℕ → Bool) (coarse fine : ℕ → ℕ) → Nests people coarse fine → (π : Plan)
    → ((s : ℕ) → s < steps → π s < people)
    → largest_load steps scope (λ s. fine (π s)) ≤ largest_load steps scope (λ s. coarse (π s))
lighter steps people scope coarse fine n π within =
    load_finer steps scope scope _ _ (λ s l i. i) (λ s t a b i k e. n.up (π s) (π t) (within s a) (within t b) e)
