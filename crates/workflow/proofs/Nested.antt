-- Nested levels: what holds at a finer level holds at a coarser one. Assumes nothing.
use mathlib.Core.Bool.{Bool}
use mathlib.Core.Path.{◌≡◌, subst, sym}
use Prim.Native.Nat.{ℕ, zero, suc, ◌≤◌, ◌<◌}
use native.Mathlib.Omega.{arith}
use Rattle.bits.proofs.Below.{below_suc}
use Rattle.workflow.specs.Problem.{Job, Plan, Nested, distinct, OfPeople}
use Rattle.workflow.specs.Independent.{classes_of}
use Rattle.workflow.proofs.Counts.{distinct_finer}

-- the classes of a level refine those of every level above: "𝒫ᵢ is a refinement of 𝒫ⱼ for all i > j"
pub refines : (j : Job) → Nested j → (q q' : ℕ) → 1 ≤ q → q ≤ q' → q' ≤ j.levels → (p p' : ℕ) → p < j.people → p' < j.people
    → j.class q' p ≡ j.class q' p' → j.class q p ≡ j.class q p'
refines j nested q zero a b c p p' l l' e = absurd (omega arith)
refines j nested q (suc m) a b c p p' l l' e =
    below_suc (suc m) q (omega arith)
    (λ d. refines j nested q m a (omega arith) (omega arith) p p' l l' (nested.finer m p p' (omega arith) c l l' e))
    (λ d. subst (λ (x : ℕ). j.class x p ≡ j.class x p') (sym d) e)

-- Proposition 2.3 of document 004: steps that share a class of a level share one of every level above
pub proposition_2_3 : (j : Job) → Nested j → (q q' : ℕ) → 1 ≤ q → q ≤ q' → q' ≤ j.levels → (π : Plan) (s t : ℕ) → π s < j.people → π t < j.people
    → classes_of j q' π s ≡ classes_of j q' π t → classes_of j q π s ≡ classes_of j q π t
proposition_2_3 j nested q q' a b c π s t l m e = refines j nested q q' a b c (π s) (π t) l m e

-- a count at a coarser level is at most the count at a finer one
pub coarser_count : (j : Job) → Nested j → (q q' : ℕ) → 1 ≤ q → q ≤ q' → q' ≤ j.levels → (π : Plan) → OfPeople j π
    → (scope : ℕ → Bool) → distinct j.steps scope (classes_of j q π) ≤ distinct j.steps scope (classes_of j q' π)
coarser_count j nested q q' a b c π w scope =
    distinct_finer j.steps scope (classes_of j q π) (classes_of j q' π)
    (λ s t l m i k e. proposition_2_3 j nested q q' a b c π s t (w s l) (w t m) e)
