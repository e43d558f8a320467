-- What holds from each level to the one above holds from every level to every one above it. Assumes nothing.
use mathlib.Core.Bool.{Bool, true}
use mathlib.Core.Path.{◌≡◌, sym, subst}
use Prim.Native.Nat.{ℕ, zero, suc, ◌≤◌, ◌<◌}
use native.Mathlib.Omega.{arith}
use Rattle.bits.proofs.Below.{below_suc}
use Rattle.workflow.specs.Problem.{Job}
use Rattle.pattern.specs.Pattern.{Label, Refining, Consistent}

-- from level q' up to level q, one level at a time
pub upwards : (levels : ℕ) (P : ℕ → Type 0) → ((q : ℕ) → 1 ≤ q → q < levels → P (suc q) → P q)
    → (q q' : ℕ) → 1 ≤ q → q ≤ q' → q' ≤ levels → P q' → P q
upwards levels P step q zero a b c h = absurd (omega arith)
upwards levels P step q (suc m) a b c h =
    below_suc (suc m) q (omega arith)
    (λ d. upwards levels P step q m a (omega arith) (omega arith) (step m (omega arith) c h))
    (λ d. subst P (sym d) h)

-- people who share a class share one at every level above
pub refining_up : (j : Job) → Refining j → (q q' : ℕ) → 1 ≤ q → q ≤ q' → q' ≤ j.levels → (p p' : ℕ) → p < j.people → p' < j.people
    → j.class q' p ≡ j.class q' p' → j.class q p ≡ j.class q p'
refining_up j f q q' a b c p p' l l' e =
    upwards j.levels (λ (r : ℕ). j.class r p ≡ j.class r p') (λ r m n h. f.finer r p p' m n l l' h) q q' a b c e

-- steps that share a label share one at every level above
pub consistent_up : (steps levels : ℕ) (S : ℕ → Bool) (label : Label) → Consistent steps levels S label
    → (q q' : ℕ) → 1 ≤ q → q ≤ q' → q' ≤ levels → (s t : ℕ) → s < steps → t < steps → S s ≡ true → S t ≡ true
    → label q' s ≡ label q' t → label q s ≡ label q t
consistent_up steps levels S label f q q' a b c s t l l' h h' e =
    upwards levels (λ (r : ℕ). label r s ≡ label r t) (λ r m n i. f.finer r s t m n l l' h h' i) q q' a b c e
