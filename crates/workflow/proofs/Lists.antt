-- Plans as lists: reading a plan from a list, and one person more. Assumes nothing.
use mathlib.Core.List.{List, [], ◌∷◌, ◌++◌}
use mathlib.Core.Path.{◌≡◌, refl, sym, subst, ◌∙◌}
use Prim.Native.Nat.{ℕ, zero, suc, ◌<◌, ◌+◌}
use native.Mathlib.Omega.{arith}
use native.Mathlib.Nat.{not-suc-le-zero}
use lib.ListN.{length, length-append, get_or-append}
use lib.Seq.{get_or-append-add, ext_get_or}
use Rattle.bits.proofs.Below.{below_suc}
use Rattle.workflow.specs.Problem.{Plan, Agree}
use Rattle.workflow.specs.First.{plan_of, list_of}

pub length-snoc : (xs : List ℕ) (p : ℕ) → length (xs ++ (p ∷ [])) ≡ suc (length xs)
length-snoc xs p = length-append xs (p ∷ []) ∙ omega arith

-- the list with one person more has the people that it had
pub snoc_before : (xs : List ℕ) (p s : ℕ) → s < length xs → plan_of (xs ++ (p ∷ [])) s ≡ plan_of xs s
snoc_before xs p s l = get_or-append xs (p ∷ []) 0 s l

-- and that person at the end
pub snoc_at : (xs : List ℕ) (p : ℕ) → plan_of (xs ++ (p ∷ [])) (length xs) ≡ p
snoc_at xs p =
    let e : length xs + 0 ≡ length xs = omega arith in
    subst (λ (k : ℕ). plan_of (xs ++ (p ∷ [])) k ≡ p) e (get_or-append-add xs (p ∷ []) 0 0)

pub length-list_of : (n : ℕ) (π : Plan) → length (list_of n π) ≡ n
unfolding list_of
length-list_of zero π = refl
length-list_of (suc n) π = length-snoc (list_of n π) (π n) ∙ rw (length-list_of n π) refl

-- the list of a plan gives the plan
pub plan_of-list_of : (n : ℕ) (π : Plan) → Agree n (plan_of (list_of n π)) π
unfolding list_of
plan_of-list_of zero π s l = absurd (not-suc-le-zero l)
plan_of-list_of (suc n) π s l =
    let e : length (list_of n π) ≡ n = length-list_of n π in
    below_suc n s l
    (λ m. snoc_before (list_of n π) (π n) s (omega arith) ∙ plan_of-list_of n π s m)
    (λ d. let z : s ≡ length (list_of n π) = omega arith in
    rw z (snoc_at (list_of n π) (π n) ∙ rw (sym z ∙ d) refl))

-- lists of one length that give the same plan are equal
pub plan_of_unique : (n : ℕ) (xs ys : List ℕ) → length xs ≡ n → length ys ≡ n → Agree n (plan_of xs) (plan_of ys) → xs ≡ ys
plan_of_unique n xs ys e f a = ext_get_or 0 xs ys (e ∙ sym f) (λ s l. a s (subst (λ (k : ℕ). s < k) e l))
