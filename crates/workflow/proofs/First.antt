-- The plan that `first_plan` gives is valid and no earlier one is; it gives nothing exactly when no plan is valid; and no other answer
-- is such. Assumes nothing.
use mathlib.Core.Bool.{Bool, true, cond}
use mathlib.Core.List.{List, [], ◌∷◌, ◌++◌}
use mathlib.Core.Logic.{◌⊎◌, inl, inr}
use mathlib.Core.Path.{◌≡◌, refl, sym, subst, ap, ◌∙◌}
use Prim.Native.Nat.{ℕ, zero, suc, ◌≤◌, ◌<◌, ◌+◌}
use native.Mathlib.Omega.{arith}
use native.Mathlib.Nat.{not-suc-le-zero}
use lib.ListN.{length}
use Rattle.bits.proofs.Below.{by_cases, true-false, below_suc}
use Rattle.workflow.specs.Problem.{Job, May, Plan, Agree, Valid, valid, Satisfiable}
use Rattle.workflow.specs.First.{Found, found, nothing, plan_of, list_of, first_of, try_all, first_plan, Earlier, FirstValid, IsFirst}
use Rattle.workflow.proofs.Valid.{valid_sound, valid_complete, valid_agree}
use Rattle.workflow.proofs.Order.{earlier_agree, earlier_agree_second, earlier_next, compare_plans}
use Rattle.workflow.proofs.Lists.{length-snoc, snoc_before, snoc_at, length-list_of, plan_of-list_of, plan_of_unique}

-- an answer by cases, with the equation kept
pub found_cases : {P : Type 0} (r : Found) → ((xs : List ℕ) → r ≡ found xs → P) → (r ≡ nothing → P) → P
found_cases (found xs) f g = f xs refl
found_cases nothing f g = g refl

pub found_nothing : {P : Type 0} {r : Found} {xs : List ℕ} → r ≡ found xs → r ≡ nothing → P
found_nothing p q = let z : ◌≡◌ {A = ℕ} 0 1 = cc in absurd (omega arith)

-- where `first_of` finds, it is at the lowest number at which f does
record Hit (n : ℕ) (f : ℕ → Found) (xs : List ℕ) : Type 0 where
  at : ℕ
  below : at < n
  here : f at ≡ found xs
  before : (k : ℕ) → k < at → f k ≡ nothing

first_of_nothing : (n : ℕ) (f : ℕ → Found) → first_of n f ≡ nothing → (k : ℕ) → k < n → f k ≡ nothing
unfolding first_of
first_of_nothing zero f h k l = absurd (not-suc-le-zero l)
first_of_nothing (suc n) f h k l =
    found_cases (first_of n f)
    (λ xs e. found_nothing refl (rw e at h))
    (λ e. below_suc n k l (λ m. first_of_nothing n f e k m) (λ d. rw d (rw e at h)))

first_of_found : (n : ℕ) (f : ℕ → Found) (xs : List ℕ) → first_of n f ≡ found xs → Hit n f xs
unfolding first_of
first_of_found zero f xs h = found_nothing h refl
first_of_found (suc n) f xs h =
    found_cases (first_of n f)
    (λ ys e. let w : Hit n f xs = first_of_found n f xs (e ∙ (rw e at h)) in
    record { at = w.at; below = omega (arith, w.below); here = w.here; before = w.before })
    (λ e. record { at = n; below = omega arith; here = rw e at h; before = first_of_nothing n f e })

-- a list for n steps that goes on from xs, names people only, and passes the test
pub record Candidate (ok : List ℕ → Bool) (people n : ℕ) (xs ys : List ℕ) : Type 0 where
  pub size : length ys ≡ n
  pub within : (s : ℕ) → s < n → plan_of ys s < people
  pub extends : Agree (length xs) (plan_of ys) (plan_of xs)
  pub passes : ok ys ≡ true

-- the first candidate, or that there is none
abbrev pub Answer : (List ℕ → Bool) → ℕ → ℕ → List ℕ → Found → Type 0
Answer ok people n xs (found ys) = Candidate ok people n xs ys × ((zs : List ℕ) → Candidate ok people n xs zs → Earlier n (plan_of zs) (plan_of ys) → ⊥)
Answer ok people n xs nothing = (zs : List ℕ) → Candidate ok people n xs zs → ⊥

module _ (ok : List ℕ → Bool) (people n : ℕ) (xs : List ℕ) where
  -- no person is left to choose
  answer_end : length xs ≡ n → ((s : ℕ) → s < n → plan_of xs s < people) → Answer ok people n xs (cond (ok xs) (found xs) nothing)
  answer_end e w =
      by_cases (ok xs)
      (λ t. rw t
      ((
        record { size = e; within = w; extends = λ s l. refl; passes = t },
        λ zs c d.
            let b : d.at < length xs = omega (arith, d.below) in
            let same : plan_of zs d.at ≡ plan_of xs d.at = c.extends d.at b in
            omega (arith, d.less),
      )))
      (λ t. rw t
      (λ zs c.
      let same : zs ≡ xs = plan_of_unique n zs xs c.size e (λ s l. c.extends s (omega arith)) in
      true-false (rw same at c.passes) t))

  -- a candidate that has p next goes on from xs and p, and back
  narrow : (p : ℕ) (zs : List ℕ) → Candidate ok people n xs zs → plan_of zs (length xs) ≡ p → Candidate ok people n (xs ++ (p ∷ [])) zs
  narrow p zs c e =
      record {
        size = c.size;
        within = c.within;
        extends = λ s l. below_suc (length xs) s (subst (λ (k : ℕ). s < k) (length-snoc xs p) l)
            (λ m. c.extends s m ∙ sym (snoc_before xs p s m))
            (λ d. rw d (e ∙ sym (snoc_at xs p)));
        passes = c.passes;
      }

  widen : (p : ℕ) (zs : List ℕ) → Candidate ok people n (xs ++ (p ∷ [])) zs → Candidate ok people n xs zs
  widen p zs c =
      record {
        size = c.size;
        within = c.within;
        extends = λ s l. c.extends s (omega (arith, length-snoc xs p)) ∙ snoc_before xs p s l;
        passes = c.passes;
      }

  next_is : (p : ℕ) (zs : List ℕ) → Candidate ok people n (xs ++ (p ∷ [])) zs → plan_of zs (length xs) ≡ p
  next_is p zs c = c.extends (length xs) (omega (arith, length-snoc xs p)) ∙ snoc_at xs p

  -- the people are tried from the first: f is what is found with each
  answer-step : length xs < n → (f : ℕ → Found) → ((p : ℕ) → p < people → Answer ok people n (xs ++ (p ∷ [])) (f p)) → Answer ok people n xs (first_of people f)
  answer-step l f each =
      found_cases (first_of people f)
      (λ ys e. rw e (hit ys (first_of_found people f ys e)))
      (λ e. rw e (λ zs c.
      let q : ℕ = plan_of zs (length xs) in
      let b : q < people = c.within (length xs) l in
      missed q b (first_of_nothing people f e q b) zs c refl))
    where
      missed : (q : ℕ) → q < people → f q ≡ nothing → (zs : List ℕ) → Candidate ok people n xs zs → plan_of zs (length xs) ≡ q → ⊥
      missed q b e zs c d = subst (λ (r : Found). Answer ok people n (xs ++ (q ∷ [])) r) e (each q b) zs (narrow q zs c d)

      hit : (ys : List ℕ) → Hit people f ys → Answer ok people n xs (found ys)
      hit ys w =
          let p : ℕ = w.at in
          let a : Answer ok people n (xs ++ (p ∷ [])) (found ys) = subst (λ (r : Found). Answer ok people n (xs ++ (p ∷ [])) r) w.here (each p w.below) in
          let is : plan_of ys (length xs) ≡ p = next_is p ys a.0 in (
            widen p ys a.0,
            λ zs c d.
                let m : plan_of zs (length xs) ≤ plan_of ys (length xs) = earlier_next n (length xs) (plan_of zs) (plan_of ys) d (λ s b. c.extends s b ∙ sym ((widen p ys a.0).extends s b)) in
                below_suc p (plan_of zs (length xs)) (omega arith)
                (λ b. missed _ (c.within (length xs) l) (w.before _ b) zs c refl)
                (λ e. a.1 zs (narrow p zs c e) d),
          )

-- what trying all people at each step left gives
pub try_all-answer : (ok : List ℕ → Bool) (people n left : ℕ) (xs : List ℕ) → length xs + left ≡ n
    → ((s : ℕ) → s < length xs → plan_of xs s < people) → Answer ok people n xs (try_all ok people left xs)
unfolding try_all
try_all-answer ok people n zero xs e w =
    let z : length xs ≡ n = omega arith in
    answer_end ok people n xs z (λ s l. w s (omega arith))
try_all-answer ok people n (suc left) xs e w =
    answer-step ok people n xs (omega arith) (λ p. try_all ok people left (xs ++ (p ∷ [])))
    (λ p b. try_all-answer ok people n left (xs ++ (p ∷ []))
    (let z : length (xs ++ (p ∷ [])) ≡ suc (length xs) = length-snoc xs p in omega arith)
    (λ s l. below_suc (length xs) s (subst (λ (k : ℕ). s < k) (length-snoc xs p) l)
    (λ m. rw (snoc_before xs p s m) (w s m))
    (λ d. rw (d, snoc_at xs p) b)))

module _ (j : Job) (may : May) where
  -- a valid plan's list is a candidate
  candidate : (σ : Plan) → Valid j may σ → Candidate (λ xs. valid j may (plan_of xs)) j.people j.steps [] (list_of j.steps σ)
  candidate σ v =
      let a = plan_of-list_of j.steps σ in
      record {
        size = length-list_of j.steps σ;
        within = λ s l. rw (a s l) (v.within s l);
        extends = λ s l. absurd (not-suc-le-zero l);
        passes = valid_complete j may _ (valid_agree j may σ _ (λ s l. sym (a s l)) v);
      }

  -- `first_plan` gives the first valid plan, or nothing where no plan is valid
  pub first_plan_is_first : IsFirst j may (first_plan j may)
  unfolding first_plan
  first_plan_is_first =
      translate (try_all (λ xs. valid j may (plan_of xs)) j.people j.steps [])
      (try_all-answer (λ xs. valid j may (plan_of xs)) j.people j.steps j.steps [] (omega arith) (λ s l. absurd (not-suc-le-zero l)))
    where
      translate : (r : Found) → Answer (λ xs. valid j may (plan_of xs)) j.people j.steps [] r → IsFirst j may r
      translate (found ys) a = (
        a.0.size,
        record {
          valid = valid_sound j may (plan_of ys) a.0.passes;
          first = λ σ v e.
              a.1 (list_of j.steps σ) (candidate σ v)
              (earlier_agree j.steps σ (plan_of (list_of j.steps σ)) (plan_of ys)
              (λ s l. sym (plan_of-list_of j.steps σ s l)) e);
        },
      )
      translate nothing a = λ σ v. a (list_of j.steps σ) (candidate σ v)

  -- only one answer is the first plan
  pub is_first_unique : (r q : Found) → IsFirst j may r → IsFirst j may q → r ≡ q
  is_first_unique (found xs) (found ys) a b =
      compare_plans j.steps (plan_of xs) (plan_of ys)
      (λ e. absurd (b.1.first (plan_of xs) a.1.valid e))
      (λ e. absurd (a.1.first (plan_of ys) b.1.valid e))
      (λ e. ap found (plan_of_unique j.steps xs ys a.0 b.0 e))
  is_first_unique (found xs) nothing a b = absurd (b (plan_of xs) a.1.valid)
  is_first_unique nothing (found ys) a b = absurd (a (plan_of ys) b.1.valid)
  is_first_unique nothing nothing a b = refl

  -- what is the first plan is what `first_plan` gives
  pub first_plan_unique : (r : Found) → IsFirst j may r → first_plan j may ≡ r
  first_plan_unique r h = is_first_unique (first_plan j may) r first_plan_is_first h

  -- the plan given has one person a step, is valid, and no earlier plan is
  pub first_plan_found : (xs : List ℕ) → first_plan j may ≡ found xs → (length xs ≡ j.steps) × FirstValid j may (plan_of xs)
  first_plan_found xs e = subst (IsFirst j may) e first_plan_is_first

  -- nothing is given exactly when no plan is valid
  pub first_plan_nothing : first_plan j may ≡ nothing → (π : Plan) → Valid j may π → ⊥
  first_plan_nothing e = subst (IsFirst j may) e first_plan_is_first

  pub no_valid_plan : ((π : Plan) → Valid j may π → ⊥) → first_plan j may ≡ nothing
  no_valid_plan h = first_plan_unique nothing h

  -- a plan that is valid and has no valid plan before it is the one given, as a list
  pub first_plan_given : (π : Plan) → FirstValid j may π → first_plan j may ≡ found (list_of j.steps π)
  first_plan_given π f =
      first_plan_unique (found (list_of j.steps π)) (
        length-list_of j.steps π,
        record {
          valid = valid_agree j may π _ (λ s l. sym (plan_of-list_of j.steps π s l)) f.valid;
          first = λ σ v e. f.first σ v (earlier_agree_second j.steps σ _ π (plan_of-list_of j.steps π) e);
        },
      )

  -- whether a valid plan exists is decided
  pub satisfiable_or_not : (Satisfiable j may) ⊎ (Satisfiable j may → ⊥)
  satisfiable_or_not =
      found_cases (first_plan j may) (λ xs e. inl (plan_of xs, (first_plan_found xs e).1.valid)) (λ e. inr (λ w. first_plan_nothing e w.0 w.1))
