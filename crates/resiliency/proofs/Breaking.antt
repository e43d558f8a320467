-- The first breaking group of a size: what `first_breaking` finds, and that there is only one such. Assumes nothing.
use mathlib.Core.Bool.{Bool, true, false, not, ◌&&◌}
use mathlib.Core.List.{List, []}
use mathlib.Core.Path.{◌≡◌, refl, sym, subst}
use Prim.Native.Nat.{ℕ, suc, ◌-◌, ◌<◌}
use native.Mathlib.Omega.{arith}
use native.Mathlib.Nat.{not-suc-le-zero}
use lib.Dec.{ltb}
use lib.ListN.{length, get_or}
use borrow.Author.Tests.{ltb-true, ltb-false, lt-ltb, not-true}
use Rattle.bits.proofs.Below.{by_cases, true-false, all_at, all_of, and_left, and_right}
use Rattle.bits.proofs.Counting.{and_of, is_false}
use Rattle.workflow.specs.Problem.{Job, May, Plan, Satisfiable}
use Rattle.workflow.specs.First.{Found, found, nothing, plan_of, first_plan, Earlier}
use Rattle.workflow.proofs.First.{found_cases, Candidate, Answer, try_all-answer, first_plan_found, first_plan_nothing, no_valid_plan}
use Rattle.workflow.proofs.Valid.{satisfiable_mono}
use Rattle.workflow.proofs.Order.{compare_plans}
use Rattle.workflow.proofs.Lists.{plan_of_unique}
use Rattle.bits.specs.Member.{member}
use Rattle.resiliency.specs.Away.{without, Group, Breaks, FirstBreaking, increasing, breaking}
use Rattle.resiliency.specs.Count.{first_breaking}

-- fewer away leave no fewer plans: where those of b are all in a
pub fewer_away : (j : Job) (may : May) (a b : ℕ → Bool) → ((p : ℕ) → p < j.people → b p ≡ true → a p ≡ true)
    → Satisfiable j (without may a) → Satisfiable j (without may b)
fewer_away j may a b h =
    satisfiable_mono j (without may a) (without may b)
    (λ s p l m t.
    and_of (may s p) (not (b p)) (and_left (may s p) _ t)
    (rw (is_false (b p) (λ u. true-false (h p m u) (not-true (a p) (and_right (may s p) _ t)))) refl))

-- an earlier list is not also a later one
pub earlier_not_later : (n : ℕ) (σ π : Plan) → Earlier n σ π → Earlier n π σ → ⊥
earlier_not_later n σ π d e =
    by_cases (ltb d.at e.at)
    (λ t. omega (arith, d.less, e.before d.at (ltb-true _ _ t)))
    (λ t. by_cases (ltb e.at d.at)
    (λ u. omega (arith, e.less, d.before e.at (ltb-true _ _ u)))
    (λ u. let same : e.at ≡ d.at = omega (arith, ltb-false d.at e.at t, ltb-false e.at d.at u) in
    let z : π d.at < σ d.at = subst (λ (x : ℕ). π x < σ x) same e.less in omega (arith, d.less)))

module _ (xs : List ℕ) (k : ℕ) (size : length xs ≡ k) where
  increasing_sound : increasing xs ≡ true → (i : ℕ) → suc i < k → get_or xs i 0 < get_or xs (suc i) 0
  unfolding increasing
  increasing_sound h i l = ltb-true _ _ (all_at (length xs - 1) _ h i (omega arith))

  increasing_complete : ((i : ℕ) → suc i < k → get_or xs i 0 < get_or xs (suc i) 0) → increasing xs ≡ true
  unfolding increasing
  increasing_complete h = all_of (length xs - 1) _ (λ i l. lt-ltb _ _ (h i (omega arith)))

module _ (j : Job) (may : May) (xs : List ℕ) where
  pub breaking_sound : breaking j may xs ≡ true → Breaks j may xs
  unfolding breaking
  breaking_sound h w =
      found_cases (first_plan j (without may (member xs)))
      (λ ys e. true-false {b = false} (rw e at h) refl)
      (λ e. first_plan_nothing j (without may (member xs)) e w.0 w.1)

  pub breaking_complete : Breaks j may xs → breaking j may xs ≡ true
  unfolding breaking
  breaking_complete h = rw (no_valid_plan j (without may (member xs)) (λ π v. h (π, v))) refl

  -- a group that does not break leaves a valid plan
  pub not-breaking : breaking j may xs ≡ false → Satisfiable j (without may (member xs))
  unfolding breaking
  not-breaking h =
      found_cases (first_plan j (without may (member xs)))
      (λ ys e. (plan_of ys, (first_plan_found j (without may (member xs)) ys e).1.valid))
      (λ e. true-false {b = true} refl (rw e at h))

module _ (j : Job) (may : May) (k : ℕ) where
  abbrev Chosen : List ℕ → Type 0
  Chosen = Candidate (λ xs. let b : Bool = breaking j may xs in increasing xs && b) j.people k []

  -- the lists that pass the walk's test are the breaking groups
  chosen : (xs : List ℕ) → Group j.people k xs → Breaks j may xs → Chosen xs
  chosen xs g h =
      record {
        size = g.size;
        within = g.within;
        extends = λ s l. absurd (not-suc-le-zero l);
        passes = and_of _ _ (increasing_complete xs k g.size g.ordered) (breaking_complete j may xs h);
      }

  chosen_group : (xs : List ℕ) → Chosen xs → Group j.people k xs
  chosen_group xs c =
      record { size = c.size; within = c.within; ordered = increasing_sound xs k c.size (and_left (increasing xs) _ c.passes) }

  chosen_breaks : (xs : List ℕ) → Chosen xs → Breaks j may xs
  chosen_breaks xs c = breaking_sound j may xs (and_right (increasing xs) _ c.passes)

  answer : Answer (λ xs. let b : Bool = breaking j may xs in increasing xs && b) j.people k [] (first_breaking j may k)
  unfolding first_breaking
  answer = try_all-answer _ j.people k k [] (omega arith) (λ s l. absurd (not-suc-le-zero l))

  -- a group that no breaking one is before is the first
  pub first-breaking : (xs : List ℕ) → Group j.people k xs → Breaks j may xs
      → ((ys : List ℕ) → Group j.people k ys → Breaks j may ys → Earlier k (plan_of ys) (plan_of xs) → ⊥) → FirstBreaking j may k xs
  first-breaking xs g h none_before =
      record {
        group = g;
        breaks = h;
        after = λ ys gy b d. compare_plans k (plan_of xs) (plan_of ys) (λ e. e) (λ e. absurd (none_before ys gy b e))
            (λ a. absurd (d (sym (plan_of_unique k xs ys g.size gy.size a))));
      }

  pub first_breaking_found : (xs : List ℕ) → first_breaking j may k ≡ found xs → FirstBreaking j may k xs
  first_breaking_found xs e =
      let a = subst (λ (r : Found). Answer (λ xs. let b : Bool = breaking j may xs in increasing xs && b) j.people k [] r) e answer in
      first-breaking xs (chosen_group xs a.0) (chosen_breaks xs a.0) (λ ys g b d. a.1 ys (chosen ys g b) d)

  pub first_breaking_nothing : first_breaking j may k ≡ nothing → (ys : List ℕ) → Group j.people k ys → Satisfiable j (without may (member ys))
  first_breaking_nothing e ys g =
      let a = subst (λ (r : Found). Answer (λ xs. let b : Bool = breaking j may xs in increasing xs && b) j.people k [] r) e answer in
      not-breaking j may ys (is_false _ (λ t. a ys (chosen ys g (breaking_sound j may ys t))))

  -- only one group is the first
  pub first_breaking_unique : (xs ys : List ℕ) → FirstBreaking j may k xs → FirstBreaking j may k ys → xs ≡ ys
  first_breaking_unique xs ys a b =
      compare_plans k (plan_of xs) (plan_of ys)
      (λ e. absurd (earlier_not_later k _ _ e (b.after xs a.group a.breaks (λ d. itself ys (subst (λ (zs : List ℕ). Earlier k (plan_of zs) (plan_of ys)) d e)))))
      (λ e. absurd (earlier_not_later k _ _ e (a.after ys b.group b.breaks (λ d. itself xs (subst (λ (zs : List ℕ). Earlier k (plan_of zs) (plan_of xs)) d e)))))
      (plan_of_unique k xs ys a.group.size b.group.size)
    where
      itself : (zs : List ℕ) → Earlier k (plan_of zs) (plan_of zs) → ⊥
      itself zs e = omega (arith, e.less)
