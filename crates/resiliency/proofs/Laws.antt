-- Demand 3: what `spare` gives is the largest number of absences that the job stands, with the first breaking group of one more; it
-- gives no count exactly when no valid plan exists; and no other answer is such. Assumes nothing.
use mathlib.Core.Bool.{Bool, true, false}
use mathlib.Core.List.{List}
use mathlib.Core.Logic.{◌↔◌}
use mathlib.Core.Path.{◌≡◌, refl, subst}
use Prim.Native.Nat.{ℕ, zero, suc, ◌+◌, ◌≤◌, ◌<◌}
use native.Mathlib.Omega.{arith}
use lib.Dec.{ltb, leb}
use borrow.Author.Tests.{ltb-true, ltb-false, leb-true, leb-false}
use Rattle.bits.specs.Below.{count}
use Rattle.bits.proofs.Below.{by_cases}
use Rattle.bits.proofs.Counting.{is_false, count_none, count_some}
use Rattle.workflow.specs.Problem.{Job, May, Satisfiable}
use Rattle.workflow.specs.First.{plan_of, first_plan}
use Rattle.workflow.proofs.First.{found_cases, first_plan_found, first_plan_nothing}
use Rattle.workflow.proofs.Valid.{satisfiable_mono}
use Rattle.bits.specs.Member.{member}
use Rattle.resiliency.specs.Away.{without, Resilient, Group, Breaks, FirstBreaking}
use Rattle.resiliency.specs.Count.{Spare, unsatisfiable, capped, broken, first_breaking, count_from, spare, count_of, IsSpare, Largest}
use Rattle.resiliency.proofs.Groups.{group_count_lem, members_of, members_group, members_has}
use Rattle.resiliency.proofs.Breaking.{fewer_away, first_breaking_found, first_breaking_nothing, first_breaking_unique}

module _ (j : Job) (may : May) where
  -- with nobody away everyone is present
  pub nobody_away : Satisfiable j (without may (λ p. false)) → Satisfiable j may
  nobody_away = satisfiable_mono j (without may (λ p. false)) may (λ s p l m t. and_left_of (may s p) t)
    where
      and_left_of : (b : Bool) → mathlib.Core.Bool.◌&&◌ b true ≡ true → b ≡ true
      and_left_of true t = refl
      and_left_of false t = t

  pub resilient_present : (t : ℕ) → Resilient j may t → Satisfiable j may
  resilient_present t r = nobody_away (r (λ p. false) (let z : count j.people (λ p. false) ≡ 0 = count_none j.people (λ p. false) (λ p l. refl) in omega arith))

  -- the empty set leaves the plans that there are
  pub resilient_zero : Satisfiable j may → Resilient j may 0
  resilient_zero w away h =
      satisfiable_mono j may (without may away)
      (λ s p l m t. rw (t, is_false (away p) (λ u. omega (arith, count_some j.people away p m u))) refl) w

  -- sets of one more member are to be looked at as groups
  pub resilient_suc : (t : ℕ) → Resilient j may t
      → ((ys : List ℕ) → Group j.people (suc t) ys → Satisfiable j (without may (member ys))) → Resilient j may (suc t)
  resilient_suc t r each away h =
      by_cases (leb (count j.people away) t)
      (λ u. r away (leb-true _ _ u))
      (λ u. let e : count j.people away ≡ suc t = omega (arith, leb-false (count j.people away) t u) in
      let xs : List ℕ = members_of j.people away in
      fewer_away j may (member xs) away (members_has j.people away)
      (each xs (subst (λ (k : ℕ). Group j.people k xs) e (members_group j.people away))))

  pub resilient_less : (t u : ℕ) → u ≤ t → Resilient j may t → Resilient j may u
  resilient_less t u l r away h = r away (omega arith)

  -- a breaking group is a set that the job does not stand
  pub breaks_not_resilient : (k : ℕ) (xs : List ℕ) → Group j.people k xs → Breaks j may xs → (u : ℕ) → k ≤ u → Resilient j may u → ⊥
  breaks_not_resilient k xs g b u l r = b (r (member xs) (let z : count j.people (member xs) ≡ k = group_count_lem j.people k xs g in omega arith))

  -- the sizes above t, up to the cap
  walk_is_spare : (cap left t : ℕ) → left + t ≡ cap → Resilient j may t → IsSpare j may cap (count_from j may left t)
  unfolding count_from
  walk_is_spare cap zero t e r = let z : t ≡ cap = omega arith in subst (Resilient j may) z r
  walk_is_spare cap (suc left) t e r =
      let rest = walk_is_spare cap left (suc t) (omega arith) in
      found_cases (first_breaking j may (suc t))
      (λ xs d. rw d (let z : t < cap = omega arith in (z, r, first_breaking_found j may (suc t) xs d)))
      (λ d. rw d (rest (resilient_suc t r (first_breaking_nothing j may (suc t) d))))

  -- `spare` gives the spare count
  pub spare_is_spare : (cap : ℕ) → IsSpare j may cap (spare j may cap)
  unfolding spare
  spare_is_spare cap =
      found_cases (first_plan j may)
      (λ xs e. rw e (walk_is_spare cap cap 0 (omega arith) (resilient_zero (plan_of xs, (first_plan_found j may xs e).1.valid))))
      (λ e. rw e (λ w. first_plan_nothing j may e w.0 w.1))

  -- only one answer is the spare count
  pub is_spare_unique : (cap : ℕ) (r q : Spare) → IsSpare j may cap r → IsSpare j may cap q → r ≡ q
  is_spare_unique cap unsatisfiable unsatisfiable a b = refl
  is_spare_unique cap unsatisfiable capped a b = absurd (a (resilient_present cap b))
  is_spare_unique cap unsatisfiable (broken t ys) a b = absurd (a (resilient_present t b.1))
  is_spare_unique cap capped unsatisfiable a b = absurd (b (resilient_present cap a))
  is_spare_unique cap capped capped a b = refl
  is_spare_unique cap capped (broken t ys) a b =
      absurd (breaks_not_resilient (suc t) ys b.2.group b.2.breaks cap (omega (arith, b.0)) a)
  is_spare_unique cap (broken t xs) unsatisfiable a b = absurd (b (resilient_present t a.1))
  is_spare_unique cap (broken t xs) capped a b =
      absurd (breaks_not_resilient (suc t) xs a.2.group a.2.breaks cap (omega (arith, a.0)) b)
  is_spare_unique cap (broken t xs) (broken u ys) a b =
      by_cases (ltb t u)
      (λ l. absurd (breaks_not_resilient (suc t) xs a.2.group a.2.breaks u (ltb-true t u l) b.1))
      (λ l. by_cases (ltb u t)
      (λ m. absurd (breaks_not_resilient (suc u) ys b.2.group b.2.breaks t (ltb-true u t m) a.1))
      (λ m. let e : u ≡ t = omega (arith, ltb-false t u l, ltb-false u t m) in
      let same : xs ≡ ys = first_breaking_unique j may (suc t) xs ys a.2 (subst (λ (k : ℕ). FirstBreaking j may (suc k) ys) e b.2) in
      cc))

  -- what is the spare count is what `spare` gives
  pub spare_unique : (cap : ℕ) (r : Spare) → IsSpare j may cap r → spare j may cap ≡ r
  spare_unique cap r h = is_spare_unique cap (spare j may cap) r (spare_is_spare cap) h

  -- "a job without a valid plan has no such t", and only such a job
  pub spare_unsatisfiable : (cap : ℕ) → (spare j may cap ≡ unsatisfiable) ↔ (Satisfiable j may → ⊥)
  spare_unsatisfiable cap = (λ e. subst (IsSpare j may cap) e (spare_is_spare cap), spare_unique cap unsatisfiable)

  -- the count is the cap exactly when every set of at most so many people leaves a valid plan
  pub spare_capped : (cap : ℕ) → (spare j may cap ≡ capped) ↔ Resilient j may cap
  spare_capped cap = (λ e. subst (IsSpare j may cap) e (spare_is_spare cap), spare_unique cap capped)

  -- and below the cap exactly when it is with the first breaking group of one more
  pub spare_broken : (cap t : ℕ) (xs : List ℕ) → (spare j may cap ≡ broken t xs) ↔ ((t < cap) × Resilient j may t × FirstBreaking j may (suc t) xs)
  spare_broken cap t xs = (λ e. subst (IsSpare j may cap) e (spare_is_spare cap), spare_unique cap (broken t xs))

  pub is_spare_largest : (cap : ℕ) (r : Spare) → IsSpare j may cap r → Satisfiable j may → Largest j may cap (count_of cap r)
  is_spare_largest cap unsatisfiable a w = absurd (a w)
  is_spare_largest cap capped a w = record { most = omega arith; stands = a; largest = λ u l r. l }
  is_spare_largest cap (broken t xs) a w =
      record {
        most = omega (arith, a.0);
        stands = a.1;
        largest = λ u l r. by_cases (leb u t) (λ h. leb-true u t h)
            (λ h. absurd (breaks_not_resilient (suc t) xs a.2.group a.2.breaks u (leb-false u t h) r));
      }

  -- "the largest t, at most c, such that for every set of at most t people away a valid plan exists among the others"
  pub spare-largest : (cap : ℕ) → Satisfiable j may → Largest j may cap (count_of cap (spare j may cap))
  spare-largest cap w = is_spare_largest cap (spare j may cap) (spare_is_spare cap) w

  -- no other number is the largest
  pub largest_unique : (cap t u : ℕ) → Largest j may cap t → Largest j may cap u → t ≡ u
  largest_unique cap t u a b =
      let x : t ≤ u = b.largest t a.most a.stands in let y : u ≤ t = a.largest u b.most b.stands in omega arith
