-- The sizes one after the other, and what the whole walk comes to. Assumes nothing.
use mathlib.Core.Bool.{Bool}
use mathlib.Core.List.{List, []}
use mathlib.Core.Path.{◌≡◌, refl, sym, ap, subst, ◌∙◌}
use Prim.Native.Nat.{ℕ, suc, ◌+◌, ◌-◌, ◌≤◌, ◌<◌}
use native.Mathlib.Omega.{arith}
use native.Mathlib.Nat.{sub-zero}
use native.Mathlib.Numerals.{add-one}
use lib.ListN.{replicate}
use borrow.Author.Tests.{not-true}
use Rattle.bits.proofs.Below.{and_right}
use Rattle.workflow.specs.Problem.{Job, May, Plan, Valid, Satisfiable}
use Rattle.workflow.specs.First.{Found, found, nothing, first_plan}
use Rattle.workflow.proofs.First.{found_cases, first_plan_nothing}
use Rattle.pattern.specs.Tables.{plan_in}
use Rattle.search.specs.Existence.{Existence}
use Rattle.bits.specs.Member.{member}
use Rattle.resiliency.specs.Away.{without, Resilient, Group, FirstBreaking}
use Rattle.resiliency.specs.Count.{Spare, unsatisfiable, capped, broken, ends_at, first_breaking, count_from, spare, IsSpare}
use Rattle.std.specs.Prelude.{None, Some}
use Rattle.resiliency.specs.Group.{members_in}
use Rattle.resiliency.specs.Onward.{Onward, FirstFrom}
use Rattle.resiliency.specs.Known.{Known, KeptPlan, told}
use Rattle.resiliency.specs.declared.group.Group as code
use Rattle.resiliency.specs.declared.Spared.TheVariants.{Unsatisfiable, Capped, Broken}
use Rattle.resiliency.proofs.Breaking.{first-breaking, first_breaking_found, first_breaking_nothing, first_breaking_unique}
use Rattle.resiliency.proofs.Knowing.{known_zero, known_kept, valid-without, without-valid}
use Rattle.resiliency.proofs.Laws.{spare_is_spare, spare_unique}

-- the groups of all sizes are those that nobody begins
onward_group : {people k : ℕ} {zs : List ℕ} → Group people k zs → Onward people 0 k zs
onward_group g = record { group = g; above = λ i l. omega arith }

module _ (j : Job) (may : May) where
  -- no group of a size breaks the job
  pub size_none : (k : ℕ) → FirstFrom j may [] 0 k None → first_breaking j may k ≡ nothing
  size_none k h =
      found_cases (first_breaking j may k)
      (λ ys e. let f = first_breaking_found j may k ys e in absurd (f.breaks (h ys (onward_group f.group))))
      (λ e. e)

  -- or the group is the first that does
  pub size_found : (k : ℕ) (g : code.Group) → FirstFrom j may [] 0 k (Some g) → first_breaking j may k ≡ found (members_in g)
  size_found k g h =
      let o = h.4 in
      let f : FirstBreaking j may k h.2
      = first-breaking j may k h.2 o.onward.group o.breaks (λ ys y b d. b (o.before ys (onward_group y) d)) in
      found_cases (first_breaking j may k)
      (λ ys e. e ∙ ap found (first_breaking_unique j may k ys h.2 (first_breaking_found j may k ys e) f ∙ sym h.3))
      (λ e. absurd (f.breaks (first_breaking_nothing j may k e h.2 f.group)))

  -- ---- the sizes: what is to come from one on is what is to come from the first

  module _ (cap : ℕ) where
    abbrev pub Goes : ℕ → Type 0
    Goes t = count_from j may cap 0 ≡ count_from j may (cap - t) t

    pub goes_first : Goes 0
    goes_first = ap (λ (n : ℕ). count_from j may n 0) (sym (sub-zero cap))

    one_size : (t : ℕ) → t < cap → count_from j may (cap - t) t ≡ ends_at t (first_breaking j may (suc t)) (count_from j may (cap - suc t) (suc t))
    unfolding count_from
    one_size t l = let e : cap - t ≡ suc (cap - suc t) = omega arith in ap (λ (n : ℕ). count_from j may n t) e

    pub goes_on : (t : ℕ) → t < cap → Goes t → FirstFrom j may [] 0 (t + 1) None → Goes (t + 1)
    goes_on t l g h =
        rw add-one
        (g ∙ one_size t l
        ∙ ap (λ (f : Found). ends_at t f (count_from j may (cap - suc t) (suc t)))
        (size_none (suc t) (subst (λ (k : ℕ). FirstFrom j may [] 0 k None) (add-one t) h)))

    pub goes_found : (t : ℕ) (g : code.Group) → t < cap → Goes t → FirstFrom j may [] 0 (t + 1) (Some g)
        → told (Broken g) ≡ count_from j may cap 0
    goes_found t g l e h =
        let n = h.1 in
        let s : g.size - 1 ≡ t = omega arith in
        ap (λ (k : ℕ). broken k (members_in g)) s
        ∙ sym (e ∙ one_size t l
        ∙ ap (λ (f : Found). ends_at t f (count_from j may (cap - suc t) (suc t)))
        (size_found (suc t) g (subst (λ (k : ℕ). FirstFrom j may [] 0 k (Some g)) (add-one t) h)))

    pub goes_end : (t : ℕ) → cap ≤ t → Goes t → told Capped ≡ count_from j may cap 0
    unfolding count_from
    goes_end t l e = let z : cap - t ≡ 0 = omega arith in sym (e ∙ ap (λ (n : ℕ). count_from j may n t) z)

module _ {j : Job} {may : May} where
  -- no plan with everyone present
  pub spare_none : (cap : ℕ) → Existence j may None → told Unsatisfiable ≡ spare j may cap
  spare_none cap x = sym (spare_unique j may cap unsatisfiable x)

  -- a plan with everyone present
  pub spare-walk : (plan : List ℕ) (cap : ℕ) → Existence j may (Some plan) → spare j may cap ≡ count_from j may cap 0
  unfolding spare
  spare-walk plan cap x =
      found_cases (first_plan j may) (λ xs d. rw d refl) (λ d. absurd (first_plan_nothing j may d _ x.1))

  -- the first plan is known
  pub known_first : (plan : List ℕ) {words plans : List ℕ} {mask : ℕ} → Existence j may (Some plan) → j.people ≤ 64
      → KeptPlan j.steps plan mask (replicate {A = ℕ} 64 0) (replicate {A = ℕ} 64 18446744073709551615) words plans
      → Known j may words plans
  known_first plan {words} {plans} {mask = mask} x l u =
      known_kept j may plan (replicate {A = ℕ} 64 0) words (replicate {A = ℕ} 64 18446744073709551615) plans mask
      (known_zero j may (plan_in plan) x.1 l) x.1 u

-- jobs of as many people and steps with the same valid plans have the same spare count
module _ (j k : Job) (may more : May) (steps : j.steps ≡ k.steps) (people : j.people ≡ k.people)
    (forth : (π : Plan) → Valid j may π → Valid k more π) where
  among_others : (away : ℕ → Bool) → Satisfiable j (without may away) → Satisfiable k (without more away)
  among_others away w = (
    w.0,
    valid-without k more away w.0 (forth w.0 (without-valid j may away w.0 w.1))
        (λ s l. not-true (away (w.0 s)) (and_right (may s (w.0 s)) _ (w.1.authorised s (omega arith)))),
  )

  -- where the valid plans of the one are valid plans of the other
  resilient_other : (t : ℕ) → Resilient j may t → Resilient k more t
  resilient_other t r away l = among_others away (r away (rw people l))

module _ (j k : Job) (may more : May) (steps : j.steps ≡ k.steps) (people : j.people ≡ k.people)
    (forth : (π : Plan) → Valid j may π → Valid k more π) (back : (π : Plan) → Valid k more π → Valid j may π) where
  first_other : (t : ℕ) (xs : List ℕ) → FirstBreaking j may t xs → FirstBreaking k more t xs
  first_other t xs f =
      record {
        group = subst (λ (n : ℕ). Group n t xs) people f.group;
        breaks = λ w. f.breaks (among_others k j more may (sym steps) (sym people) back (member xs) w);
        after = λ ys g b d.
            f.after ys (subst (λ (n : ℕ). Group n t ys) (sym people) g) (λ w. b (among_others j k may more steps people forth (member ys) w)) d;
      }

  is_spare_other : (cap : ℕ) (r : Spare) → IsSpare j may cap r → IsSpare k more cap r
  is_spare_other cap unsatisfiable h = λ w. h (w.0, back w.0 w.1)
  is_spare_other cap capped h = resilient_other j k may more steps people forth cap h
  is_spare_other cap (broken t xs) h = (h.0, resilient_other j k may more steps people forth t h.1, first_other (suc t) xs h.2)

  pub spare_other : (cap : ℕ) → spare j may cap ≡ spare k more cap
  spare_other cap = sym (spare_unique k more cap (spare j may cap) (is_spare_other cap (spare j may cap) (spare_is_spare j may cap)))
