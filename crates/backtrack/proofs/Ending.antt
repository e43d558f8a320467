-- The end of a search: domains of one person each, and what the counts of the rules say of their plan. Assumes nothing.
use mathlib.Core.Bool.{Bool, true, false}
use mathlib.Core.List.{List}
use mathlib.Core.Path.{◌≡◌}
use Prim.Native.Nat.{ℕ, ◌≤◌, ◌<◌}
use native.Mathlib.Omega.{arith}
use lib.ListN.{length}
use Rattle.bits.specs.Says.{Says}
use Rattle.bits.proofs.Says.{says_of, says_true, says_false}
use Rattle.bits.proofs.SetLaws.{empty_lacks}
use Rattle.workflow.specs.Problem.{Job, Rule, Plan, Agree, OfPeople, Met, Valid, class_count, class_load}
use Rattle.workflow.proofs.Valid.{valid_agree}
use Rattle.pattern.specs.declared.Size.{Size}
use Rattle.pattern.specs.Eligible.{CanBeMet}
use Rattle.pattern.specs.Given.{Given}
use Rattle.pattern.specs.Tables.{may_in, plan_in, rule_in, job_in}
use Rattle.backtrack.specs.Trial.{MeetsAll, Alone, TakesFirst, Trial}
use Rattle.std.proofs.Common.{Ok, Some, None}

-- a plan taken from the domains, one step more
pub first_none : {people : ℕ} {dom plan : List ℕ} → length plan ≡ 12 → TakesFirst people 0 dom plan
first_none e = record { sized = e; within = λ s l. absurd (omega arith); among = λ s l. absurd (omega arith) }

-- a rule that is met can be met with its count and nothing more
pub met_can_be : (j : Job) (r : Rule) (π : Plan) (n : ℕ) → n ≡ class_count j r π → Met j r π → CanBeMet r n 0
met_can_be j r π n e m = record { least = omega (arith, m.least); most = omega (arith, m.most) }

-- and one that can is met exactly where no class holds too many steps
pub met_says : (j : Job) (r : Rule) (π : Plan) (n : ℕ) (a : Bool) → n ≡ class_count j r π → CanBeMet r n 0 → Says a (class_load j r π ≤ r.load) → Says a (Met j r π)
met_says j r π n a e w h =
    says_of a (Met j r π)
    (λ t. record { least = omega (arith, w.least); most = omega (arith, w.most); load = says_true a _ h t })
    (λ t m. says_false a _ h t m.load)

module _ (crowd rule plan : List ℕ) where
  -- the first n rules are met by the plan, in every job of these arrays
  abbrev pub MetBelow : ℕ → Type 0
  MetBelow n = (size : Size) → Given size crowd rule → n ≤ size.rules → OfPeople (job_in size crowd rule) (plan_in plan)
      → (i : ℕ) → i < n → Met (job_in size crowd rule) (rule_in rule i) (plan_in plan)

-- ---- what the tests say of the plan taken

module _ (j : Job) (dom plan : List ℕ) (a : Alone j.steps 0 dom) (t : TakesFirst j.people j.steps dom plan) where
  -- there is no other plan of the domains
  only : (σ : Plan) → Valid j (may_in dom) σ → Agree j.steps σ (plan_in plan)
  only σ v s l = a.one s _ _ l (empty_lacks s) (v.authorised s l) (t.among s l)

  pub ended_found : (a : Bool) → MeetsAll j j.rules (plan_in plan) a → a ≡ true → Trial true j dom (Ok (Some plan))
  unfolding Trial
  ended_found a met e = (
    t.sized,
    record {
      valid = record { within = t.within; authorised = t.among; eligible = says_true a _ (met t.within) e };
      first = λ wanted σ v e.
          let x : σ e.at ≡ plan_in plan e.at = only σ v e.at e.below in
          let y : σ e.at < plan_in plan e.at = e.less in
          omega arith;
    },
  )

  pub ended_none : (a : Bool) → MeetsAll j j.rules (plan_in plan) a → a ≡ false → Trial true j dom (Ok None)
  unfolding Trial
  ended_none a met e (σ, v) = says_false a _ (met t.within) e (valid_agree j (may_in dom) σ (plan_in plan) (only σ v) v).eligible
