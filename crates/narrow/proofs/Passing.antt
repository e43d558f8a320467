-- Rule after rule: no valid plan is lost. Assumes nothing.
use mathlib.Core.Bool.{true, false}
use mathlib.Core.List.{List}
use mathlib.Core.Path.{refl}
use Prim.Native.Nat.{ℕ, ◌<◌}
use Rattle.bits.proofs.Below.{true-false}
use Rattle.workflow.specs.Problem.{Job, Plan, Valid}
use Rattle.pattern.specs.Tables.{may_in}
use Rattle.narrow.specs.Domains.{Takes, Revised, Narrowed}
use Rattle.narrow.proofs.Restricting.{fewer_then}

-- a valid plan takes people of the domains
takes_valid : (j : Job) (dom : List ℕ) (π : Plan) → Valid j (may_in dom) π → Takes j.steps j.people dom π
takes_valid j dom π v = record { within = v.within; among = v.authorised }

module _ {j : Job} {dom dom' dom'' : List ℕ} (i : ℕ) (below : i < j.rules) (w : Narrowed j dom dom' true) where
  pub narrowed_more : Revised j (j.rule i) dom' dom'' false → Narrowed j dom dom'' true
  narrowed_more more =
      record {
        fewer = fewer_then dom dom' dom'' w.fewer more.fewer;
        kept = λ t π v.
            let u = w.kept refl π v in
            let k = more.kept refl π (u.eligible i below) (takes_valid j dom' π u) in
            record { within = k.within; authorised = k.among; eligible = v.eligible };
        lost = λ t. true-false refl t;
      }

  pub narrowed_lost : Revised j (j.rule i) dom' dom'' true → Narrowed j dom dom'' false
  narrowed_lost more =
      record {
        fewer = fewer_then dom dom' dom'' w.fewer more.fewer;
        kept = λ t. true-false t refl;
        lost = λ t π v. let u = w.kept refl π v in more.lost refl π (u.eligible i below) (takes_valid j dom' π u);
      }
