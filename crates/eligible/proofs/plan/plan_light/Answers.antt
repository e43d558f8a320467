-- `eligible::plan::plan_light` meets its contract: the labels are the names of the classes of its steps. Assumes nothing.
use mathlib.Core.Path.{◌≡◌, sym, subst}
use mathlib.Core.Bool.{true}
use Prim.Native.Nat.{ℕ, ◌<◌}
use native.Mathlib.Omega.{arith}
use Rattle.std.proofs.Common.{rules}
use Rattle.bits.specs.Word.{has_bit}
use Rattle.bits.proofs.SetLaws.{has_below}
use Rattle.pattern.specs.Number.{first_use}
use Rattle.pattern.specs.Tables.{job_in, plan_in}
use Rattle.eligible.specs.Classes.{ForClasses, OneLevel}
use Rattle.eligible.proofs.Planned.{named, name_at, name_small, plan_loaded}
use Rattle.eligible.proofs.plan.plan_light.Goals as goal

pub light-requires : goal.light-requires
light-requires c =
    let level : OneLevel c.args.crowd.now c.level-level.result = subst (OneLevel _) (sym c.level-level.ensures.0) c.requires.0 in
    let few : c.scope.result < 4096 = omega (arith, c.scope.ensures, c.requires.1) in (
      few,
      λ s h. subst (λ (m : ℕ). has_bit m s ≡ true) c.scope.ensures h,
      record {
        may = λ s h. let below : s < 12 = has_below 12 c.scope.result s few h in search rules;
        small = λ s v h p. search rules;
      },
    )

pub returns : goal.returns
returns c =
    let a = c.args in
    let is = c.scope.ensures in
    λ size rule at within.
    plan_loaded a.crowd.now a.plan.now a.r is c.light.result size rule at within
    (c.light.ensures size.steps (named a.r a.plan.now (job_in size a.crowd.now rule)) at.scoped
    (λ s v h p.
    let name : ForClasses a.crowd.now c.level-level.result (λ people k. plan_in a.plan.now s < people → v ≡ first_use people k (plan_in a.plan.now s)) = search rules in
    name_at a.crowd.now a.plan.now a.r is s v c.level-level.ensures.0 name h size rule at within)
    (λ s h. name_small a.crowd.now a.plan.now a.r is s h size rule at within))
