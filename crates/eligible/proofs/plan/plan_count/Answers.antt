-- `eligible::plan::plan_count` meets its contract: the labels are the names of the classes of its steps. Assumes nothing.
use mathlib.Core.Path.{◌≡◌, sym, subst}
use Prim.Native.Nat.{◌<◌}
use native.Mathlib.Omega.{arith}
use Rattle.std.proofs.Common.{rules}
use Rattle.bits.proofs.SetLaws.{has_below}
use Rattle.pattern.specs.Number.{first_use}
use Rattle.pattern.specs.Tables.{job_in, plan_in}
use Rattle.eligible.specs.Classes.{ForClasses, OneLevel}
use Rattle.eligible.proofs.Planned.{named, its_steps, name_at, walked_all}
use Rattle.eligible.proofs.plan.plan_count.Goals as goal

pub returns : goal.returns
returns c =
    let a = c.args in
    let is = c.scope-scope.ensures in (
      c.class_count.ensures.0,
      λ size rule at within.
          walked_all a.crowd.now a.plan.now a.r is c.class_count.ensures.1 size rule at within
          (c.label_set-labels.ensures size.steps (named a.r a.plan.now (job_in size a.crowd.now rule)) (its_steps a.crowd.now a.plan.now a.r is at)
          (λ s v h p.
          let name : ForClasses a.crowd.now c.level-level.result (λ people k. plan_in a.plan.now s < people → v ≡ first_use people k (plan_in a.plan.now s)) = search rules in
          name_at a.crowd.now a.plan.now a.r is s v c.level-level.ensures.0 name h size rule at within)),
    )

pub label_set-labels-requires : goal.label_set-labels-requires
label_set-labels-requires c =
    let level : OneLevel c.args.crowd.now c.level-level.result = subst (OneLevel _) (sym c.level-level.ensures.0) c.requires.0 in
    record {
      may = λ s h. let below : s < 12 = has_below 12 c.scope-scope.result s (omega (arith, c.scope-scope.ensures, c.requires.1)) h in search rules;
      small = λ s v h p. search rules;
    }
