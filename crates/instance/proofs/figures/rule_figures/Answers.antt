-- `instance::figures::rule_figures` meets its contract: the rules passed have their figures. Assumes nothing.
use mathlib.Core.Path.{◌≡◌, ◌∙◌, ap, subst}
use Prim.Native.Nat.{ℕ}
use native.Mathlib.Omega.{arith}
use Rattle.workflow.specs.First.{plan_of}
use Rattle.workflow.specs.Problem.{Kind, looked_at, class_count, class_load}
use Rattle.instance.specs.Instance.{instance_of}
use Rattle.instance.specs.Figures.{FiguresOf, kind_at}
use Rattle.instance.proofs.Figured.{figures_none, figures_more}
use Rattle.instance.proofs.figures.rule_figures.Goals as goal

pub loop-i-init : goal.loop-i-init
loop-i-init c = (omega arith, λ people steps w. figures_none _ _ _)

pub loop-i-preserved : goal.loop-i-preserved
loop-i-preserved c =
    let l = c.loop-i in
    let job = c.args.job.now in
    let inside = c.loop-i-test.true in (
      omega (arith, inside),
      λ people steps w.
          let j = instance_of people steps job.rules job in
          let plan = plan_of c.args.plan.now in
          figures_more _ _ _ (l.invariant.1 people steps w) (omega (arith, inside, c.requires.few))
          (c.rule_figure-figure.ensures.1 steps (w l.i inside)
          ∙ ap (λ (k : Kind). looked_at k (class_count j (j.rule l.i) plan) (class_load j (j.rule l.i) plan)) c.from-kind.ensures),
    )

pub returns : goal.returns
returns c people steps w =
    let job = c.args.job.now in
    let e : c.loop-i.i ≡ job.rules = omega (arith, c.loop-i-test.false, c.loop-i.invariant.0) in
    subst (λ (n : ℕ). FiguresOf (kind_at job) (instance_of people steps job.rules job) (plan_of c.args.plan.now) n c.loop-i.figures) e (c.loop-i.invariant.1 people steps w)
