-- The job that the tables pose has the first plan of the sheet's. Assumes nothing.
use mathlib.Core.List.{List}
use mathlib.Core.Path.{◌∙◌, ap}
use Prim.Native.Nat.{ℕ}
use borrow.Author.Rules.{rules}
use Rattle.workflow.specs.First.{found_in}
use Rattle.answer.proofs.Found.{plan_staffed}
use Rattle.tables.proofs.Posing.{posed_first}
use Rattle.tables.proofs.Same.{permits}
use Rattle.crew.proofs.plan_job.Goals as goal

pub may_masks-may-requires : goal.may_masks-may-requires
may_masks-may-requires c = let r = c.requires in (r.sized.permitted, r.people_most)

pub first_plan-requires : goal.first_plan-requires
first_plan-requires c = (c.pose.ensures.ready, c.may_masks-may.ensures.size)

pub returns : goal.returns
returns c =
    let r = c.requires in
    let w = c.pose.ensures in
    let first = posed_first w (permits _ _ _ r.steps_most c.may_masks-may.ensures) ∙ c.first_plan.ensures
    ∙ ap (λ (n : ℕ). found_in n c.first_plan.result) w.same.steps in
    (first, plan_staffed r c.first_plan.result first (λ p e. search rules))
