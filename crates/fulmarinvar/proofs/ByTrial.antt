-- The engine that tries every plan: the same answers, all plans in order, the first valid one taken, and what is wrong with the others. Assumes nothing.
use mathlib.Core.Bool.{not}
use Rattle.std.specs.Prelude.{Some, None}
use mathlib.Core.Path.{sym, ap, ◌∙◌}
use Prim.Native.Nat.{suc}
use native.Mathlib.Omega.{arith}
use borrow.Author.Tests.{not-true, not-false}
use Rattle.bits.proofs.Below.{true-false, first-le, first_has, first_none}
use Rattle.workflow.specs.First.{plan_of, first_plan}
use Rattle.workflow.proofs.First.{first_plan_nothing}
use Rattle.workflow.proofs.Valid.{met_sound, met_complete}
use Rattle.instance.specs.Instance.{instance_in, may_do}
use Rattle.exhaustive.specs.Order.{plan_number}
use Rattle.exhaustive.specs.Trial.{plans_tried}
use Rattle.exhaustive.proofs.Order.{number_first, number_last, number_below, number_every, number_once, number_order, number_earlier}
use Rattle.exhaustive.proofs.Trying.{word_small, plans_tried_most, tried_found, tried_none, tried_first}
use Rattle.exhaustive.proofs.Validity.{none_valid}
use Rattle.fulmarinvar.specs.ByTrial.{SameAnswers, AllPlans, TakesFirstValid, tried_read, TriedPrinted, Verdicts}

pub same_answers : SameAnswers
same_answers sheet buffer number by-trial left left-by-trial a b = (b.returned ∙ sym a.returned, b.bytes ∙ sym a.bytes)

pub all_plans : AllPlans
all_plans people steps =
    record {
      first = number_first people steps;
      last = number_last people steps;
      below = number_below people steps;
      every = number_every people steps;
      once = number_once people steps;
      order = λ σ π g h. (number_order people steps σ π g, number_earlier people steps σ π h);
    }

pub takes_first_valid : TakesFirstValid
takes_first_valid j may (Some plan) tried t =
    let v = tried_first t in (
      v,
      λ few. let n = number_below j.people j.steps (plan_of plan) v.valid.within in
          tried_found t ∙ sym (word_small (suc (plan_number j.people j.steps (plan_of plan))) (omega (arith, n, few))),
    )
takes_first_valid j may None tried t = (first_plan_nothing j may t.first, λ few. tried_none t ∙ sym (word_small _ few))

pub tried_printed : TriedPrinted
unfolding tried_read
tried_printed s people steps rules e few plan tried t =
    let j = instance_in s people steps rules in
    let may = may_do s people steps rules in
    t.count ∙ sym (word_small (plans_tried j (first_plan j may)) (omega (arith, few, plans_tried_most j may))) ∙ sym (ap (tried_read s) e)

pub verdicts : Verdicts
verdicts j may π within =
    record {
      denied = λ l.
          record {
            below = l;
            denied = not-true _ (first_has j.steps (λ s. not (may s (π s))) l);
            before = λ t b. not-false _ (first_none j.steps (λ s. not (may s (π s))) t b);
          };
      breaks = λ l.
          record {
            below = l;
            broken = λ m. true-false (met_complete j _ π m) (not-true _ (first_has j.rules _ l));
            before = λ k b. met_sound j _ π (not-false _ (first_none j.rules _ k b));
          };
      valid = λ a b.
          none_valid j may π within (omega (arith, a, first-le j.steps (λ s. not (may s (π s))))) (omega (arith, b));
    }
