-- What a readable sheet is, and that its job has what stands on its cards. Assumes nothing.
use mathlib.Core.Path.{sym, ◌∙◌, subst}
use Prim.Native.Nat.{ℕ, ◌<◌}
use native.Mathlib.Omega.{arith}
use Rattle.card.specs.Fields.{class_levels, tag_of, class_of}
use Rattle.card.proofs.Levels.{field_used, field_unused}
use Rattle.sheet.specs.Answer.{job_of}
use Rattle.sheet.specs.Faults.{cards_in}
use Rattle.sheet.proofs.Fill.{get_d_table}
use Rattle.sheet.proofs.InOrder.{person_fields, step_in_order, rule_fields}
use Rattle.sheet.proofs.NoFault.{readable_no_fault, no_fault_readable}
use Rattle.sheet.proofs.Chains.{chains}
use Rattle.sheet.proofs.Passes.{sheet_passes}
use Rattle.sheet.proofs.Readable.{readable_job, person_card, step_card, rule_card, same_above, sheet_levels}
use Rattle.remaining.proofs.KeptLaws.{kept_below_lem, kept_remains, kept_ordered, kept_every}
use Rattle.remaining.proofs.Laws.{steps_left-length}
use Rattle.remaining.specs.Remaining.{skipped_at}
use lib.ListN.{length, get_or}
use Rattle.instance.proofs.Marked.{marked_fits}
use Rattle.fulmarinvar.specs.Demands as demands

pub readable_exactly : demands.ReadableExactly
readable_exactly s = (λ w. readable_no_fault s w.0 w.1 w.2 w.3, no_fault_readable s)

pub jobs_of_cards : demands.JobsOfCards
unfolding job_of
jobs_of_cards s people steps rules e =
    let w = (sheet_passes s people steps rules e).rest in
    let few = sheet_levels s people steps rules e in
    let r = readable_job s people steps rules (cards_in s) w few in
    record {
      chains = chains s (cards_in s) people steps rules w;
      person_tag = λ p l. subst (λ (x : ℕ). 0 < x) (get_d_table 64 (tag_of s) people p l) (r.person p l).tag;
      step_tag = λ t l. subst (λ (x : ℕ). 0 < x) (get_d_table 12 (tag_of s) steps t l) (r.step_tag t l);
      person_tags = λ p q l m d.
          r.person_tags p q l m (get_d_table 64 (tag_of s) people p (omega arith) ∙ d ∙ sym (get_d_table 64 (tag_of s) people q m));
      step_tags = λ t u l m d.
          r.step_tags t u l m (get_d_table 12 (tag_of s) steps t (omega arith) ∙ d ∙ sym (get_d_table 12 (tag_of s) steps u m));
      marked = λ t l. (step_in_order s (get_or steps t 0) (step_card s people steps rules (cards_in s) w t l)).skipped;
      fits = marked_fits s people steps rules e;
      levels_from = few.0;
      levels_to = few.1;
      used = λ p q l a b.
          field_used (class_levels s) q (class_of s q (get_or people p 0))
          ((person_fields s (get_or people p 0) (person_card s people steps rules (cards_in s) w p l)).3 q a (omega (arith, few.1))) b;
      unused = λ p q l a b.
          field_unused (class_levels s) q (class_of s q (get_or people p 0))
          ((person_fields s (get_or people p 0) (person_card s people steps rules (cards_in s) w p l)).3 q (omega arith) b) a;
      level_from = λ i l. (rule_fields s (get_or rules i 0) (length steps) (rule_card s people steps rules (cards_in s) w i l)).1;
      level_to = λ i l. (rule_fields s (get_or rules i 0) (length steps) (rule_card s people steps rules (cards_in s) w i l)).2;
      nested = same_above s people steps rules (cards_in s) w;
    }

pub steps_remain : demands.StepsRemain
steps_remain s steps =
    let n = steps_left-length s steps in
    record {
      on_chain = λ k l. kept_below_lem (skipped_at s steps) (length steps) k (omega (arith, n));
      remains = λ k l. kept_remains (skipped_at s steps) (length steps) k (omega (arith, n));
      ordered = λ k m a b. kept_ordered (skipped_at s steps) (length steps) k m a (omega (arith, n));
      every = λ t l h. let k = kept_every (skipped_at s steps) (length steps) t l h in (k.0, omega (arith, k.1, n), k.2);
    }
