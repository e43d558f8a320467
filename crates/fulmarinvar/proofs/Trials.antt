-- Every row of the table of starred sheets holds, computed from the sheets' bytes. Assumes nothing.
use mathlib.Core.Path.{refl}
use Rattle.bits.specs.Below.{all, any, count, first}
use Rattle.bits.specs.Member.{member}
use Rattle.card.specs.Fields.{form_ok, header_ok, class_levels, class_field_ok, person_ok, step_ok, rule_ok, limit_ok, fields_ok}
use Rattle.chain.specs.Walk.{walk, first_fault}
use Rattle.sheet.specs.Read.{read_sheet, read_people, people_read, steps_read, checked, first_clash, first_late, first_loose}
use Rattle.sheet.specs.Answer.{job_of, class_columns, table}
use Rattle.remaining.specs.Kept.{kept_below, gather}
use Rattle.remaining.specs.Remaining.{job_over}
use Rattle.workflow.specs.Problem.{opens, distinct, load_of, largest, largest_load, fewest, authorised_test, eligible_test, valid}
use Rattle.workflow.specs.First.{first_plan, first_of, try_all}
use Rattle.instance.specs.Instance.{crew_tags}
use Rattle.answer.specs.Bytes.{written}
use Rattle.answer.specs.Crew.{planned, crew_of, crew_read}
use Rattle.resiliency.specs.Away.{breaking, increasing}
use Rattle.resiliency.specs.Count.{spare, first_breaking}
use Rattle.resiliency.specs.Count as counts
use Rattle.resiliency.specs.Spare.{away_tags, spare_bytes, spare_of, spare_read, spare_answer}
use Rattle.exhaustive.specs.Order.{plan_number}
use Rattle.fulmarinvar.specs.ByTrial.{tried_read}
use Rattle.fulmarinvar.specs.RuleCounts.{lines_below, lines_found, lines_read}
use Rattle.fulmarinvar.specs.Trials.{All, trials, AnsweredBefore}

pub trials_hold : All trials
unfolding all any count first form_ok header_ok class_levels class_field_ok person_ok step_ok rule_ok limit_ok fields_ok walk member first_fault read_sheet read_people people_read steps_read checked first_clash first_late
    first_loose job_of class_columns table kept_below gather job_over opens distinct load_of largest largest_load fewest authorised_test eligible_test valid first_plan first_of try_all crew_tags written
    planned crew_of crew_read breaking increasing spare first_breaking counts.count_from away_tags spare_bytes spare_of spare_read spare_answer lines_below lines_found lines_read tried_read plan_number
trials_hold = ((refl, refl, refl, (refl, (refl, tt))), ((refl, refl, refl, (refl, tt)), ((refl, refl, refl, (refl, tt)), ((refl, refl, refl, (refl, tt)), ((refl, refl, refl, (refl, tt)), ((refl, refl, refl, (refl, tt)), ((refl, refl, refl, (refl, tt)), ((refl, refl, refl, (refl, tt)), ((refl, refl, refl, (refl, tt)), ((refl, refl, refl, (refl, tt)), ((refl, refl, refl, (refl, (refl, tt))), ((refl, refl, refl, (refl, tt)), ((refl, refl, refl, (refl, tt)), ((refl, refl, refl, (refl, tt)), ((refl, refl, refl, (refl, tt)), ((refl, refl, refl, (refl, tt)), ((refl, refl, refl, (refl, tt)), ((refl, refl, refl, (refl, tt)), ((refl, refl, refl, (refl, tt)), tt)))))))))))))))))))

pub answered_before : AnsweredBefore
unfolding walk
answered_before = (refl, refl)
