-- The day goes as stated, computed from the sheet's bytes. Assumes nothing.
use mathlib.Core.List.{List, [], ◌∷◌}
use mathlib.Core.Path.{refl}
use Rattle.bits.specs.Below.{all, any, count, first}
use Rattle.bits.specs.Member.{member}
use Rattle.card.specs.Fields.{form_ok, header_ok, class_levels, class_field_ok, person_ok, step_ok, rule_ok, limit_ok, fields_ok}
use Rattle.chain.specs.Walk.{walk, first_fault}
use Rattle.sheet.specs.Read.{read_sheet, read_people, people_read, steps_read, checked, first_clash, first_late, first_loose}
use Rattle.sheet.specs.Answer.{job_of, class_columns, table}
use Rattle.remaining.specs.Kept.{kept_below, gather}
use Rattle.remaining.specs.Remaining.{job_over}
use Rattle.workflow.specs.Problem.{opens, distinct, load_of, largest, largest_load, fewest, authorised_test, eligible_test, valid}
use Rattle.workflow.specs.First.{first_plan, first_of, try_all}
use Rattle.signing.specs.Open.{if_plan, open_read}
use Rattle.signing.specs.Sign.{place_of, decided, sign_of, sign_read}
use Rattle.signing.specs.State.{held, opened}
use Rattle.fulmarinvar.specs.Day.{day, after, Returned, DayGoes}
use Rattle.fulmarinvar.specs.History.{Event, opening, signing, History}

-- calls that return their numbers are a history
returned_history : (h : List Event) → Returned h → History h (after h)
returned_history [] r = refl
returned_history (opening s n ∷ h) r = (after h, returned_history h r.1, record { returned = r.0; job_left_lem = refl })
returned_history (signing a b n ∷ h) r = (after h, returned_history h r.1, record { returned = r.0; job_left_lem = refl })

pub day_goes : DayGoes
unfolding all any count first form_ok header_ok class_levels class_field_ok person_ok step_ok rule_ok limit_ok fields_ok walk member first_fault read_sheet read_people people_read steps_read checked first_clash first_late
    first_loose job_of class_columns table kept_below gather job_over opens distinct load_of largest largest_load fewest authorised_test eligible_test valid first_plan first_of try_all if_plan open_read place_of decided sign_of sign_read held opened
day_goes =
    record {
      history = returned_history day (refl, (refl, (refl, (refl, (refl, (refl, (refl, (refl, (refl, tt)))))))));
      refusals = refl;
      signer = refl;
    }
