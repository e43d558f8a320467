-- The definitions of the edition before Ask 6, which knew version 1 sheets alone: shop, bench and person. Marks of steps (Ask 5) and kinds of rules (Ask 7) are as they
-- are now: both are the same in version 2. What follows a reading is said of any
-- problem (`crew_for`, `spare_for`, `if_plan`, `sign_for`); here it is said of the one that this edition posed. Levels.antt says that the calls still give
-- this for every sheet that is not of version 2. Assumes nothing.
use Rattle.std.specs.Prelude.{Bool, false, not, cond, ◌&&◌, List, [], ℕ, zero, suc, ◌/◌, eqb, ltb, length, get_or}
use Rattle.bits.specs.Member.{member}
use Rattle.card.specs.Layout.{card_byte, card_word, card_long, kind_of, next_of, header_kind, person_kind, step_kind, rule_kind_lem}
use Rattle.card.specs.Fields.{within, nonzero, only_below_lem, first_person, first_step_lem, first_rule, tag_of, permitted_of, step_ok, rule_kind_of, level_of, limit_of, scope_of, scope_size, limit_ok}
use Rattle.card.specs.Refusals.{length_fault, header_fault, field_fault, count_fault, cap_fault, tag_fault, class_fault, loose_fault, unknown_fault}
use Rattle.chain.specs.Walk.{Chain, walk}
use Rattle.sheet.specs.Answer.{table}
use Rattle.sheet.specs.Read.{Read, job, fault, along, unless, unless_at, length_ok, is_empty, first_clash, same_tag, first_late, first_loose, on_two, on_three, most_people, most_steps, most_rules}
use Rattle.remaining.specs.Remaining.{steps_left, job_left}
use Rattle.workflow.specs.Problem.{Job}
use Rattle.workflow.specs.First.{first_plan}
use Rattle.workflow.specs.Numbered.{card_rule}
use Rattle.instance.specs.Instance.{may_do}
use Rattle.answer.specs.Bytes.{Outcome, refused}
use Rattle.answer.specs.Crew.{crew_for}
use Rattle.resiliency.specs.Spare.{cap_limit, spare_for}
use Rattle.signing.specs.Open.{refused_opening, if_plan}
use Rattle.signing.specs.Sign.{refused_signing, sign_for}
use Rattle.signing.specs.State.{Answered, held}
use Rattle.signing.specs.declared.JobState.{JobState}

-- ---- the cards

-- "Header, card 0: byte 1 is 1, next is 0; bytes 4-5, 6-7 and 8-9 are the first person, step and rule, zero for an empty chain; bytes
-- 10-11 the number of cards in the file." "Bytes not named below are zero."
abbrev pub header_first : List ℕ → ℕ → Bool
header_first s n =
    eqb (kind_of s 0) header_kind
    && eqb (card_byte s 0 1) 1
    && eqb (next_of s 0) 0
    && eqb (card_word s 0 10) n
    && eqb (card_long s 0 12) 0

-- "8-9 shop; 10-11 bench"
abbrev pub shop_of : List ℕ → ℕ → ℕ
shop_of s c = card_word s c 8

abbrev pub bench_of : List ℕ → ℕ → ℕ
bench_of s c = card_word s c 10

-- "Tag, shop and bench are not zero." "A person's permitted bits 12 to 15 are tested on the card."
abbrev pub person_first : List ℕ → ℕ → Bool
person_first s c =
    eqb (card_byte s c 1) 0
    && nonzero (tag_of s c)
    && nonzero (shop_of s c)
    && nonzero (bench_of s c)
    && only_below_lem 12 (permitted_of s c)
    && eqb (card_word s c 14) 0

-- "Rule: byte 1 rule kind 1 to 4; byte 4 level 1 to 3"; "Rule kind 5, in both versions"
abbrev pub rule_first : List ℕ → ℕ → ℕ → Bool
rule_first s steps c =
    limit_ok (rule_kind_of s c) (limit_of s c) (scope_size (scope_of s c))
    && within 1 3 (level_of s c)
    && only_below_lem steps (scope_of s c)
    && eqb (card_long s c 8) 0
    && eqb (card_long s c 12) 0

abbrev pub fields_first : List ℕ → ℕ → ℕ → ℕ → Bool
fields_first s steps kind c =
    cond (eqb kind person_kind) (person_first s c) (cond (eqb kind step_kind) (step_ok s c) (rule_first s steps c))

-- ---- reading

abbrev pub chain_first : List ℕ → ℕ → ℕ → ℕ → (ℕ → Bool) → Chain
chain_first s cards kind steps before =
    record {
      cards = cards;
      mine = λ c. eqb (kind_of s c) kind;
      fields = fields_first s steps kind;
      next = next_of s;
      before = before;
    }

-- "Two people on one bench are in one shop"
abbrev pub bench_moved : List ℕ → List ℕ → ℕ → ℕ → Bool
bench_moved s l j k =
    eqb (bench_of s (get_or l j 0)) (bench_of s (get_or l k 0)) && not (eqb (shop_of s (get_or l j 0)) (shop_of s (get_or l k 0)))

-- "Then 10 (people, then steps), 11, 12"
abbrev pub checked_first : List ℕ → ℕ → List ℕ → List ℕ → List ℕ → Read
checked_first s n people steps rules =
    unless_at people (first_clash (length people) (same_tag s people)) tag_fault
    (unless_at steps (first_clash (length steps) (same_tag s steps)) tag_fault
    (unless_at people (first_clash (length people) (bench_moved s people)) class_fault
    (let c : ℕ = first_loose n (on_three people steps rules) in
    unless (ltb c n) loose_fault c (job people steps rules))))

abbrev pub steps_read_first : List ℕ → ℕ → List ℕ → List ℕ → Read
steps_read_first s n people steps =
    unless (is_empty steps) count_fault 0
    (unless_at people (first_late s (length steps) people) field_fault
    (along (walk (chain_first s n rule_kind_lem (length steps) (on_two people steps)) most_rules [] 0 (first_rule s)) (λ rules. checked_first s n people steps rules)))

abbrev pub people_read_first : List ℕ → ℕ → List ℕ → Read
people_read_first s n people =
    unless (is_empty people) count_fault 0
    (along (walk (chain_first s n step_kind 0 (member people)) most_steps [] 0 (first_step_lem s)) (λ steps. steps_read_first s n people steps))

-- "Order: 2, 3, 4; people, steps, rules chain."
abbrev pub read_first : List ℕ → Read
read_first s =
    unless (not (length_ok (length s))) length_fault 0
    (unless (not (header_first s (length s / 16))) header_fault 0
    (along (walk (chain_first s (length s / 16) person_kind 0 (λ c. false)) most_people [] 0 (first_person s)) (λ people. people_read_first s (length s / 16) people)))

-- ---- the problem

-- "Level 1 is the shop, 2 the bench, 3 the person.": of level and person
abbrev pub class_first : List ℕ → List ℕ → ℕ → ℕ → ℕ
class_first s people zero p = p
class_first s people (suc zero) p = get_or (table 64 (shop_of s) people) p 0
class_first s people (suc (suc zero)) p = get_or (table 64 (bench_of s) people) p 0
class_first s people (suc (suc (suc q))) p = p

abbrev pub problem_first : List ℕ → List ℕ → List ℕ → List ℕ → Job
problem_first s people steps rules =
    let j = job_left s people steps rules in
    record {
      steps = length (steps_left s steps);
      people = length people;
      levels = 3;
      class = class_first s people;
      rules = length rules;
      rule = card_rule (length (steps_left s steps)) j.rule_kind j.rule_level j.rule_limit j.rule_scope;
    }

-- ---- the calls

abbrev pub crew_read_first : List ℕ → List ℕ → Read → Outcome
crew_read_first s buffer (job people steps rules) =
    crew_for (problem_first s people steps rules) (length (steps_left s steps)) (job_left s people steps rules) buffer
crew_read_first s buffer (fault f c) = refused f c buffer

abbrev pub crew_first : List ℕ → List ℕ → Outcome
crew_first s buffer = crew_read_first s buffer (read_first s)

abbrev pub spare_read_first : ℕ → List ℕ → List ℕ → Read → Outcome
spare_read_first cap s buffer (job people steps rules) = spare_for cap (problem_first s people steps rules) (job_left s people steps rules) buffer
spare_read_first cap s buffer (fault f c) = refused f c buffer

abbrev pub spare_first : ℕ → List ℕ → List ℕ → Outcome
spare_first cap s buffer =
    let rest : Outcome = spare_read_first cap s buffer (read_first s) in
    cond (ltb cap_limit cap) (refused cap_fault 0 buffer) rest

abbrev pub open_read_first : JobState → List ℕ → Read → Answered
open_read_first j s (job people steps rules) = if_plan s j (first_plan (problem_first s people steps rules) (may_do s people steps rules))
open_read_first j s (fault f c) = refused_opening f c j

abbrev pub open_first : JobState → List ℕ → Answered
open_first j s = open_read_first j s (read_first s)

abbrev pub sign_read_first : JobState → ℕ → ℕ → Read → Answered
sign_read_first j step person (job people steps rules) =
    sign_for (problem_first (held j) people steps rules) (length people) (length (steps_left (held j) steps)) (job_left (held j) people steps rules) j step person
sign_read_first j step person (fault f c) = refused_signing unknown_fault j

abbrev pub sign_first : JobState → ℕ → ℕ → Answered
sign_first j step person = sign_read_first j step person (read_first (held j))
