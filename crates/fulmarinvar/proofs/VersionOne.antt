-- A sheet that is not of version 2 means what it meant: each call gives the number and the bytes of the edition before. Assumes nothing.
use mathlib.Core.Bool.{Bool, true, false, not, cond, ◌&&◌, ◌||◌}
use mathlib.Core.List.{List, []}
use mathlib.Core.Path.{◌≡◌, refl, sym, ◌∙◌, ap, subst, fun_ext}
use Prim.Native.Nat.{ℕ, zero, suc, ◌+◌, ◌-◌, ◌/◌, ◌≤◌}
use native.Mathlib.Omega.{arith}
use lib.Dec.{eqb, ltb}
use lib.ListN.{length, get_or}
use borrow.Author.Tests.{eqb-true, eqb-false, eq-eqb, ne_eqb}
use Rattle.bits.specs.Below.{any}
use Rattle.bits.specs.Member.{member}
use Rattle.bits.specs.Sizes.{most_class_levels}
use Rattle.bits.proofs.Below.{by_cases, and_left, and_right}
use Rattle.bits.proofs.Counting.{bool_ext}
use Rattle.card.specs.Layout.{card_byte, card_word, card_long, kind_of, next_of, header_kind, person_kind, step_kind, rule_kind_lem}
use Rattle.card.specs.Fields.{version_of, levels_byte, form_ok, header_ok, class_levels, class_of, class_field_ok, person_ok, step_ok, rule_ok, fields_ok, within, nonzero, only_below_lem, first_person, first_step_lem, first_rule, tag_of, permitted_of, rule_kind_of, level_of, limit_of, scope_of, scope_size, limit_ok}
use Rattle.card.specs.Refusals.{length_fault, header_fault, field_fault, count_fault, cap_fault, tag_fault, class_fault, loose_fault}
use Rattle.card.proofs.Levels.{first_levels}
use Rattle.card.proofs.Zeros.{word-zero, zero_word, long-zero, zero-long}
use Rattle.chain.proofs.Alike.{AlikeChains, walk_alike}
use Rattle.chain.specs.Answer.{chain_of}
use Rattle.chain.specs.Walk.{walk}
use Rattle.sheet.specs.Read.{Read, job, fault, unless, unless_at, length_ok, is_empty, first_clash, same_tag, same_class_lem, class_moved, first_late, first_loose, on_two, on_three, most_people, most_steps, most_rules, checked, steps_read, people_read, read_people, read_sheet, people_walk, steps_walk, rules_walk}
use Rattle.sheet.proofs.Chains.{chains}
use Rattle.sheet.proofs.Passes.{sheet_passes}
use Rattle.remaining.specs.Remaining.{steps_left, job_left}
use Rattle.remaining.proofs.Laws.{levels_left, column_left}
use Rattle.workflow.specs.Problem.{Job}
use Rattle.workflow.specs.First.{first_plan}
use Rattle.instance.specs.Instance.{class_at, class_number, instance_in, may_do}
use Rattle.instance.proofs.Classes.{class_person, past_classes}
use Rattle.answer.specs.Bytes.{Outcome, refused}
use Rattle.answer.specs.Crew.{crew_for, crew_of, crew_read, crew_answer}
use Rattle.resiliency.specs.Spare.{cap_limit, spare_for, spare_of, spare_read, spare_answer}
use Rattle.signing.specs.Open.{if_plan, open_read, open_answer}
use Rattle.signing.specs.Sign.{sign_for, sign_of, sign_read, sign_answer}
use Rattle.signing.specs.State.{Answered, held}
use Rattle.signing.specs.declared.JobState.{JobState}
use Rattle.fulmarinvar.specs.FirstEdition as before
use Rattle.fulmarinvar.specs.Levels as demands
use Rattle.fulmarinvar.proofs.Alike.{along_alike}

-- ---- tests in another order

-- the header: byte 12 is tested with the version, and was with bytes 13 to 15
header_order : (k a b n c y z : Bool) → k && ((a && b) || false) && n && c && y && z ≡ k && a && n && c && (b && y && z)
header_order false a b n c y z = refl
header_order true false b n c y z = refl
header_order true true false false c y z = refl
header_order true true false true false y z = refl
header_order true true false true true y z = refl
header_order true true true false c y z = refl
header_order true true true true false y z = refl
header_order true true true true true y z = refl

-- a person: the permitted bits are tested before the classes, and were tested after
person_order : (a t p x y z : Bool) → a && t && p && (x || false) && (y || false) && z ≡ a && t && x && y && p && z
person_order false t p x y z = refl
person_order true false p x y z = refl
person_order true true false false y z = refl
person_order true true false true false z = refl
person_order true true false true true z = refl
person_order true true true false y z = refl
person_order true true true true false z = refl
person_order true true true true true z = refl

module _ (s : List ℕ) (old : version_of s ≡ 2 → ⊥) where
  two : class_levels s ≡ 2
  two = sym (first_levels s old)

  -- ---- the cards

  -- bytes 12 to 15 of the header as one number
  four_zero : eqb (levels_byte s) 0 && eqb (card_byte s 0 13) 0 && eqb (card_word s 0 14) 0 ≡ eqb (card_long s 0 12) 0
  four_zero =
      bool_ext (eqb (levels_byte s) 0 && eqb (card_byte s 0 13) 0 && eqb (card_word s 0 14) 0) (eqb (card_long s 0 12) 0)
      (λ h.
      let l = and_left (eqb (levels_byte s) 0 && eqb (card_byte s 0 13) 0) (eqb (card_word s 0 14) 0) h in
      let x : levels_byte s ≡ 0 = eqb-true _ _ (and_left (eqb (levels_byte s) 0) (eqb (card_byte s 0 13) 0) l) in
      let y : card_byte s 0 13 ≡ 0 = eqb-true _ _ (and_right (eqb (levels_byte s) 0) (eqb (card_byte s 0 13) 0) l) in
      let z : card_word s 0 14 ≡ 0 = eqb-true _ _ (and_right (eqb (levels_byte s) 0 && eqb (card_byte s 0 13) 0) (eqb (card_word s 0 14) 0) h) in
      eq-eqb (card_long s 0 12) 0
      (zero-long s 0 12
      (λ b m n. by_cases (eqb b 12)
      (λ t. subst (λ (i : ℕ). card_byte s 0 i ≡ 0) (sym (eqb-true b 12 t)) x)
      (λ t. by_cases (eqb b 13)
      (λ u. subst (λ (i : ℕ). card_byte s 0 i ≡ 0) (sym (eqb-true b 13 u)) y)
      (λ u. let d = eqb-false b 12 t in let f = eqb-false b 13 u in word-zero s 0 14 z b (omega arith) (omega arith))))))
      (λ h.
      let e = long-zero s 0 12 (eqb-true (card_long s 0 12) 0 h) in
      let z : card_word s 0 14 ≡ 0 = zero_word s 0 14 (λ b l m. e b (omega arith) (omega arith)) in
      rw (eq-eqb _ _ (e 12 (omega arith) (omega arith)), eq-eqb _ _ (e 13 (omega arith) (omega arith)), eq-eqb _ _ z) refl)

  header_same : (n : ℕ) → header_ok s n ≡ before.header_first s n
  unfolding header_ok form_ok
  header_same n =
      ap (λ (b : Bool).
      eqb (kind_of s 0) header_kind && ((eqb (version_of s) 1 && eqb (levels_byte s) 0) || (b && within 1 3 (levels_byte s))) && eqb (next_of s 0) 0
      && eqb (card_word s 0 10) n && eqb (card_byte s 0 13) 0 && eqb (card_word s 0 14) 0)
      (ne_eqb (version_of s) 2 old)
      ∙ header_order (eqb (kind_of s 0) header_kind) (eqb (version_of s) 1) (eqb (levels_byte s) 0) (eqb (next_of s 0) 0) (eqb (card_word s 0 10) n)
      (eqb (card_byte s 0 13) 0) (eqb (card_word s 0 14) 0)
      ∙ ap (λ (b : Bool). eqb (kind_of s 0) header_kind && eqb (version_of s) 1 && eqb (next_of s 0) 0 && eqb (card_word s 0 10) n && b) four_zero

  person_same : (c : ℕ) → person_ok s c ≡ before.person_first s c
  unfolding person_ok class_field_ok
  person_same c =
      ap (λ (n : ℕ).
      eqb (card_byte s c 1) 0 && nonzero (tag_of s c) && only_below_lem 12 (permitted_of s c) && class_field_ok n 1 (class_of s 1 c) && class_field_ok n 2 (class_of s 2 c)
      && class_field_ok n 3 (class_of s 3 c))
      two
      ∙ person_order (eqb (card_byte s c 1) 0) (nonzero (tag_of s c)) (only_below_lem 12 (permitted_of s c)) (nonzero (before.shop_of s c)) (nonzero (before.bench_of s c))
      (eqb (card_word s c 14) 0)

  rule_same : (steps c : ℕ) → rule_ok s steps c ≡ before.rule_first s steps c
  unfolding rule_ok
  rule_same steps c =
      ap (λ (n : ℕ).
      limit_ok (rule_kind_of s c) (limit_of s c) (scope_size (scope_of s c)) && within 1 (n + 1) (level_of s c) && only_below_lem steps (scope_of s c)
      && eqb (card_long s c 8) 0 && eqb (card_long s c 12) 0)
      two

  fields_same : (steps kind c : ℕ) → fields_ok s steps kind c ≡ before.fields_first s steps kind c
  unfolding fields_ok
  fields_same steps kind c =
      λ t. cond (eqb kind person_kind) (person_same c t) (cond (eqb kind step_kind) (step_ok s c) (rule_same steps c t))

  -- ---- reading

  chain_same : (cards kind steps : ℕ) (reached : ℕ → Bool) → AlikeChains (chain_of s cards kind steps reached) (before.chain_first s cards kind steps reached)
  chain_same cards kind steps reached =
      record {
        cards = refl;
        mine = λ c l. refl;
        fields = λ c l. fields_same steps kind c;
        next = λ c l. refl;
        before = λ c. refl;
      }

  moved_same : (l : List ℕ) (j k : ℕ) → class_moved s l j k ≡ before.bench_moved s l j k
  unfolding any
  moved_same l j k = ap (λ (n : ℕ). any (n - 1) (λ q. same_class_lem s l (suc (suc q)) j k && not (same_class_lem s l (suc q) j k))) two

  checked_same : (n : ℕ) (people steps rules : List ℕ) → checked s n people steps rules ≡ before.checked_first s n people steps rules
  unfolding checked
  checked_same n people steps rules =
      ap (λ (f : ℕ → ℕ → Bool).
      unless_at people (first_clash (length people) (same_tag s people)) tag_fault
      (unless_at steps (first_clash (length steps) (same_tag s steps)) tag_fault
      (unless_at people (first_clash (length people) f) class_fault
      (let c : ℕ = first_loose n (on_three people steps rules) in
      unless (ltb c n) loose_fault c (job people steps rules)))))
      (fun_ext (λ j. fun_ext (λ k. moved_same people j k)))

  steps_same : (n : ℕ) (people steps : List ℕ) → steps_read s n people steps ≡ before.steps_read_first s n people steps
  unfolding steps_read
  steps_same n people steps =
      ap (λ (r : Read). unless (is_empty steps) count_fault 0 (unless_at people (first_late s (length steps) people) field_fault r))
      (along_alike (rules_walk s n people steps (length steps)) (walk (before.chain_first s n rule_kind_lem (length steps) (on_two people steps)) most_rules [] 0 (first_rule s))
      (checked s n people steps) (before.checked_first s n people steps) (walk_alike (chain_same n rule_kind_lem (length steps) (on_two people steps)) most_rules [] 0 (first_rule s))
      (λ rules d. checked_same n people steps rules))

  people_same : (n : ℕ) (people : List ℕ) → people_read s n people ≡ before.people_read_first s n people
  unfolding people_read
  people_same n people =
      ap (unless (is_empty people) count_fault 0)
      (along_alike (steps_walk s n people) (walk (before.chain_first s n step_kind 0 (member people)) most_steps [] 0 (first_step_lem s)) (steps_read s n people)
      (before.steps_read_first s n people) (walk_alike (chain_same n step_kind 0 (member people)) most_steps [] 0 (first_step_lem s)) (λ steps d. steps_same n people steps))

  read_same : read_sheet s ≡ before.read_first s
  unfolding read_sheet read_people
  read_same =
      let n = length s / 16 in
      let rest =
      along_alike (people_walk s n) (walk (before.chain_first s n person_kind 0 (λ c. false)) most_people [] 0 (first_person s)) (people_read s n) (before.people_read_first s n)
      (walk_alike (chain_same n person_kind 0 (λ c. false)) most_people [] 0 (first_person s)) (λ people d. people_same n people) in
      λ t. unless (not (length_ok (length s))) length_fault 0 (unless (not (header_same n t)) header_fault 0 (rest t))

  -- ---- the problem

  module _ (people steps rules : List ℕ) (read : read_sheet s ≡ job people steps rules) where
    few : length people ≤ 64
    few = (chains s (length s / 16) people steps rules (sheet_passes s people steps rules read).rest).people_chain.short

    deep : class_levels s ≤ most_class_levels
    deep = omega (arith, two)

    three : (job_left s people steps rules).levels ≡ 3
    three = levels_left s people steps rules ∙ ap (λ (n : ℕ). n + 1) two

    class_at_lem : (q p : ℕ) → class_at 3 (job_left s people steps rules).class q p ≡ before.class_first s people q p
    class_at_lem zero p = refl
    class_at_lem (suc zero) p = ap (λ (x : List ℕ). get_or x p 0) (column_left s people steps rules few deep 1 (omega arith) (omega (arith, two)))
    class_at_lem (suc (suc zero)) p = ap (λ (x : List ℕ). get_or x p 0) (column_left s people steps rules few deep 2 (omega arith) (omega (arith, two)))
    class_at_lem (suc (suc (suc q))) p =
        sym (class_person 3 (job_left s people steps rules).class (suc (suc (suc q))) p (past_classes 3 (suc (suc (suc q))) (omega arith)))

    class_same : (q p : ℕ) → class_number (job_left s people steps rules) q p ≡ before.class_first s people q p
    class_same q p = ap (λ (n : ℕ). class_at n (job_left s people steps rules).class q p) three ∙ class_at_lem q p

    problem_same : instance_in s people steps rules ≡ before.problem_first s people steps rules
    problem_same =
        let j = instance_in s people steps rules in
        λ t. record { steps = j.steps; people = j.people; levels = three t; class = λ q p. class_same q p t; rules = j.rules; rule = j.rule }

  -- ---- the calls

  crew_same : (buffer : List ℕ) → crew_answer s buffer ≡ before.crew_first s buffer
  unfolding crew_read crew_of
  crew_same buffer = go (read_sheet s) refl ∙ ap (before.crew_read_first s buffer) read_same
    where
      go : (r : Read) → read_sheet s ≡ r → crew_read s buffer r ≡ before.crew_read_first s buffer r
      go (job people steps rules) e =
          ap (λ (problem : Job). crew_for problem (length (steps_left s steps)) (job_left s people steps rules) buffer) (problem_same people steps rules e)
      go (fault f c) e = refl

  spare_read_same : (cap : ℕ) (buffer : List ℕ) → spare_read cap s buffer (read_sheet s) ≡ before.spare_read_first cap s buffer (before.read_first s)
  unfolding spare_read spare_of
  spare_read_same cap buffer = go (read_sheet s) refl ∙ ap (before.spare_read_first cap s buffer) read_same
    where
      go : (r : Read) → read_sheet s ≡ r → spare_read cap s buffer r ≡ before.spare_read_first cap s buffer r
      go (job people steps rules) e = ap (λ (problem : Job). spare_for cap problem (job_left s people steps rules) buffer) (problem_same people steps rules e)
      go (fault f c) e = refl

  spare_same : (cap : ℕ) (buffer : List ℕ) → spare_answer cap s buffer ≡ before.spare_first cap s buffer
  unfolding spare_answer
  spare_same cap buffer = ap (cond (ltb cap_limit cap) (refused cap_fault 0 buffer)) (spare_read_same cap buffer)

  open_same : (j : JobState) → open_answer j s ≡ before.open_first j s
  unfolding open_read
  open_same j = go (read_sheet s) refl ∙ ap (before.open_read_first j s) read_same
    where
      go : (r : Read) → read_sheet s ≡ r → open_read j s r ≡ before.open_read_first j s r
      go (job people steps rules) e = ap (λ (problem : Job). if_plan s j (first_plan problem (may_do s people steps rules))) (problem_same people steps rules e)
      go (fault f c) e = refl

sign_same : (j : JobState) → (version_of (held j) ≡ 2 → ⊥) → (a b : ℕ) → sign_answer j a b ≡ before.sign_first j a b
unfolding sign_read sign_of
sign_same j old a b = go (read_sheet (held j)) refl ∙ ap (before.sign_read_first j a b) (read_same (held j) old)
  where
    go : (r : Read) → read_sheet (held j) ≡ r → sign_read j a b r ≡ before.sign_read_first j a b r
    go (job people steps rules) e =
        ap (λ (problem : Job). sign_for problem (length people) (length (steps_left (held j) steps)) (job_left (held j) people steps rules) j a b)
        (problem_same (held j) old people steps rules e)
    go (fault f c) e = refl

pub version_one : demands.VersionOne
version_one s old =
    record {
      crew = λ buffer number left o.
          let e = crew_same s old buffer in (o.returned ∙ ap (λ (x : Outcome). x.number) e, o.bytes ∙ ap (λ (x : Outcome). x.bytes) e);
      spare = λ cap buffer number left o.
          let e = spare_same s old cap buffer in (o.returned ∙ ap (λ (x : Outcome). x.number) e, o.bytes ∙ ap (λ (x : Outcome). x.bytes) e);
      opens = λ j number left o.
          let e = open_same s old j in (o.returned ∙ ap (λ (x : Answered). x.number) e, o.job_left_lem ∙ ap (λ (x : Answered). x.job) e);
      signs = λ j h a b number left o.
          let e = sign_same j (λ d. old (sym (ap version_of h) ∙ d)) a b in
          (o.returned ∙ ap (λ (x : Answered). x.number) e, o.job_left_lem ∙ ap (λ (x : Answered). x.job) e);
    }
