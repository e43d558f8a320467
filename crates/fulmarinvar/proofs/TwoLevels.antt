-- A version 2 sheet with two class levels and the version 1 sheet with the same cards get the same answers. Assumes nothing.
use mathlib.Core.Bool.{Bool, true, false, not, cond, ◌&&◌, ◌||◌}
use mathlib.Core.List.{List, [], map, ◌++◌}
use mathlib.Core.Path.{◌≡◌, refl, sym, ◌∙◌, ap, ap₂, subst, fun_ext}
use Prim.Native.Nat.{ℕ, zero, suc, ◌+◌, ◌*◌, ◌-◌, ◌/◌, ◌<◌, ◌≤◌}
use native.Mathlib.Omega.{arith}
use lib.Dec.{eqb, leb, ltb}
use lib.ListN.{length, get_or, set}
use Rattle.bits.specs.Below.{any}
use Rattle.bits.specs.Member.{member}
use Rattle.bits.specs.Sizes.{class_words}
use Rattle.bits.specs.Word.{word_at}
use Rattle.bits.proofs.Below.{first_cong}
use Rattle.card.specs.Layout.{card_byte, card_word, card_long, header_kind, person_kind, step_kind, rule_kind_lem}
use Rattle.card.specs.Fields.{version_of, levels_byte, form_ok, header_ok, class_levels, class_of, class_field_ok, person_ok, step_ok, rule_ok, fields_ok, within, nonzero, only_below_lem, first_person, tag_of, permitted_of, skipped_of, rule_kind_of, level_of, limit_of, scope_of, scope_size, limit_ok}
use Rattle.card.specs.Refusals.{length_fault, header_fault, field_fault, count_fault, cap_fault, tag_fault, class_fault, loose_fault, unknown_fault, ungranted_fault}
use Rattle.card.proofs.Levels.{first_levels, second_levels, form_first, form_second}
use Rattle.chain.proofs.Alike.{AlikeChains, walk_alike}
use Rattle.chain.specs.Answer.{chain_of}
use Rattle.chain.specs.Walk.{walk}
use Rattle.chain.proofs.Chained.{walk_chained}
use Rattle.sheet.specs.Answer.{table, zeros, class_columns, class_table, job_of}
use Rattle.sheet.specs.Read.{Read, job, fault, unless, unless_at, length_ok, is_empty, first_clash, same_tag, class_moved, first_late, first_loose, on_two, on_three, most_people, most_steps, most_rules, checked, steps_read, people_read, read_people, read_sheet, people_walk, steps_walk, rules_walk}
use Rattle.sheet.specs.Readable.{Chains}
use Rattle.sheet.specs.declared.SheetJob.{SheetJob}
use Rattle.sheet.proofs.Chains.{chains}
use Rattle.sheet.proofs.Passes.{sheet_passes}
use Rattle.remaining.specs.Remaining.{job_over, skipped_at, kept_of, steps_left, job_left}
use Rattle.remaining.proofs.KeptLaws.{kept_cong}
use Rattle.remaining.proofs.Tables.{table_same}
use Rattle.workflow.specs.First.{Found, found, nothing, first_plan}
use Rattle.instance.specs.Instance.{instance_of, instance_in, may_of, may_do}
use Rattle.answer.specs.Bytes.{Outcome, refused}
use Rattle.answer.specs.Crew.{crew_of, crew_read, crew_answer}
use Rattle.resiliency.specs.Spare.{cap_limit, spare_of, spare_read, spare_answer}
use Rattle.signing.specs.Open.{if_plan, open_read, open_answer}
use Rattle.signing.specs.Bound.{is_open_lem, bound}
use Rattle.signing.specs.Sign.{place_of, counted, refused_signing, first_refusal, decided, sign_of, sign_read, sign_answer}
use Rattle.signing.specs.State.{Answered, held}
use Rattle.signing.specs.declared.JobState.{JobState}
use Rattle.fulmarinvar.specs.Levels as demands
use Rattle.fulmarinvar.specs.Levels.{SameCards}
use Rattle.fulmarinvar.proofs.Alike.{along_alike}

module _ (s s' : List ℕ) (w : SameCards s s') where
  two : class_levels s ≡ class_levels s'
  two = sym (second_levels s w.second) ∙ w.two ∙ first_levels s' (λ e. let o = w.first in omega arith)

  -- ---- bytes that are neither of the two

  word_same : (i : ℕ) → (i ≡ 0 → ⊥) → (i ≡ 1 → ⊥) → (i ≡ 11 → ⊥) → (i ≡ 12 → ⊥) → word_at s i ≡ word_at s' i
  word_same i a b c d = λ t. w.others i b d t + 256 * w.others (i + 1) (λ e. omega arith) (λ e. omega arith) t

  -- a field of a card that does not lie there on the header
  byte_on : (c k : ℕ) → (k ≡ 1 → ⊥) → (k ≡ 12 → ⊥) → k < 16 → card_byte s c k ≡ card_byte s' c k
  byte_on c k a b l = w.others (16 * c + k) (λ e. omega arith) (λ e. omega arith)

  word_on : (c k : ℕ) → 2 ≤ k → (k ≡ 11 → ⊥) → (k ≡ 12 → ⊥) → k < 15 → card_word s c k ≡ card_word s' c k
  word_on c k a b d l = word_same (16 * c + k) (λ e. omega arith) (λ e. omega arith) (λ e. omega arith) (λ e. omega arith)

  -- of another card than the header, any
  byte_past : (c k : ℕ) → 0 < c → card_byte s c k ≡ card_byte s' c k
  byte_past c k l = w.others (16 * c + k) (λ e. omega arith) (λ e. omega arith)

  word_past : (c k : ℕ) → 0 < c → card_word s c k ≡ card_word s' c k
  word_past c k l = word_same (16 * c + k) (λ e. omega arith) (λ e. omega arith) (λ e. omega arith) (λ e. omega arith)

  long_past : (c k : ℕ) → 0 < c → card_long s c k ≡ card_long s' c k
  long_past c k l = λ t. word_past c k l t + 65536 * word_same (16 * c + k + 2) (λ e. omega arith) (λ e. omega arith) (λ e. omega arith) (λ e. omega arith) t

  tag_same : (c : ℕ) → tag_of s c ≡ tag_of s' c
  tag_same c =
      λ t. word_on c 4 (omega arith) (λ e. omega arith) (λ e. omega arith) (omega arith) t
      + 65536 * word_same (16 * c + 4 + 2) (λ e. omega arith) (λ e. omega arith) (λ e. omega arith) (λ e. omega arith) t

  class_same : (q c : ℕ) → class_of s q c ≡ class_of s' q c
  class_same zero c = word_on c 8 (omega arith) (λ e. omega arith) (λ e. omega arith) (omega arith)
  class_same (suc zero) c = word_on c 8 (omega arith) (λ e. omega arith) (λ e. omega arith) (omega arith)
  class_same (suc (suc zero)) c = word_on c 10 (omega arith) (λ e. omega arith) (λ e. omega arith) (omega arith)
  class_same (suc (suc (suc q))) c = word_on c 14 (omega arith) (λ e. omega arith) (λ e. omega arith) (omega arith)

  -- ---- the tests of the cards

  header_same : (n : ℕ) → header_ok s n ≡ header_ok s' n
  unfolding header_ok
  header_same n =
      let e : form_ok (version_of s) (levels_byte s) ≡ form_ok (version_of s') (levels_byte s')
      = (let two = w.two in form_second (version_of s) (levels_byte s) w.second (omega arith) (omega arith))
      ∙ sym (form_first (version_of s') (levels_byte s') w.first w.none) in
      λ t.
      eqb (byte_on 0 0 (λ d. omega arith) (λ d. omega arith) (omega arith) t) header_kind
      && e t
      && eqb (word_on 0 2 (omega arith) (λ d. omega arith) (λ d. omega arith) (omega arith) t) 0
      && eqb (word_on 0 10 (omega arith) (λ d. omega arith) (λ d. omega arith) (omega arith) t) n
      && eqb (byte_on 0 13 (λ d. omega arith) (λ d. omega arith) (omega arith) t) 0
      && eqb (word_on 0 14 (omega arith) (λ d. omega arith) (λ d. omega arith) (omega arith) t) 0

  fields_same : (steps kind c : ℕ) → 0 < c → fields_ok s steps kind c ≡ fields_ok s' steps kind c
  unfolding fields_ok person_ok step_ok rule_ok
  fields_same steps kind c l =
      λ t. cond (eqb kind person_kind)
      (eqb (byte_past c 1 l t) 0
      && nonzero (tag_same c t)
      && only_below_lem 12 (word_past c 12 l t)
      && class_field_ok (two t) 1 (class_same 1 c t)
      && class_field_ok (two t) 2 (class_same 2 c t)
      && class_field_ok (two t) 3 (class_same 3 c t))
      (cond (eqb kind step_kind)
      (leb (byte_past c 1 l t) 1
      && nonzero (tag_same c t)
      && eqb (long_past c 8 l t) 0
      && eqb (long_past c 12 l t) 0)
      (limit_ok (byte_past c 1 l t) (byte_past c 5 l t) (scope_size (word_past c 6 l t))
      && within 1 (two t + 1) (byte_past c 4 l t)
      && only_below_lem steps (word_past c 6 l t)
      && eqb (long_past c 8 l t) 0
      && eqb (long_past c 12 l t) 0))

  chain_same : (cards kind steps : ℕ) (reached : ℕ → Bool) → AlikeChains (chain_of s cards kind steps reached) (chain_of s' cards kind steps reached)
  chain_same cards kind steps reached =
      record {
        cards = refl;
        mine = λ c l. ap (λ (x : ℕ). eqb x kind) (byte_past c 0 l);
        fields = λ c l. fields_same steps kind c l;
        next = λ c l. word_past c 2 l;
        before = λ c. refl;
      }

  -- a chain from the same place on the header
  walk_same : (cards kind steps most at : ℕ) (reached : ℕ → Bool) → card_word s 0 at ≡ card_word s' 0 at
      → walk (chain_of s cards kind steps reached) most [] 0 (card_word s 0 at) ≡ walk (chain_of s' cards kind steps reached) most [] 0 (card_word s' 0 at)
  walk_same cards kind steps most at reached e =
      walk_alike (chain_same cards kind steps reached) most [] 0 (card_word s 0 at) ∙ ap (walk (chain_of s' cards kind steps reached) most [] 0) e

  -- ---- reading

  moved_same : (l : List ℕ) (j k : ℕ) → class_moved s l j k ≡ class_moved s' l j k
  moved_same l j k =
      λ t. any (two t - 1)
      (λ q. eqb (class_same (suc (suc q)) (get_or l j 0) t) (class_same (suc (suc q)) (get_or l k 0) t)
      && not (eqb (class_same (suc q) (get_or l j 0) t) (class_same (suc q) (get_or l k 0) t)))

  tags_same : (l : List ℕ) (j k : ℕ) → same_tag s l j k ≡ same_tag s' l j k
  tags_same l j k = λ t. eqb (tag_same (get_or l j 0) t) (tag_same (get_or l k 0) t)

  checked_same : (n : ℕ) (people steps rules : List ℕ) → checked s n people steps rules ≡ checked s' n people steps rules
  unfolding checked
  checked_same n people steps rules =
      λ t. unless_at people (first_clash (length people) (λ j k. tags_same people j k t)) tag_fault
      (unless_at steps (first_clash (length steps) (λ j k. tags_same steps j k t)) tag_fault
      (unless_at people (first_clash (length people) (λ j k. moved_same people j k t)) class_fault
      (let c : ℕ = first_loose n (on_three people steps rules) in
      unless (ltb c n) loose_fault c (job people steps rules))))

  late_same : (n : ℕ) (people : List ℕ) → ((k : ℕ) → k < length people → 0 < get_or people k 0) → first_late s n people ≡ first_late s' n people
  unfolding first_late
  late_same n people some =
      first_cong (length people) _ _ (λ k l. ap (λ (x : ℕ). not (only_below_lem n x)) (word_past (get_or people k 0) 12 (some k l)))

  steps_same : (n : ℕ) (people steps : List ℕ) → ((k : ℕ) → k < length people → 0 < get_or people k 0) → steps_read s n people steps ≡ steps_read s' n people steps
  unfolding steps_read
  steps_same n people steps some =
      let rest =
      along_alike (rules_walk s n people steps (length steps)) (rules_walk s' n people steps (length steps)) (checked s n people steps) (checked s' n people steps)
      (walk_same n rule_kind_lem (length steps) most_rules 8 (on_two people steps) (word_on 0 8 (omega arith) (λ e. omega arith) (λ e. omega arith) (omega arith)))
      (λ rules d. checked_same n people steps rules) in
      λ t. unless (is_empty steps) count_fault 0 (unless_at people (late_same (length steps) people some t) field_fault (rest t))

  people_same : (n : ℕ) (people : List ℕ) → ((k : ℕ) → k < length people → 0 < get_or people k 0) → people_read s n people ≡ people_read s' n people
  unfolding people_read
  people_same n people some =
      ap (unless (is_empty people) count_fault 0)
      (along_alike (steps_walk s n people) (steps_walk s' n people) (steps_read s n people) (steps_read s' n people)
      (walk_same n step_kind 0 most_steps 6 (member people) (word_on 0 6 (omega arith) (λ e. omega arith) (λ e. omega arith) (omega arith)))
      (λ steps d. steps_same n people steps some))

  cards_same : (n : ℕ) → read_people s n ≡ read_people s' n
  unfolding read_people
  cards_same n =
      along_alike (people_walk s n) (people_walk s' n) (people_read s n) (people_read s' n)
      (walk_same n person_kind 0 most_people 4 (λ c. false) (word_on 0 4 (omega arith) (λ e. omega arith) (λ e. omega arith) (omega arith)))
      (λ people d. people_same n people (walk_chained (chain_of s n person_kind 0 (λ c. false)) (first_person s) most_people people d).some)

  read_same : read_sheet s ≡ read_sheet s'
  unfolding read_sheet
  read_same =
      let n = length s / 16 in
      (λ t. unless (not (length_ok (length s))) length_fault 0 (unless (not (header_same n t)) header_fault 0 (cards_same n t)))
      ∙ ap (λ (m : ℕ). unless (not (length_ok m)) length_fault 0 (unless (not (header_ok s' (m / 16))) header_fault 0 (read_people s' (m / 16)))) w.size

  -- ---- the job

  columns_same : (people : List ℕ) (n : ℕ) → class_columns s people n ≡ class_columns s' people n
  unfolding class_columns
  columns_same people zero = refl
  columns_same people (suc n) =
      ap₂ (λ (a b : List ℕ). a ++ b) (columns_same people n) (ap (λ (f : ℕ → ℕ). table 64 f people) (fun_ext (class_same (suc n))))

  module _ (people steps rules : List ℕ) (read : read_sheet s ≡ job people steps rules) where
    chained : Chains s (length s / 16) people steps rules
    chained = chains s (length s / 16) people steps rules (sheet_passes s people steps rules read).rest

    -- a field of the cards of a chain, none of which is the header
    table_past : (size : ℕ) (f g : ℕ → ℕ) (l : List ℕ) → length l ≤ size → ((c : ℕ) → 0 < c → f c ≡ g c) → ((k : ℕ) → k < length l → 0 < get_or l k 0)
        → table size f l ≡ table size g l
    table_past size f g l few e some = table_same size f g l l refl few (λ k m. e (get_or l k 0) (some k m))

    kept_same : kept_of s steps ≡ kept_of s' steps
    kept_same =
        kept_cong (skipped_at s steps) (skipped_at s' steps) (length steps)
        (λ t l. ap (λ (x : ℕ). eqb x 1) (byte_past (get_or steps t 0) 1 (chained.steps_chain.some t l)))

    left_same : steps_left s steps ≡ steps_left s' steps
    left_same = ap (map (λ t. get_or steps t 0)) kept_same

    all_same : job_of s people steps rules ≡ job_of s' people steps rules
    unfolding job_of
    all_same =
        let ps = chained.people_chain in let ts = chained.steps_chain in let rs = chained.rules_chain in
        let marks = table_past 64 (skipped_of s) (skipped_of s') steps (omega (arith, ts.short)) (λ c l. byte_past c 1 l) ts.some in
        let permitted = table_past 64 (permitted_of s) (permitted_of s') people ps.short (λ c l. word_past c 12 l) ps.some in
        let scopes = table_past 64 (scope_of s) (scope_of s') rules rs.short (λ c l. word_past c 6 l) rs.some in
        let kinds = table_past 64 (rule_kind_of s) (rule_kind_of s') rules rs.short (λ c l. byte_past c 1 l) rs.some in
        let levels = table_past 64 (level_of s) (level_of s') rules rs.short (λ c l. byte_past c 4 l) rs.some in
        let limits = table_past 64 (limit_of s) (limit_of s') rules rs.short (λ c l. byte_past c 5 l) rs.some in
        let columns : class_table s people ≡ class_table s' people
        = ap (λ (x : List ℕ). x ++ zeros (class_words - class_levels s * 64)) (columns_same people (class_levels s))
        ∙ ap (λ (n : ℕ). class_columns s' people n ++ zeros (class_words - n * 64)) two in
        λ t.
        record {
          people = length people;
          steps = length steps;
          rules = length rules;
          levels = two t + 1;
          person_tag = table 64 (λ c. tag_same c t) people;
          step_tag = table 12 (λ c. tag_same c t) steps;
          skipped = marks t;
          class = columns t;
          permitted = permitted t;
          rule_scope = scopes t;
          rule_kind = kinds t;
          rule_level = levels t;
          rule_limit = limits t;
        }

    job_same : job_left s people steps rules ≡ job_left s' people steps rules
    job_same = ap₂ job_over kept_same all_same

  -- ---- the calls

  crew_same : (buffer : List ℕ) → crew_answer s buffer ≡ crew_answer s' buffer
  unfolding crew_read
  crew_same buffer = go (read_sheet s) refl ∙ ap (crew_read s' buffer) read_same
    where
      go : (r : Read) → read_sheet s ≡ r → crew_read s buffer r ≡ crew_read s' buffer r
      go (job people steps rules) e =
          ap₂ (λ (n : ℕ) (j : SheetJob). crew_of (length people) n (length rules) j buffer) (ap length (left_same people steps rules e)) (job_same people steps rules e)
      go (fault f c) e = refl

  spare_read_same : (cap : ℕ) (buffer : List ℕ) → spare_read cap s buffer (read_sheet s) ≡ spare_read cap s' buffer (read_sheet s')
  unfolding spare_read
  spare_read_same cap buffer = go (read_sheet s) refl ∙ ap (spare_read cap s' buffer) read_same
    where
      go : (r : Read) → read_sheet s ≡ r → spare_read cap s buffer r ≡ spare_read cap s' buffer r
      go (job people steps rules) e =
          ap₂ (λ (n : ℕ) (j : SheetJob). spare_of cap (length people) n (length rules) j buffer) (ap length (left_same people steps rules e)) (job_same people steps rules e)
      go (fault f c) e = refl

  spare_same : (cap : ℕ) (buffer : List ℕ) → spare_answer cap s buffer ≡ spare_answer cap s' buffer
  unfolding spare_answer
  spare_same cap buffer = ap (cond (ltb cap_limit cap) (refused cap_fault 0 buffer)) (spare_read_same cap buffer)

  -- a job that is opened holds its own sheet: the numbers are the same
  open_number : (j j' : JobState) (f : Found) → (if_plan s j f).number ≡ (if_plan s' j' f).number
  unfolding if_plan
  open_number j j' (found plan) = refl
  open_number j j' nothing = refl

  open_same : (j j' : JobState) → (open_answer j s).number ≡ (open_answer j' s').number
  unfolding open_read
  open_same j j' = go (read_sheet s) refl ∙ ap (λ (r : Read). (open_read j' s' r).number) read_same
    where
      go : (r : Read) → read_sheet s ≡ r → (open_read j s r).number ≡ (open_read j' s' r).number
      go (job people steps rules) e =
          open_number j j' (first_plan (instance_in s people steps rules) (may_do s people steps rules))
          ∙ ap₂ (λ (n : ℕ) (k : SheetJob). (if_plan s' j' (first_plan (instance_of (length people) n (length rules) k) (may_of k))).number)
          (ap length (left_same people steps rules e)) (job_same people steps rules e)
      go (fault f c) e = refl

-- ---- signing

-- the numbers, the signers and the counts are the same
abbrev Alike : Answered → Answered → Type 0
Alike r r' = (r.number ≡ r'.number) × (r.job.signer ≡ r'.job.signer) × (r.job.refusals ≡ r'.job.refusals)

module _ (j j' : JobState) (signers : j.signer ≡ j'.signer) (counts : j.refusals ≡ j'.refusals) where
  refused_alike : (f : ℕ) → Alike (refused_signing f j) (refused_signing f j')
  refused_alike f = (refl, signers, ap counted counts)

  decided_alike : (go_on : Bool) (f t p : ℕ) (x : Found) → Alike (cond go_on (decided t p j x) (refused_signing f j)) (cond go_on (decided t p j' x) (refused_signing f j'))
  unfolding decided
  decided_alike true f t p (found plan) = (refl, ap (λ (l : List ℕ). set l t (suc p)) signers, counts)
  decided_alike true f t p nothing = refused_alike ungranted_fault
  decided_alike false f t p x = refused_alike f

  sign_alike : (people steps rules : ℕ) (k : SheetJob) (a b : ℕ) → Alike (sign_of people steps rules k j a b) (sign_of people steps rules k j' a b)
  unfolding sign_of
  sign_alike people steps rules k a b =
      let t : ℕ = place_of steps k.step_tag a in
      let p : ℕ = place_of people k.person_tag b in
      let refusal : List ℕ → ℕ = λ signer. first_refusal (eqb t steps || eqb p people) (not (is_open_lem signer t)) in
      let plan : List ℕ → Found = λ signer. first_plan (instance_of people steps rules k) (bound (may_of k) (set signer t (suc p))) in
      subst (λ (x : List ℕ). Alike (sign_of people steps rules k j a b) (cond (eqb (refusal x) 0) (decided t p j' (plan x)) (refused_signing (refusal x) j'))) signers
      (decided_alike (eqb (refusal j.signer) 0) (refusal j.signer) t p (plan j.signer))

  module _ (s s' : List ℕ) (w : SameCards s s') (h : held j ≡ s) (h' : held j' ≡ s') where
    -- both hold a sheet that is read alike
    held_same : read_sheet (held j) ≡ read_sheet (held j')
    held_same = ap read_sheet h ∙ read_same s s' w ∙ sym (ap read_sheet h')

    sign_same : (a b : ℕ) → Alike (sign_answer j a b) (sign_answer j' a b)
    unfolding sign_read
    sign_same a b = subst (λ (r : Read). Alike (sign_answer j a b) (sign_read j' a b r)) held_same (go (read_sheet (held j)) refl)
      where
        go : (r : Read) → read_sheet (held j) ≡ r → Alike (sign_read j a b r) (sign_read j' a b r)
        go (job people steps rules) e =
            let read = sym (ap read_sheet h) ∙ e in
            let n : length (steps_left (held j) steps) ≡ length (steps_left (held j') steps)
            = ap (λ (u : List ℕ). length (steps_left u steps)) h ∙ ap length (left_same s s' w people steps rules read)
            ∙ sym (ap (λ (u : List ℕ). length (steps_left u steps)) h') in
            let k : job_left (held j) people steps rules ≡ job_left (held j') people steps rules
            = ap (λ (u : List ℕ). job_left u people steps rules) h ∙ job_same s s' w people steps rules read
            ∙ sym (ap (λ (u : List ℕ). job_left u people steps rules) h') in
            subst (λ (m : ℕ). Alike (sign_read j a b (job people steps rules)) (sign_of (length people) m (length rules) (job_left (held j') people steps rules) j' a b)) n
            (subst (λ (x : SheetJob). Alike (sign_read j a b (job people steps rules)) (sign_of (length people) (length (steps_left (held j) steps)) (length rules) x j' a b)) k
            (sign_alike (length people) (length (steps_left (held j) steps)) (length rules) (job_left (held j) people steps rules) a b))
        go (fault f c) e = refused_alike unknown_fault

pub two_levels : demands.TwoLevels
two_levels s s' w =
    record {
      crew = λ buffer number number' left left' o o'.
          let e = crew_same s s' w buffer in
          (o.returned ∙ ap (λ (x : Outcome). x.number) e ∙ sym o'.returned, o.bytes ∙ ap (λ (x : Outcome). x.bytes) e ∙ sym o'.bytes);
      spare = λ cap buffer number number' left left' o o'.
          let e = spare_same s s' w cap buffer in
          (o.returned ∙ ap (λ (x : Outcome). x.number) e ∙ sym o'.returned, o.bytes ∙ ap (λ (x : Outcome). x.bytes) e ∙ sym o'.bytes);
      opens = λ j j' number number' left left' o o'. o.returned ∙ open_same s s' w j j' ∙ sym o'.returned;
      signs = λ j j' h h' signers counts a b number number' left left' o o'.
          let e = sign_same j j' signers counts s s' w h h' a b in (
            o.returned ∙ e.0 ∙ sym o'.returned,
            ap (λ (x : JobState). x.signer) o.job_left_lem ∙ e.1 ∙ sym (ap (λ (x : JobState). x.signer) o'.job_left_lem),
            ap (λ (x : JobState). x.refusals) o.job_left_lem ∙ e.2 ∙ sym (ap (λ (x : JobState). x.refusals) o'.job_left_lem),
          );
    }
