-- What the crates above know of a job without its skipped steps: of each of its arrays, and of the reading that gave it. Assumes nothing.
use mathlib.Core.Bool.{Bool, false, ◌&&◌}
use mathlib.Core.List.{List, map}
use mathlib.Core.Path.{◌≡◌, refl, sym, ◌∙◌, ap, subst}
use Prim.Native.Nat.{ℕ, ◌/◌, ◌^◌, ◌<◌, ◌≤◌}
use native.Mathlib.Omega.{arith}
use lib.Dec.{eqb, ltb}
use lib.ListN
use lib.ListN.{length, get_or, length-map, length-replicate}
use lib.Seq.{ext_get_or}
use Rattle.bits.specs.Columns.{column_of}
use Rattle.bits.specs.Sizes.{most_class_levels}
use Rattle.bits.specs.Word.{has_bit}
use Rattle.card.specs.Fields.{class_levels, tag_of, levels_in, class_of, permitted_of, skipped_of, rule_kind_of, level_of, limit_of, scope_of}
use Rattle.sheet.proofs.Columns.{classes_level}
use Rattle.sheet.proofs.Fill.{get_d_table, length-table}
use Rattle.sheet.proofs.Passes.{sheet_passes}
use Rattle.sheet.proofs.Readable.{readable_job, read_sheet_job, sheet_levels}
use Rattle.sheet.specs.Answer.{job_of, sheet_of, table}
use Rattle.sheet.specs.Read.{job, fault, read_sheet}
use Rattle.sheet.specs.Readable.{ReadableJob, ReadSheet}
use Rattle.std.specs.Prelude.{Result, Ok, Err}
use Rattle.card.specs.Refusals.{fault_number}
use Rattle.card.specs.declared.refusal.Refusal.{Refusal}
use Rattle.sheet.proofs.Found.{ok_same, err_ok}
use Rattle.sheet.proofs.Refusals.{refusal_read}
use Rattle.sheet.specs.declared.SheetJob.{SheetJob}
use Rattle.remaining.specs.Kept.{gather}
use Rattle.remaining.specs.Read.{ReadJob}
use Rattle.remaining.specs.Remaining.{job_over, kept_in_lem, left_of, remaining_of, skipped_at, kept_of, kept_at, steps_left, job_left}
use Rattle.remaining.proofs.Gather.{gather_has, gather_below, gather_none}
use Rattle.remaining.proofs.KeptLaws.{kept_below_lem, kept_ordered, kept_few, kept_cong, kept_none_skipped, kept_whole}
use Rattle.remaining.proofs.Tables.{get_d_map}
use Rattle.remaining.proofs.Whole.{whole_job}

-- ---- a job in order stays in order

-- a set in an array is gathered, and so is the 0 after the last
gathered_at : (kept sets : List ℕ) (i : ℕ) → get_or (map (gather kept) sets) i 0 ≡ gather kept (get_or sets i 0)
gathered_at kept sets i =
    ap (λ (d : ℕ). get_or (map (gather kept) sets) i d) (sym (gather_none kept)) ∙ ListN.get_or-map (gather kept) sets i 0

gathered_small : (kept sets : List ℕ) (i : ℕ) → get_or (map (gather kept) sets) i 0 < 2 ^ length kept
gathered_small kept sets i = subst (λ (v : ℕ). v < 2 ^ length kept) (sym (gathered_at kept sets i)) (gather_below kept (get_or sets i 0))

pub readable_left : {people steps rules : ℕ} {j : SheetJob} → ReadableJob people steps rules j
    → ReadableJob people (length (kept_in_lem steps j)) rules (job_over (kept_in_lem steps j) j)
unfolding job_over
readable_left {people} {steps} {rules} {j} r =
    let skipped : ℕ → Bool = λ t. eqb (get_or j.skipped t 0) 1 in
    let kept = kept_in_lem steps j in
    let few : length kept ≤ 12 = omega (arith, kept_few skipped steps, r.steps_most) in
    let tag : (k : ℕ) → k < length kept → get_or (table 12 (λ t. get_or j.step_tag t 0) kept) k 0 ≡ get_or j.step_tag (get_or kept k 0) 0 =
    get_d_table 12 (λ t. get_or j.step_tag t 0) kept in
    let z = r.sized in
    record {
      people_some = r.people_some;
      people_most = r.people_most;
      steps_most = few;
      rules_most = r.rules_most;
      levels_some = r.levels_some;
      levels_most = r.levels_most;
      sized =
          record {
            person_tag = z.person_tag;
            step_tag = length-table 12 (λ t. get_or j.step_tag t 0) kept few;
            skipped = length-replicate {A = ℕ} 64 0;
            class = z.class;
            permitted = length-map j.permitted (gather kept) ∙ z.permitted;
            scope = length-map j.rule_scope (gather kept) ∙ z.scope;
            kind = z.kind;
            level = z.level;
            limit = z.limit;
          };
      person = λ p l.
          let f = r.person p l in
          record {
            tag = f.tag;
            class = f.class;
            permitted = gathered_small kept j.permitted p;
          };
      step_tag = λ k l. subst (λ (v : ℕ). 0 < v) (sym (tag k l)) (r.step_tag (get_or kept k 0) (kept_below_lem skipped steps k l));
      rule = λ i l.
          let f = r.rule i l in
          record {
            level_from = f.level_from;
            level_to = f.level_to;
            scope = gathered_small kept j.rule_scope i;
            limit = f.limit;
          };
      person_tags = r.person_tags;
      step_tags = λ k m l h e.
          r.step_tags (get_or kept k 0) (get_or kept m 0) (kept_ordered skipped steps k m l h) (kept_below_lem skipped steps m h)
          (sym (tag k (omega arith)) ∙ e ∙ tag m h);
      nested = r.nested;
    }

-- ---- the arrays, by the cards

-- the marks beside a job are those of its cards
kept_in : (s people steps rules : List ℕ) → kept_in_lem (length steps) (job_of s people steps rules) ≡ kept_of s steps
unfolding job_of
kept_in s people steps rules =
    kept_cong (λ t. eqb (get_or (table 64 (skipped_of s) steps) t 0) 1) (skipped_at s steps) (length steps)
    (λ t l. ap (λ (v : ℕ). eqb v 1) (get_d_table 64 (skipped_of s) steps t l))

pub kept_read : {s : List ℕ} {people steps rules : ℕ} {j : SheetJob} (w : ReadSheet s people steps rules j) → kept_in_lem steps j ≡ kept_of s w.step_cards
kept_read {s} {j = j} w =
    ap (λ (n : ℕ). kept_in_lem n j) (sym w.steps_count)
    ∙ ap (kept_in_lem (length w.step_cards)) w.filled
    ∙ kept_in s w.person_cards w.step_cards w.rule_cards

module _ (s steps : List ℕ) where
  pub steps_left-length : length (steps_left s steps) ≡ length (kept_of s steps)
  steps_left-length = length-map (kept_of s steps) (λ t. get_or steps t 0)

  pub steps_left_at : (k : ℕ) → k < length (kept_of s steps) → get_or (steps_left s steps) k 0 ≡ get_or steps (kept_at s steps k) 0
  steps_left_at k l = get_d_map (λ t. get_or steps t 0) (kept_of s steps) k l

module _ (s people steps rules : List ℕ) where
  pub step_tag_left : (k : ℕ) → k < length (steps_left s steps) → get_or (job_left s people steps rules).step_tag k 0 ≡ tag_of s (get_or (steps_left s steps) k 0)
  unfolding job_over job_of
  step_tag_left k l =
      let m : k < length (kept_of s steps) = omega (arith, steps_left-length s steps) in
      get_d_table 12 (λ t. get_or (table 12 (tag_of s) steps) t 0) (kept_of s steps) k m
      ∙ get_d_table 12 (tag_of s) steps (kept_at s steps k) (kept_below_lem (skipped_at s steps) (length steps) k m)
      ∙ ap (tag_of s) (sym (steps_left_at s steps k m))

  -- the sets, as words and bit by bit
  pub permitted_word : (p : ℕ) → p < length people → get_or (job_left s people steps rules).permitted p 0 ≡ gather (kept_of s steps) (permitted_of s (get_or people p 0))
  unfolding job_over job_of
  permitted_word p l =
      gathered_at (kept_of s steps) (table 64 (permitted_of s) people) p ∙ ap (gather (kept_of s steps)) (get_d_table 64 (permitted_of s) people p l)

  pub permitted_left : (p k : ℕ) → p < length people
      → has_bit (get_or (job_left s people steps rules).permitted p 0) k
      ≡ (ltb k (length (kept_of s steps)) && has_bit (permitted_of s (get_or people p 0)) (kept_at s steps k))
  permitted_left p k l = ap (λ (x : ℕ). has_bit x k) (permitted_word p l) ∙ gather_has (kept_of s steps) (permitted_of s (get_or people p 0)) k

  pub scope_word : (i : ℕ) → i < length rules → get_or (job_left s people steps rules).rule_scope i 0 ≡ gather (kept_of s steps) (scope_of s (get_or rules i 0))
  unfolding job_over job_of
  scope_word i l =
      gathered_at (kept_of s steps) (table 64 (scope_of s) rules) i ∙ ap (gather (kept_of s steps)) (get_d_table 64 (scope_of s) rules i l)

  pub scope_left_lem : (i k : ℕ) → i < length rules
      → has_bit (get_or (job_left s people steps rules).rule_scope i 0) k
      ≡ (ltb k (length (kept_of s steps)) && has_bit (scope_of s (get_or rules i 0)) (kept_at s steps k))
  scope_left_lem i k l = ap (λ (x : ℕ). has_bit x k) (scope_word i l) ∙ gather_has (kept_of s steps) (scope_of s (get_or rules i 0)) k

  -- the other fields as the cards have them
  pub person_tag_left : (p : ℕ) → p < length people → get_or (job_left s people steps rules).person_tag p 0 ≡ tag_of s (get_or people p 0)
  unfolding job_over job_of
  person_tag_left p l = get_d_table 64 (tag_of s) people p l

  pub levels_left : (job_left s people steps rules).levels ≡ levels_in s
  unfolding job_over job_of
  levels_left = refl

  -- the classes of each class level
  pub column_left : length people ≤ 64 → class_levels s ≤ most_class_levels → (q : ℕ) → 1 ≤ q → q ≤ class_levels s
      → column_of (job_left s people steps rules).class q ≡ table 64 (class_of s q) people
  unfolding job_over job_of
  column_left few deep q l m = classes_level s people few deep q l m

  pub kind_left : (i : ℕ) → i < length rules → get_or (job_left s people steps rules).rule_kind i 0 ≡ rule_kind_of s (get_or rules i 0)
  unfolding job_over job_of
  kind_left i l = get_d_table 64 (rule_kind_of s) rules i l

  pub level_left : (i : ℕ) → i < length rules → get_or (job_left s people steps rules).rule_level i 0 ≡ level_of s (get_or rules i 0)
  unfolding job_over job_of
  level_left i l = get_d_table 64 (level_of s) rules i l

  pub limit_left : (i : ℕ) → i < length rules → get_or (job_left s people steps rules).rule_limit i 0 ≡ limit_of s (get_or rules i 0)
  unfolding job_over job_of
  limit_left i l = get_d_table 64 (limit_of s) rules i l

-- ---- a sheet none of whose steps is skipped

module _ (s steps : List ℕ) (none : (t : ℕ) → t < length steps → skipped_at s steps t ≡ false) where
  all_kept : length (kept_of s steps) ≡ length steps
  all_kept = kept_none_skipped (skipped_at s steps) (length steps) none

  pub kept_itself : (k : ℕ) → k < length steps → kept_at s steps k ≡ k
  kept_itself = (kept_whole (skipped_at s steps) (length steps) all_kept).itself

  pub steps_whole : steps_left s steps ≡ steps
  steps_whole =
      let n : length (steps_left s steps) ≡ length steps = steps_left-length s steps ∙ all_kept in
      ext_get_or 0 (steps_left s steps) steps n
      (λ k l. steps_left_at s steps k (omega (arith, all_kept)) ∙ ap (λ (t : ℕ). get_or steps t 0) (kept_itself k (omega arith)))

-- the job of the steps that remain is in order
pub readable_in : (s people steps rules : List ℕ) → read_sheet s ≡ job people steps rules
    → ReadableJob (length people) (length (steps_left s steps)) (length rules) (job_left s people steps rules)
readable_in s people steps rules e =
    let r = readable_job s people steps rules (length s / 16) (sheet_passes s people steps rules e).rest (sheet_levels s people steps rules e) in
    subst (λ (n : ℕ). ReadableJob (length people) n (length rules) (job_left s people steps rules)) (sym (steps_left-length s steps))
    (subst (λ (l : List ℕ). ReadableJob (length people) (length l) (length rules) (job_over l (job_of s people steps rules))) (kept_in s people steps rules)
    (readable_left r))

pub whole_left : (s people steps rules : List ℕ) → read_sheet s ≡ job people steps rules → ((t : ℕ) → t < length steps → skipped_at s steps t ≡ false)
    → job_left s people steps rules ≡ job_of s people steps rules
whole_left s people steps rules read none = whole_job s people steps rules read (all_kept s steps none)

-- ---- the reading

pub read_job_left : (s : List ℕ) (j : SheetJob) → remaining_of s ≡ Ok j → ReadJob s j.people j.steps j.rules j
unfolding left_of job_over
read_job_left s j e = go (sheet_of s) refl e
  where
    go : (a : Result SheetJob Refusal) → sheet_of s ≡ a → left_of a ≡ Ok j → ReadJob s j.people j.steps j.rules j
    go (Ok i) d e =
        let w = read_sheet_job s i d in
        let kept : kept_in_lem i.steps i ≡ kept_of s w.step_cards = kept_read w in
        subst (λ (x : SheetJob). ReadJob s x.people x.steps x.rules x) (ok_same e)
        (record {
          person_cards = w.person_cards;
          step_cards = w.step_cards;
          rule_cards = w.rule_cards;
          read = w.read;
          chains = w.chains;
          people_count = w.people_count;
          steps_count = steps_left-length s w.step_cards ∙ ap length (sym kept);
          rules_count = w.rules_count;
          filled = ap (λ (k : List ℕ). job_over k i) kept ∙ ap (job_over (kept_of s w.step_cards)) w.filled;
          readable = readable_left w.readable;
        })
    go (Err r) d e = absurd (err_ok e)

pub read_job_refusal : (s : List ℕ) (r : Refusal) → remaining_of s ≡ Err r → sheet_of s ≡ Err r
unfolding left_of
read_job_refusal s r e = go (sheet_of s) e
  where
    go : (a : Result SheetJob Refusal) → left_of a ≡ Err r → a ≡ Err r
    go (Ok i) e = absurd (err_ok (sym e))
    go (Err q) e = e

pub read_job_fault : (s : List ℕ) (r : Refusal) → remaining_of s ≡ Err r → read_sheet s ≡ fault (fault_number r.fault) r.card
read_job_fault s r e = refusal_read s r (read_job_refusal s r e)
