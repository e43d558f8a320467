-- Where no step of a readable sheet is skipped its job stays as it is. Assumes nothing.
use mathlib.Core.List.{List, map}
use mathlib.Core.Path.{◌≡◌, sym, ◌∙◌, ap}
use Prim.Native.Nat.{ℕ, ◌/◌, ◌^◌, ◌<◌, ◌≤◌}
use native.Mathlib.Omega.{arith}
use lib.ListN.{length, get_or}
use borrow.Author.Tests.{eqb-false}
use Rattle.card.specs.Fields.{tag_of, permitted_of, skipped_of, scope_of}
use Rattle.sheet.proofs.Chains.{chains}
use Rattle.sheet.proofs.Fill.{get_d_table}
use Rattle.sheet.proofs.InOrder.{below_power, step_fields, rule_fields}
use Rattle.sheet.proofs.Passes.{Passes, sheet_passes}
use Rattle.sheet.proofs.Readable.{step_card, rule_card, not_late}
use Rattle.sheet.specs.Answer.{job_of, table, zeros}
use Rattle.sheet.specs.Read.{job, read_sheet}
use Rattle.remaining.specs.Kept.{gather}
use Rattle.remaining.specs.Remaining.{job_over, kept_of, skipped_at, job_left}
use Rattle.remaining.proofs.Gather.{gather_none, gather_whole}
use Rattle.remaining.proofs.KeptLaws.{kept_whole}
use Rattle.remaining.proofs.Tables.{table_each, map_same, table-zero, table_same}

-- the sheet was read, and as many of its steps are kept as it has
module _ (s people steps rules : List ℕ) (read : read_sheet s ≡ job people steps rules) (all : length (kept_of s steps) ≡ length steps) where
  passes : Passes s (length s / 16) people steps rules
  passes = (sheet_passes s people steps rules read).rest

  few : length steps ≤ 12
  few = (chains s (length s / 16) people steps rules passes).steps_chain.short

  -- sets of steps, in an array with zeros after the last
  sets_stay : (field : ℕ → ℕ) (cards : List ℕ) → ((k : ℕ) → k < length cards → field (get_or cards k 0) < 2 ^ length steps)
      → map (gather (kept_of s steps)) (table 64 field cards) ≡ table 64 field cards
  sets_stay field cards small =
      map_same (gather (kept_of s steps)) (table 64 field cards)
      (λ k l.
      table_each (λ (v : ℕ). gather (kept_of s steps) v ≡ v) 64 field cards (gather_none (kept_of s steps))
      (λ i m. gather_whole (skipped_at s steps) (length steps) (field (get_or cards i 0)) all (small i m)) k)

  -- a mark is 0 or 1, and none is 1
  unmarked : (k : ℕ) → k < length steps → skipped_of s (get_or steps k 0) ≡ 0
  unmarked k l =
      let w = (step_fields s (get_or steps k 0) (step_card s people steps rules (length s / 16) passes k l)).0 in
      let d = eqb-false (skipped_of s (get_or steps k 0)) 1 ((kept_whole (skipped_at s steps) (length steps) all).remains k l) in
      omega arith

  tags_stay : table 12 (λ t. get_or (table 12 (tag_of s) steps) t 0) (kept_of s steps) ≡ table 12 (tag_of s) steps
  tags_stay =
      table_same 12 (λ t. get_or (table 12 (tag_of s) steps) t 0) (tag_of s) (kept_of s steps) steps all few
      (λ k l.
      ap (λ (t : ℕ). get_or (table 12 (tag_of s) steps) t 0) ((kept_whole (skipped_at s steps) (length steps) all).itself k l)
      ∙ get_d_table 12 (tag_of s) steps k l)

  pub whole_job : job_left s people steps rules ≡ job_of s people steps rules
  unfolding job_over job_of
  whole_job =
      let n = length s / 16 in
      let marks : zeros 64 ≡ table 64 (skipped_of s) steps = sym (table-zero 64 (skipped_of s) steps (omega (arith, few)) unmarked) in
      let permitted = sets_stay (permitted_of s) people (λ k l. below_power (length steps) _ (not_late s people steps rules n passes k l)) in
      let scopes =
      sets_stay (scope_of s) rules
      (λ k l. below_power (length steps) _ (rule_fields s (get_or rules k 0) (length steps) (rule_card s people steps rules n passes k l)).3) in
      let j = job_of s people steps rules in
      λ i.
      record {
        people = j.people;
        steps = all i;
        rules = j.rules;
        levels = j.levels;
        person_tag = j.person_tag;
        step_tag = tags_stay i;
        skipped = marks i;
        class = j.class;
        permitted = permitted i;
        rule_scope = scopes i;
        rule_kind = j.rule_kind;
        rule_level = j.rule_level;
        rule_limit = j.rule_limit;
      }
