-- What is known of a sheet that was read: of its cards, and of its job. The second is all that the crates above know of a job.
-- Assumes nothing.
use Rattle.std.specs.Prelude.{false, List, ◌++◌, ◌≡◌, ℕ, suc, ◌/◌, ◌^◌, ◌<◌, ◌≤◌, length, get_or}
use Rattle.bits.specs.Columns.{class_entry}
use Rattle.bits.specs.Member.{member}
use Rattle.bits.specs.Sizes.{most_levels, class_words}
use Rattle.card.specs.Layout.{person_kind, step_kind, rule_kind_lem}
use Rattle.card.specs.Fields.{first_person, first_step_lem, first_rule}
use Rattle.chain.specs.Answer.{chain_of}
use Rattle.chain.specs.Chained.{Chained}
use Rattle.sheet.specs.Answer.{job_of}
use Rattle.sheet.specs.Read.{job, on_two, read_sheet}
use Rattle.sheet.specs.declared.SheetJob.{SheetJob}

-- "Every card of the file hangs on one chain; only the header is on all three, as their start": the chains of a sheet s of n cards
pub record Chains (s : List ℕ) (n : ℕ) (people steps rules : List ℕ) : Type 0 where
  pub people_chain : Chained (chain_of s n person_kind 0 (λ c. false)) 64 (first_person s) people
  pub steps_chain : Chained (chain_of s n step_kind 0 (member people)) 12 (first_step_lem s) steps
  pub rules_chain : Chained (chain_of s n rule_kind_lem (length steps) (on_two people steps)) 64 (first_rule s) rules
  -- every card but the header is there, so every rule card is, the last one too
  pub covered : (c : ℕ) → 0 < c → c < n → (k : ℕ) × (k < length (people ++ steps ++ rules)) × (get_or (people ++ steps ++ rules) k 0 ≡ c)
  -- and none is there twice
  pub once : (i k : ℕ) → i < k → k < length (people ++ steps ++ rules)
      → get_or (people ++ steps ++ rules) i 0 ≡ get_or (people ++ steps ++ rules) k 0 → ⊥
  -- each is a card of the file, and not the header
  pub inside : (k : ℕ) → k < length (people ++ steps ++ rules) → get_or (people ++ steps ++ rules) k 0 < n
  pub some : (k : ℕ) → k < length (people ++ steps ++ rules) → 0 < get_or (people ++ steps ++ rules) k 0

-- the fields of person p
pub record PersonFields (steps : ℕ) (j : SheetJob) (p : ℕ) : Type 0 where
  pub tag : 0 < get_or j.person_tag p 0
  pub class : (q : ℕ) → 1 ≤ q → q < j.levels → 0 < class_entry j.class q p
  pub permitted : get_or j.permitted p 0 < 2 ^ steps

-- the fields of rule i
pub record RuleFields (steps : ℕ) (j : SheetJob) (i : ℕ) : Type 0 where
  pub level_from : 1 ≤ get_or j.rule_level i 0
  pub level_to : get_or j.rule_level i 0 ≤ j.levels
  pub scope : get_or j.rule_scope i 0 < 2 ^ steps
  pub limit : get_or j.rule_limit i 0 ≤ 12

-- the arrays have their sizes
pub record JobSized (j : SheetJob) : Type 0 where
  pub person_tag : length j.person_tag ≡ 64
  pub step_tag : length j.step_tag ≡ 12
  pub skipped : length j.skipped ≡ 64
  pub class : length j.class ≡ class_words
  pub permitted : length j.permitted ≡ 64
  pub scope : length j.rule_scope ≡ 64
  pub kind : length j.rule_kind ≡ 64
  pub level : length j.rule_level ≡ 64
  pub limit : length j.rule_limit ≡ 64

-- a job as a readable sheet gives it, with all its steps or with those that remain
pub record ReadableJob (people steps rules : ℕ) (j : SheetJob) : Type 0 where
  pub people_some : 1 ≤ people
  pub people_most : people ≤ 64
  pub steps_most : steps ≤ 12
  pub rules_most : rules ≤ 64
  -- one to three class levels, and the person
  pub levels_some : 2 ≤ j.levels
  pub levels_most : j.levels ≤ most_levels
  pub sized : JobSized j
  pub person : (p : ℕ) → p < people → PersonFields steps j p
  pub step_tag : (t : ℕ) → t < steps → 0 < get_or j.step_tag t 0
  pub rule : (i : ℕ) → i < rules → RuleFields steps j i
  -- tags differ
  pub person_tags : (p q : ℕ) → p < q → q < people → get_or j.person_tag p 0 ≡ get_or j.person_tag q 0 → ⊥
  pub step_tags : (t u : ℕ) → t < u → u < steps → get_or j.step_tag t 0 ≡ get_or j.step_tag u 0 → ⊥
  -- classes nest: "Two people on one bench are in one shop"; no class lies in two classes of the level above
  pub nested : (q p r : ℕ) → 1 ≤ q → suc q < j.levels → p < people → r < people
      → class_entry j.class (suc q) p ≡ class_entry j.class (suc q) r → class_entry j.class q p ≡ class_entry j.class q r

-- what is known where the reader gives a job, of the sheet s, of the counts and of the job j
pub record ReadSheet (s : List ℕ) (people steps rules : ℕ) (j : SheetJob) : Type 0 where
  pub person_cards : List ℕ
  pub step_cards : List ℕ
  pub rule_cards : List ℕ
  pub read : read_sheet s ≡ job person_cards step_cards rule_cards
  pub chains : Chains s (length s / 16) person_cards step_cards rule_cards
  pub people_count : length person_cards ≡ people
  pub steps_count : length step_cards ≡ steps
  pub rules_count : length rule_cards ≡ rules
  pub filled : j ≡ job_of s person_cards step_cards rule_cards
  pub readable : ReadableJob people steps rules j

-- what is known of a refusal of the reader: its number, and that its card is one that a sheet can have
pub record ReadRefusal (f c : ℕ) : Type 0 where
  pub from : 3 ≤ f
  pub to : f ≤ 12
  pub card : c < 141
