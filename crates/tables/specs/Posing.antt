-- A readable job as the search takes it. Assumes nothing.
use Rattle.std.specs.Prelude.{Bool, ◌&&◌, List, ◌≡◌, ℕ, ◌^◌, ◌≤◌, ◌<◌, min, leb, length, get_or}
use Rattle.bits.specs.Below.{count}
use Rattle.bits.specs.Sizes.{most_levels}
use Rattle.bits.specs.Word.{has_bit}
use Rattle.remaining.specs.Kept.{kept_below}
use Rattle.sheet.specs.declared.SheetJob as sheet
use Rattle.workflow.specs.Problem.{least_of, most_of, heaviest_of}
use Rattle.workflow.specs.Numbered.{kind_in}
use Rattle.workflow.specs.Same.{SamePlans}
use Rattle.instance.specs.Instance.{class_number, instance_of, may_of}
use Rattle.pattern.specs.Number.{Numbering}
use Rattle.pattern.specs.Rule.{Packed}
use Rattle.pattern.specs.Tables.{class_in, may_in}
use Rattle.levels.specs.Tabled.{tabled_job, Ready}
use Rattle.levels.specs.declared.Tables.{Tables}

-- the levels, limits and scopes of the rules are small enough to be packed
pub record Packable (steps rules : ℕ) (level limit scope : List ℕ) : Type 0 where
  pub few_steps : steps ≤ 12
  pub few_rules : rules ≤ 64
  pub levels : length level ≡ 64
  pub limits : length limit ≡ 64
  pub scopes : length scope ≡ 64
  pub small_level : (i : ℕ) → i < rules → get_or level i 0 ≤ most_levels
  pub small_limit : (i : ℕ) → i < rules → get_or limit i 0 ≤ 12
  pub small_scope : (i : ℕ) → i < rules → get_or scope i 0 < 2 ^ steps

-- the least and the greatest count of a card's rule, and its greatest load, as `rule_of` has them
abbrev pub least_left : ℕ → ℕ → ℕ → ℕ → ℕ
least_left steps kind limit scope = min (least_of (kind_in kind) limit (count steps (has_bit scope))) (count steps (has_bit scope))

abbrev pub most_left : ℕ → ℕ → ℕ → ℕ
most_left steps kind limit = min (most_of (kind_in kind) limit steps) steps

abbrev pub load_left : ℕ → ℕ → ℕ → ℕ
load_left steps kind limit = min (heaviest_of (kind_in kind) limit steps) steps

-- the number holds the rule of a card's kind, level, limit and scope
abbrev pub Packs : ℕ → ℕ → ℕ → ℕ → ℕ → ℕ → Type 0
Packs steps kind level limit scope r = Packed level (least_left steps kind limit scope) (most_left steps kind limit) (load_left steps kind limit) scope r

-- no plan breaks a rule that is left with one step or none
abbrev pub unbroken : ℕ → ℕ → ℕ → ℕ → Bool
unbroken steps kind limit scope =
    leb (count steps (has_bit scope)) 1 && leb (count steps (has_bit scope)) (most_left steps kind limit) && leb (count steps (has_bit scope)) (load_left steps kind limit)

-- the others of the first n
abbrev pub breakable : ℕ → List ℕ → List ℕ → List ℕ → ℕ → List ℕ
breakable steps kind limit scope n = kept_below (λ i. unbroken steps (get_or kind i 0) (get_or limit i 0) (get_or scope i 0)) n

-- those as numbers
pub record PackedRules (steps n : ℕ) (kind level limit scope rule : List ℕ) (number : ℕ) : Type 0 where
  pub sized : length rule ≡ 64
  pub all : length (breakable steps kind limit scope n) ≡ number
  pub each : (k : ℕ) → k < number
      → let i = get_or (breakable steps kind limit scope n) k 0 in
      Packs steps (get_or kind i 0) (get_or level i 0) (get_or limit i 0) (get_or scope i 0) (get_or rule k 0)

-- level k of the tables has the classes of one level of the sheet, "numbered from 0 by first use in crew order, and two people get one
-- number exactly when they share the shop, or the bench", or whatever class the level has; the numbers are small
pub record LevelNumbers (people : ℕ) (j : sheet.SheetJob) (t : Tables) (k : ℕ) : Type 0 where
  pub level : ℕ
  pub from : 1 ≤ level
  pub to : level ≤ j.levels
  pub numbering : Numbering people (class_number j level) (class_in t.class k)
  pub small : (p : ℕ) → p < people → class_in t.class k p < 64

-- the tables pose the problem of the sheet: they have the same plans
pub record Poses (people steps rules : ℕ) (j : sheet.SheetJob) (t : Tables) : Type 0 where
  pub ready : Ready t
  pub same : SamePlans (instance_of people steps rules j) (tabled_job t)
  pub numbers : (k : ℕ) → 1 ≤ k → k ≤ t.size.levels → LevelNumbers people j t k

-- the masks have the people who are permitted each step by the sheet
pub record Permits (people steps : ℕ) (j : sheet.SheetJob) (may : List ℕ) : Type 0 where
  pub masks : length may ≡ 12
  pub permitted : (s p : ℕ) → s < steps → p < people → may_in may s p ≡ may_of j s p
