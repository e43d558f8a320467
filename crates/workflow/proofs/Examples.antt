-- Example 2.2 of document 004: its plans are tested. Assumes nothing.
use mathlib.Core.Bool.{true, false}
use mathlib.Core.List.{[], ◌∷◌}
use mathlib.Core.Path.{◌≡◌, refl}
use Prim.Native.Nat.{ℕ, zero, suc}
use lib.ListN.{get_or}
use Rattle.bits.specs.Below.{all, any, count}
use Rattle.bits.specs.Word.{has_bit}
use Rattle.workflow.specs.Problem.{Kind, Rule, Job, May, rule_of, same, different, opens, distinct, load_of, largest, largest_load, authorised_test, eligible_test, valid}
use Rattle.workflow.specs.First.{plan_of}

-- a rule over two steps, scope bit j for step j
abbrev pair : Kind → ℕ → ℕ → Rule
pair kind level scope = rule_of 6 kind level 0 (has_bit scope)

-- Table I of document 004: department, section and user of u₁ to u₉
abbrev pub class_table : ℕ → ℕ → ℕ
class_table zero p = 0
class_table (suc zero) p = get_or (1 ∷ 1 ∷ 1 ∷ 1 ∷ 1 ∷ 2 ∷ 2 ∷ 2 ∷ 2 ∷ []) p 0
class_table (suc (suc zero)) p = get_or (11 ∷ 11 ∷ 12 ∷ 12 ∷ 12 ∷ 21 ∷ 21 ∷ 22 ∷ 22 ∷ []) p 0
class_table (suc (suc (suc q))) p = p

-- the users that each of s₁ to s₆ is permitted, bit i for uᵢ₊₁
abbrev pub may_table : May
may_table s p = has_bit (get_or (61 ∷ 386 ∷ 261 ∷ 192 ∷ 152 ∷ 384 ∷ []) s 0) p

-- the rules that its section 1 lists, Figure 1(c): s₁ and s₃ in one section; s₁ and s₂ in one department, different users; s₃ and s₅ in
-- one department, different sections; s₁ and s₄, and s₂ and s₆, in different departments; s₄ and s₆ different users
abbrev pub job_table : Job
job_table =
    record {
      steps = 6;
      people = 9;
      levels = 3;
      class = class_table;
      rules = 8;
      rule = λ i.
          get_or
          (pair same 2 5 ∷ pair same 1 3 ∷ pair different 3 3 ∷ pair same 1 20 ∷ pair different 2 20
          ∷ pair different 1 9 ∷ pair different 1 34 ∷ pair different 3 40 ∷ []) i (pair same 1 0);
    }

-- its plan (2) is valid: u₁, u₂, u₁, u₈, u₄, u₉
pub plan_2_valid : valid job_table may_table (plan_of (0 ∷ 1 ∷ 0 ∷ 7 ∷ 3 ∷ 8 ∷ [])) ≡ true
unfolding all any count opens distinct load_of largest largest_load authorised_test eligible_test valid
plan_2_valid = refl

-- its plan (1) is authorised and not eligible: u₁, u₈, u₁, u₈, u₈, u₉
pub plan_1_authorised : authorised_test job_table may_table (plan_of (0 ∷ 7 ∷ 0 ∷ 7 ∷ 7 ∷ 8 ∷ [])) ≡ true
unfolding all authorised_test
plan_1_authorised = refl

pub plan_1_not_eligible : eligible_test job_table (plan_of (0 ∷ 7 ∷ 0 ∷ 7 ∷ 7 ∷ 8 ∷ [])) ≡ false
unfolding all any count opens distinct load_of largest largest_load eligible_test
plan_1_not_eligible = refl

-- one that breaks the last rule alone, u₈ doing both s₄ and s₆: u₁, u₂, u₁, u₈, u₄, u₈
pub plan_last_rule_authorised : authorised_test job_table may_table (plan_of (0 ∷ 1 ∷ 0 ∷ 7 ∷ 3 ∷ 7 ∷ [])) ≡ true
unfolding all authorised_test
plan_last_rule_authorised = refl

pub plan_last_rule_not_eligible : eligible_test job_table (plan_of (0 ∷ 1 ∷ 0 ∷ 7 ∷ 3 ∷ 7 ∷ [])) ≡ false
unfolding all any count opens distinct load_of largest largest_load eligible_test
plan_last_rule_not_eligible = refl
