-- The figures of a rule for a pattern, and what the judgement by them says. Assumes nothing.
use mathlib.Core.Bool.{Bool, true, false, not, ◌&&◌}
use mathlib.Core.List.{List}
use mathlib.Core.Path.{◌≡◌, sym, subst, ap, ◌∙◌}
use Prim.Native.Nat.{ℕ, ◌^◌, ◌≤◌, ◌<◌}
use lib.Bits.{bit_and}
use lib.Dec.{eqb}
use lib.ListN.{get_or}
use borrow.Author.Tests.{eqb-true, eqb-false}
use Rattle.bits.specs.Below.{count}
use Rattle.bits.specs.Says.{Says}
use Rattle.bits.specs.Word.{has_bit}
use Rattle.bits.specs.Set.{FirstAndRest}
use Rattle.bits.proofs.Below.{by_cases}
use Rattle.bits.proofs.Masks.{taken_was, bits_below}
use Rattle.bits.proofs.Says.{says_of, says_true, says_false}
use Rattle.bits.proofs.SetLaws.{and-bit, and-bit_left, and-bit_right, has_below, removed_other}
use Rattle.workflow.specs.Problem.{distinct, largest_load}
use Rattle.pattern.proofs.Same.{distinct_scope_cong, load_scope_cong}
use Rattle.pattern.specs.Rule.{scope_in, level_in, load_in, unpacked}
use Rattle.pattern.specs.Tables.{label_in, rule_in}
use Rattle.pattern.specs.Eligible.{group_count, group_load, open_count, CanBeMet, Possible}
use Rattle.eligible.specs.Labels.{LabelsReady}
use Rattle.eligible.specs.Rules.{ForSteps}

-- labels of placed steps are there for a part of them
pub ready_part : (scope : ℕ) {placed level : ℕ} {label : List ℕ} → LabelsReady placed level label → LabelsReady (bit_and scope placed) level label
ready_part scope {placed} {level} {label} w =
    record {
      row = record {
        sized = w.row.sized;
        from = w.row.from;
        to = w.row.to;
        below = bits_below 12 (bit_and scope placed) (λ s h. has_below 12 placed s w.row.below (and-bit_right scope placed s h));
      };
      labels = λ s h. w.labels s (and-bit_right scope placed s h);
    }

-- the figures of a rule that is a number, from what is read of it
module _ (rule placed : ℕ) {scope : ℕ} (its_scope : scope ≡ scope_in rule) (steps : ℕ) (within : scope_in rule < 2 ^ steps) where
  its_within : scope < 2 ^ steps
  its_within = subst (λ (m : ℕ). m < 2 ^ steps) (sym its_scope) within

  pub groups-counted : (label : List ℕ) {level groups : ℕ} → level ≡ level_in rule
      → ((n : ℕ) → bit_and scope placed < 2 ^ n → groups ≡ distinct n (has_bit (bit_and scope placed)) (label_in label level))
      → groups ≡ group_count steps (has_bit placed) (label_in label) (unpacked rule)
  groups-counted label {level} its_level g =
      g steps (bits_below steps _ (λ s h. has_below steps scope s its_within (and-bit_left scope placed s h)))
      ∙ distinct_scope_cong steps (has_bit (bit_and scope placed)) (λ s. has_bit scope s && has_bit placed s) (label_in label level)
      (λ s l. and-bit scope placed s)
      ∙ ap (λ (q : ℕ). distinct steps (λ s. has_bit scope s && has_bit placed s) (label_in label q)) its_level
      ∙ ap (λ (m : ℕ). distinct steps (λ s. has_bit m s && has_bit placed s) (label_in label (level_in rule))) its_scope

  -- the largest load of the placed steps of the scope
  pub groups_light : (label : List ℕ) {level : ℕ} → level ≡ level_in rule → (b : Bool)
      → Says b (largest_load steps (has_bit (bit_and scope placed)) (label_in label level) ≤ load_in rule)
      → Says b (group_load steps (has_bit placed) (label_in label) (unpacked rule) ≤ load_in rule)
  groups_light label {level} its_level b says =
      subst (λ (x : ℕ). Says b (x ≤ load_in rule))
      (load_scope_cong steps (has_bit (bit_and scope placed)) (λ s. has_bit scope s && has_bit placed s) (label_in label level)
      (λ s l. and-bit scope placed s)
      ∙ ap (λ (q : ℕ). largest_load steps (λ s. has_bit scope s && has_bit placed s) (label_in label q)) its_level
      ∙ ap (λ (m : ℕ). largest_load steps (λ s. has_bit m s && has_bit placed s) (label_in label (level_in rule))) its_scope)
      says

  -- the judgement by the count
  pub counted_says : (label : List ℕ) {groups left : ℕ} → groups ≡ group_count steps (has_bit placed) (label_in label) (unpacked rule)
      → ((n : ℕ) → scope < 2 ^ n → left ≡ count n (λ s. has_bit scope s && not (has_bit placed s)))
      → (r : Bool) → Says r (CanBeMet (unpacked rule) groups left)
      → Says r (CanBeMet (unpacked rule) (group_count steps (has_bit placed) (label_in label) (unpacked rule)) (open_count steps (has_bit placed) (unpacked rule)))
  counted_says label {groups} {left} g o r h =
      let open-steps : left ≡ open_count steps (has_bit placed) (unpacked rule)
      = o steps its_within ∙ ap (λ (m : ℕ). count steps (λ s. has_bit m s && not (has_bit placed s))) its_scope in
      subst (λ (n : ℕ). Says r (CanBeMet (unpacked rule) (group_count steps (has_bit placed) (label_in label) (unpacked rule)) n)) open-steps
      (subst (λ (n : ℕ). Says r (CanBeMet (unpacked rule) n left)) g h)

-- a rule whose count can be met can be met exactly where no group holds too many steps
pub possible_says : (steps rule placed : ℕ) (label : List ℕ)
    → CanBeMet (unpacked rule) (group_count steps (has_bit placed) (label_in label) (unpacked rule)) (open_count steps (has_bit placed) (unpacked rule))
    → (r : Bool) → Says r (group_load steps (has_bit placed) (label_in label) (unpacked rule) ≤ load_in rule)
    → Says r (Possible steps (has_bit placed) (label_in label) (unpacked rule))
possible_says steps rule placed label counted r h =
    says_of r _ (λ t. record { counted = counted; load = says_true r _ h t }) (λ t p. says_false r _ h t p.load)

-- ---- the rules of a mask

-- where the loop stands: all but the rules left can be met
pub record Tested (among rest : ℕ) (rule : List ℕ) (placed : ℕ) (label : List ℕ) : Type 0 where
  pub part : (i : ℕ) → has_bit rest i ≡ true → has_bit among i ≡ true
  pub possible : ForSteps among rule
      (λ steps. (i : ℕ) → has_bit among i ≡ true → has_bit rest i ≡ false → Possible steps (has_bit placed) (label_in label) (rule_in rule i))

module _ {among : ℕ} {rule : List ℕ} {placed : ℕ} {label : List ℕ} where
  module _ {rest i rest' : ℕ} (w : Tested among rest rule placed label) (first : FirstAndRest rest i rest') (r : Bool)
      (says : (steps : ℕ) → scope_in (get_or rule i 0) < 2 ^ steps → Says r (Possible steps (has_bit placed) (label_in label) (rule_in rule i))) where
    -- the rule of the turn is one of the mask
    chosen : has_bit among i ≡ true
    chosen = w.part i first.lowest.has

    pub tested_next : r ≡ true → Tested among rest' rule placed label
    tested_next e =
        record {
          part = λ k h. w.part k (taken_was first k h);
          possible = λ steps within k h n.
              by_cases (eqb k i)
              (λ t. subst (λ (x : ℕ). Possible steps (has_bit placed) (label_in label) (rule_in rule x)) (sym (eqb-true k i t))
              (says_true r _ (says steps (within i chosen)) e))
              (λ t. w.possible steps within k h (sym (removed_other first.removed k (eqb-false k i t)) ∙ n));
        }
