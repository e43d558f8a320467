-- The largest load of some steps of a rule's scope. Assumes nothing.
use mathlib.Core.Bool.{true}
use mathlib.Core.List.{List}
use mathlib.Core.Path.{◌≡◌, ◌∙◌}
use Prim.Native.Nat.{ℕ, ◌%◌, ◌^◌, ◌≤◌, ◌<◌}
use native.Mathlib.Omega.{arith}
use lib.Count.{ones}
use lib.ListN.{get_or}
use Rattle.bits.specs.Word.{has_bit}
use Rattle.bits.proofs.Counting.{count_mono}
use Rattle.bits.proofs.Masks.{bits_below}
use Rattle.bits.proofs.SetLaws.{has_below}
use Rattle.bits.proofs.Ones.{ones_bits}
use Rattle.workflow.specs.Problem.{largest_load}
use Rattle.workflow.proofs.Loads.{largest_load_scope}
use Rattle.workflow.proofs.Tally.{tallied_labels}
use Rattle.pattern.specs.Rule.{load_in, scope_in}

-- where no label can have more steps of the scope than it may, none has
pub light_part : (rule n steps : ℕ) (k : ℕ → ℕ) → scope_in rule < 2 ^ n → ((s : ℕ) → has_bit steps s ≡ true → has_bit (scope_in rule) s ≡ true)
    → ones (scope_in rule) ≤ load_in rule → largest_load n (has_bit steps) k ≤ load_in rule
light_part rule n steps k within part l =
    let few = largest_load_scope n (has_bit steps) k in
    let less = count_mono n (has_bit steps) (has_bit (scope_in rule)) (λ s b h. part s h) in
    omega (arith, ones_bits n (scope_in rule) within)

-- a tally of a row that has the labels is one of the labels
pub row_load : (rule n : ℕ) {steps load : ℕ} (row : List ℕ) (k : ℕ → ℕ) → scope_in rule < 2 ^ n
    → ((s : ℕ) → has_bit steps s ≡ true → has_bit (scope_in rule) s ≡ true)
    → ((m : ℕ) → steps < 2 ^ m → load ≡ largest_load m (has_bit steps) (λ s. get_or row s 0 % 64))
    → ((s : ℕ) → has_bit steps s ≡ true → get_or row s 0 ≡ k s) → ((s : ℕ) → has_bit steps s ≡ true → k s < 64)
    → load ≡ largest_load n (has_bit steps) k
row_load rule n {steps} row k within part tallied is small =
    tallied n (bits_below n steps (λ s h. has_below n (scope_in rule) s within (part s h))) ∙ tallied_labels steps k row is small n
