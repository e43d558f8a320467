-- The rows of the levels that are kept, copied into a new array. Assumes nothing.
use mathlib.Core.List.{List}
use mathlib.Core.Path.{◌≡◌, sym, subst, ap, ap₂, ◌∙◌}
use Prim.Native.Nat.{ℕ, zero, suc, ◌+◌, ◌*◌, ◌-◌, ◌/◌, ◌%◌, ◌≤◌, ◌<◌}
use native.Mathlib.Omega.{arith}
use lib.Dec.{eqb}
use lib.ListN.{length, get_or, set, length-set}
use lib.Seq.{get_or-set_same, get_or-set_other}
use borrow.Author.Tests.{eqb-true, eqb-false}
use Rattle.bits.proofs.Below.{by_cases}
use Rattle.bits.proofs.Copied.{Copied}
use Rattle.bits.specs.Sizes.{class_entries}
use Rattle.pattern.specs.Rule.{level_in, least_in, most_in, load_in, scope_in, Packed}
use Rattle.pattern.specs.Tables.{class_in}
use Rattle.levels.specs.Trims.{KeptLevels, OldLevels, Rows, Renumbered}

-- entry x of the classes kept
abbrev pub row_entry : List ℕ → List ℕ → ℕ → ℕ
row_entry old class x = get_or class ((get_or old (x / 64 + 1) 0 - 1) * 64 + x % 64) 0

pub row_to : {levels n : ℕ} {old : List ℕ} → OldLevels levels n old → (x : ℕ) → x < n * 64 → get_or old (x / 64 + 1) 0 ≤ levels
row_to w x l = w.to (x / 64 + 1) (omega arith) (omega arith)

pub copied_rows : (n x : ℕ) (old class class' : List ℕ) → Copied class_entries x (row_entry old class) class' → n * 64 ≤ x → Rows n old class class'
copied_rows n x old class class' w l =
    record {
      sized = w.sized;
      each = λ k p a b m.
          let e : ((k - 1) * 64 + p) / 64 + 1 ≡ k = omega arith in
          let f : ((k - 1) * 64 + p) % 64 ≡ p = omega arith in
          w.each ((k - 1) * 64 + p) (omega arith) ∙ ap₂ (λ (u v : ℕ). get_or class ((get_or old u 0 - 1) * 64 + v) 0) e f;
    }

-- one rule more has its new level
pub renumbered_more : (n x : ℕ) (rule new rule' : List ℕ) → n < 64
    → Packed (get_or new (level_in (get_or rule n 0)) 0 % 16) (least_in (get_or rule n 0)) (most_in (get_or rule n 0)) (load_in (get_or rule n 0)) (scope_in (get_or rule n 0)) x
    → Renumbered n rule new rule' → Renumbered (n + 1) rule new (set rule' n x)
renumbered_more n x rule new rule' l p w =
    record {
      sized = length-set rule' n x ∙ w.sized;
      each = λ i b.
          by_cases (eqb i n)
          (λ t.
          let e : i ≡ n = eqb-true i n t in
          subst (λ (k : ℕ). Is k (get_or (set rule' n x) k 0)) (sym e)
          (subst (Is n) (sym (get_or-set_same rule' n x 0 (omega (arith, w.sized)))) p))
          (λ t.
          let d : i ≡ n → ⊥ = eqb-false i n t in
          subst (Is i) (sym (get_or-set_other rule' n i x 0 d)) (w.each i (omega arith)));
    }
  where
    Is : ℕ → ℕ → Type 0
    Is i r = Packed (get_or new (level_in (get_or rule i 0)) 0 % 16) (least_in (get_or rule i 0)) (most_in (get_or rule i 0)) (load_in (get_or rule i 0)) (scope_in (get_or rule i 0)) r

-- where all levels are kept, each has its number
module _ {n : ℕ} {old : List ℕ} (w : OldLevels n n old) where
  number_from : (k : ℕ) → 1 ≤ k → k ≤ n → k ≤ get_or old k 0
  number_from zero l m = absurd (omega arith)
  number_from (suc zero) l m = w.from 1 l m
  number_from (suc (suc k)) l m = omega (arith, number_from (suc k) (omega arith) (omega arith), w.ordered (suc k) (omega arith) m)

  number_to : (d k : ℕ) → 1 ≤ k → k + d ≡ n → get_or old k 0 + d ≤ n
  number_to zero k l e = omega (arith, w.to k l (omega arith))
  number_to (suc d) k l e = omega (arith, number_to d (suc k) (omega arith) (omega arith), w.ordered k l (omega arith))

  pub rows_all : (class : List ℕ) → length class ≡ class_entries → Rows n old class class
  rows_all class e =
      record {
        sized = e;
        each = λ k p a b l.
            let same : k ≡ get_or old k 0 = omega (arith, number_from k a b, number_to (n - k) k a (omega arith)) in
            ap (λ (q : ℕ). class_in class q p) same;
      }
