-- An entry of the minutes book: the work of one person at one step. Assumes nothing.
use mathlib.Core.List.{List}
use Prim.Native.Nat.{ℕ}
use lib.ListN.{get_or}

-- the person by tag, and the minutes of the step
pub record Entry : Type 0 where
  pub tag : ℕ
  pub quoted : ℕ
  pub taken : ℕ

abbrev pub entry : ℕ → ℕ → ℕ → Entry
entry tag quoted taken = record { tag = tag; quoted = quoted; taken = taken }

abbrev pub no_entry : Entry
no_entry = entry 0 0 0

-- entry k of some
abbrev pub entry_at : List Entry → ℕ → Entry
entry_at es k = get_or es k no_entry
