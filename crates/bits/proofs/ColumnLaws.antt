-- The classes of a level as a list. Assumes nothing.
use mathlib.Core.List.{List}
use mathlib.Core.Path.{◌≡◌, ◌∙◌}
use Prim.Native.Nat.{ℕ, ◌+◌, ◌*◌, ◌-◌, ◌<◌, ◌≤◌}
use native.Mathlib.Omega.{arith}
use lib.ListN.{length, get_or, drop, length-drop}
use lib.Seq.{length-take-le, get_or-take, get_or-drop}
use Rattle.bits.specs.Columns.{column_of, class_entry}
use Rattle.bits.specs.Sizes.{most_class_levels, class_words}

module _ (class : List ℕ) (q : ℕ) where
  pub column_entry : (p : ℕ) → p < 64 → class_entry class q p ≡ get_or class ((q - 1) * 64 + p) 0
  column_entry p l = get_or-take 64 (drop ((q - 1) * 64) class) p 0 l ∙ get_or-drop ((q - 1) * 64) class p 0

  pub column_length : length class ≡ class_words → 1 ≤ q → q ≤ most_class_levels → length (column_of class q) ≡ 64
  column_length e l m = length-take-le 64 (drop ((q - 1) * 64) class) (omega (arith, length-drop ((q - 1) * 64) class))
