-- What the reader knows of a list of cards while it reads. Assumes nothing.
use Rattle.std.specs.Prelude.{Option, Some, None, Bool, false, not, cond, ◌&&◌, List, ◌≡◌, ℕ, suc, ◌+◌, ◌*◌, ◌<◌, ◌≤◌, eqb, ltb, length, get_or}
use Rattle.bits.specs.Below.{any}
use Rattle.bits.specs.Columns.{column_of}
use Rattle.bits.specs.Sizes.{most_class_levels}
use Rattle.card.specs.Fields.{class_levels}

-- the list is of cards of the sheet, as many as a chain may have
pub record Listing (s list : List ℕ) : Type 0 where
  pub fits : length list ≤ 64
  pub inside : (k : ℕ) → k < length list → 16 * get_or list k 0 + 16 ≤ length s

-- the sheet s has n cards and a good number of class levels, and the marks are those of the cards reached
pub record Marking (s : List ℕ) (n : ℕ) (marks : List Bool) (reached : ℕ → Bool) : Type 0 where
  pub some : 0 < n
  pub most : n ≤ 141
  pub whole : 16 * n ≤ length s
  pub levels : class_levels s ≤ most_class_levels
  pub size : length marks ≡ 141
  pub so_far : (c : ℕ) → get_or marks c false ≡ reached c

-- two equal tags of an array
abbrev pub equal_at : List ℕ → ℕ → ℕ → Bool
equal_at tags j k = eqb (get_or tags j 0) (get_or tags k 0)

-- one class with two above, of the classes of a level and those of the level above
abbrev pub moved_at : List ℕ → List ℕ → ℕ → ℕ → Bool
moved_at below above j k = equal_at below j k && not (equal_at above j k)

-- the same at one of n class levels but the first, of the table of all
abbrev pub moved_in : List ℕ → ℕ → ℕ → ℕ → Bool
moved_in class n j k = any n (λ q. moved_at (column_of class (suc (suc q))) (column_of class (suc q)) j k)

-- the place k where it is one of count, and none where it is past them
unfoldable pub place_below : ℕ → ℕ → Option ℕ
place_below count k = cond (ltb k count) (Some k) None
