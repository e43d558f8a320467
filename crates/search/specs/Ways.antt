-- What the ways of a step are counted by. Assumes nothing.
use Rattle.std.specs.Prelude.{◌≡◌, length}
use Rattle.bits.specs.Sizes.{label_entries}
use Rattle.search.specs.declared.ways.Leeway.{Leeway}

-- the arrays have an entry for each step at each level
abbrev pub Tabular : Leeway → Type 0
Tabular l = (length l.reach.now ≡ label_entries) × (length l.free.now ≡ label_entries) × (length l.label.now ≡ label_entries)
