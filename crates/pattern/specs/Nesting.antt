-- What lies inside each class, by the number of the class: 64 masks a level, b being the level less one. Assumes nothing.
use Rattle.std.specs.Prelude.{true, cond, List, ◌≡◌, ℕ, suc, ◌+◌, ◌*◌, ◌<◌, leb, length, get_or}
use Rattle.bits.specs.Word.{has_bit}
use Rattle.bits.specs.Sizes.{class_entries}
use Rattle.pattern.specs.Tables.{number_in}

-- what p stands for inside a class: the class of the next level or, at the last level, the person
abbrev pub part_in : ℕ → List ℕ → ℕ → ℕ → ℕ
part_in levels class b p = cond (leb levels (suc b)) p (number_in class (suc b) p)

-- `inside` has at the number of each class what its people stand for: at least of those whose entry stands before x
pub record ByNumber (people levels : ℕ) (class : List ℕ) (part : ℕ → ℕ → ℕ) (x : ℕ) (inside : List ℕ) : Type 0 where
  pub sized : length inside ≡ class_entries
  pub has : (b p : ℕ) → b < levels → p < people → b * 64 + p < x → has_bit (get_or inside (b * 64 + number_in class b p) 0) (part b p) ≡ true
  pub only : (b v w : ℕ) → b < levels → v < 64 → has_bit (get_or inside (b * 64 + v) 0) w ≡ true
      → (p : ℕ) × (p < people) × (number_in class b p ≡ v) × (part b p ≡ w)

-- the classes of the next level or, at the last level, the people
abbrev pub Nesting : ℕ → ℕ → List ℕ → List ℕ → Type 0
Nesting people levels class inside = ByNumber people levels class (part_in levels class) (levels * 64) inside
