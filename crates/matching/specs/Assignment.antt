-- Assignments of classes to groups, and what the answer of a matching says of them, over any relation of groups and classes.
-- Assumes nothing.
use Rattle.std.specs.Prelude.{Option, None, Some, Bool, true, false, ◌&&◌, ◌≡◌, List, ℕ, ltb, get_or}
use Rattle.bits.specs.Word.{has_bit}

-- f gives each group a class along an edge, and no two groups one class
pub record Assignment (group : ℕ → Bool) (edge : ℕ → ℕ → Bool) (f : ℕ → ℕ) : Type 0 where
  pub along : (g : ℕ) → group g ≡ true → edge g (f g) ≡ true
  pub apart : (g h : ℕ) → group g ≡ true → group h ≡ true → f g ≡ f h → g ≡ h

-- what an answer says: the assignment found is one, and where none is found there is none
pub record Covers (group : ℕ → Bool) (edge : ℕ → ℕ → Bool) (found : Bool) (f : ℕ → ℕ) : Type 0 where
  pub sound : found ≡ true → Assignment group edge f
  pub complete : found ≡ false → (e : ℕ → ℕ) → Assignment group edge e → ⊥

-- the groups of a mask, numbered below 12
abbrev pub in_mask : ℕ → ℕ → Bool
in_mask groups g = ltb g 12 && has_bit groups g

-- class c, numbered below 64, suits group g
abbrev pub suits : List ℕ → ℕ → ℕ → Bool
suits edges g c = ltb c 64 && has_bit (get_or edges g 0) c

-- the class that group g has, and 64 where it has none
abbrev pub class_at : List ℕ → ℕ → ℕ
class_at at g = get_or at g 64

-- the same of an answer: no group has one where nothing is found
abbrev pub classes_of : Option (List ℕ) → ℕ → ℕ
classes_of None g = 64
classes_of (Some at) g = class_at at g
