-- What holds while groups are given classes, one after the other. `at` lists the class of each group, 64 for none; `free` and `unseen`
-- are masks of classes: those that nobody has, and those that a search has not tried. Assumes nothing.
use Rattle.std.specs.Prelude.{Option, None, Some, Bool, true, false, ◌≡◌, List, ℕ, ◌≤◌, ◌<◌, length}
use Rattle.bits.specs.Word.{has_bit}
use Rattle.matching.specs.Assignment.{in_mask, suits, class_at}

-- group g has a class
abbrev pub Placed : List ℕ → ℕ → Type 0
Placed at g = class_at at g < 64

-- the classes given are along edges, nobody shares one, and none of them is free
pub record Held (edges at : List ℕ) (free : ℕ) : Type 0 where
  pub sized : length at ≡ 12
  pub most : (g : ℕ) → class_at at g ≤ 64
  pub along : (g : ℕ) → Placed at g → suits edges g (class_at at g) ≡ true
  pub apart : (g h : ℕ) → Placed at g → class_at at g ≡ class_at at h → g ≡ h
  pub taken : (g : ℕ) → Placed at g → has_bit free (class_at at g) ≡ false

-- a group that has class c, and none where none has
abbrev pub Holder : List ℕ → ℕ → Option ℕ → Type 0
Holder at c None = (k : ℕ) → k < 12 → class_at at k ≡ c → ⊥
Holder at c (Some h) = (h < 12) × (class_at at h ≡ c)

-- group g has no class, and may be given one
pub record Unserved (edges at : List ℕ) (free g : ℕ) : Type 0 where
  pub held : Held edges at free
  pub below : g < 12
  pub idle : class_at at g ≡ 64

-- and no free class suits it
pub record Crowded (edges at : List ℕ) (free g : ℕ) : Type 0 where
  pub ready : Unserved edges at free g
  pub spent : (c : ℕ) → suits edges g c ≡ true → has_bit free c ≡ false

-- class c has a holder all of whose classes are tried
pub record Blocked (edges at : List ℕ) (unseen c : ℕ) : Type 0 where
  pub who : ℕ
  pub has : class_at at who ≡ c
  pub all : (d : ℕ) → suits edges who d ≡ true → has_bit unseen d ≡ false

-- each class tried since `was` is blocked
pub record AllBlocked (edges at : List ℕ) (was unseen : ℕ) : Type 0 where
  pub shrunk : (c : ℕ) → has_bit unseen c ≡ true → has_bit was c ≡ true
  pub blocked : (c : ℕ) → has_bit was c ≡ true → has_bit unseen c ≡ false → Blocked edges at unseen c

-- group g has got a class, and the groups with a class are the others that had one
pub record Grown (edges at at' : List ℕ) (free' g : ℕ) : Type 0 where
  pub held : Held edges at' free'
  pub placed : Placed at' g
  pub kept : (k : ℕ) → Placed at k → Placed at' k
  pub only : (k : ℕ) → Placed at' k → (k ≡ g → ⊥) → Placed at k

-- nothing is changed, and every class of g and of those that block it is tried
pub record Stuck (edges at at' : List ℕ) (free free' unseen unseen' g : ℕ) : Type 0 where
  pub same : at' ≡ at
  pub unspent : free' ≡ free
  pub tried : AllBlocked edges at unseen unseen'
  pub own : (c : ℕ) → suits edges g c ≡ true → has_bit unseen' c ≡ false

-- a search for a class for g that has tried some: nothing is changed
pub record Searching (edges at at' : List ℕ) (free free' unseen unseen' g : ℕ) : Type 0 where
  pub same : at' ≡ at
  pub unspent : free' ≡ free
  pub crowded : Crowded edges at' free' g
  pub tried : AllBlocked edges at' unseen unseen'

-- what an attempt to give g a class comes to
pub record Placement (edges at at' : List ℕ) (free free' unseen unseen' g : ℕ) (won : Bool) : Type 0 where
  pub success : won ≡ true → Grown edges at at' free' g
  pub failure : won ≡ false → Stuck edges at at' free free' unseen unseen' g

-- the groups of the mask that are not in `rest` have classes, and no others
pub record Partial (edges : List ℕ) (groups : ℕ) (at : List ℕ) (free rest : ℕ) : Type 0 where
  pub held : Held edges at free
  pub part : (g : ℕ) → has_bit rest g ≡ true → in_mask groups g ≡ true
  pub placed : (g : ℕ) → in_mask groups g ≡ true → has_bit rest g ≡ false → Placed at g
  pub only : (g : ℕ) → Placed at g → (in_mask groups g ≡ true) × (has_bit rest g ≡ false)
