-- Patterns, as section 3.1 of document 004 has them: which of the placed steps share a class, at each level. The levels are those of a
-- job, and the last of them need not be the person. Assumes nothing.
use Rattle.std.specs.Prelude.{Bool, true, ◌&&◌, ◌≡◌, ℕ, suc, ◌≤◌, ◌<◌, eqb}
use Rattle.bits.specs.Below.{first}
use Rattle.workflow.specs.Problem.{Job, Plan}
use Rattle.workflow.specs.Independent.{Alike, classes_of}

-- the classes of each level refine those of the level above
pub record Refining (j : Job) : Type 0 where
  pub finer : (q p p' : ℕ) → 1 ≤ q → q < j.levels → p < j.people → p' < j.people
      → j.class (suc q) p ≡ j.class (suc q) p' → j.class q p ≡ j.class q p'

-- of a level and a step, the label of the step's group
abbrev pub Label : Type 0
Label = ℕ → ℕ → ℕ

-- the label of each step of S is a step of S in the same group
pub record Labelled (steps : ℕ) (S : ℕ → Bool) (c : ℕ → ℕ) : Type 0 where
  pub below : (s : ℕ) → s < steps → S s ≡ true → c s < steps
  pub among : (s : ℕ) → s < steps → S s ≡ true → S (c s) ≡ true
  pub own : (s : ℕ) → s < steps → S s ≡ true → c (c s) ≡ c s

-- steps of S that share a group share one at the level above: the document's "consistent"
pub record Consistent (steps levels : ℕ) (S : ℕ → Bool) (label : Label) : Type 0 where
  pub finer : (q s t : ℕ) → 1 ≤ q → q < levels → s < steps → t < steps → S s ≡ true → S t ≡ true
      → label (suc q) s ≡ label (suc q) t → label q s ≡ label q t

-- a pattern of the placed steps
pub record Pattern (steps levels : ℕ) (placed : ℕ → Bool) (label : Label) : Type 0 where
  pub labelled : (q : ℕ) → 1 ≤ q → q ≤ levels → Labelled steps placed (label q)
  pub consistent : Consistent steps levels placed label

-- the plan has the pattern: at each level, placed steps share a class exactly where they share a label
pub record Has (j : Job) (placed : ℕ → Bool) (label : Label) (π : Plan) : Type 0 where
  pub alike : (q : ℕ) → 1 ≤ q → q ≤ j.levels → Alike j.steps placed (classes_of j q π) (label q)

-- two patterns are one as far as steps and levels go
pub record SamePattern (steps levels : ℕ) (placed placed' : ℕ → Bool) (label label' : Label) : Type 0 where
  pub sets : (s : ℕ) → s < steps → placed s ≡ placed' s
  pub labels : (q s : ℕ) → 1 ≤ q → q ≤ levels → s < steps → placed s ≡ true → label q s ≡ label' q s

-- the pattern of a plan: a step's label is the first placed step that shares its class
unfoldable pub pattern_of : Job → (ℕ → Bool) → Plan → Label
pattern_of j placed π q s = first j.steps (λ t. placed t && eqb (classes_of j q π t) (classes_of j q π s))
