-- Realizability of a pattern, as section 3.3 of document 004 has it. Sets of steps are written S, sets of people C. Assumes nothing.
use Rattle.std.specs.Prelude.{Bool, true, ◌&&◌, ◌≡◌, ℕ, zero, suc, ◌≤◌, ◌<◌, eqb}
use Rattle.workflow.specs.Problem.{Job, May, Plan}
use Rattle.workflow.specs.Independent.{Alike, classes_of}
use Rattle.pattern.specs.Pattern.{Label}

-- π is an "authorized partial plan" of S into C, and the labels of the levels below q are its pattern on S
pub record Realizes (j : Job) (may : May) (label : Label) (q : ℕ) (S C : ℕ → Bool) (π : Plan) : Type 0 where
  pub within : (s : ℕ) → s < j.steps → S s ≡ true → π s < j.people
  pub inside : (s : ℕ) → s < j.steps → S s ≡ true → C (π s) ≡ true
  pub authorised : (s : ℕ) → s < j.steps → S s ≡ true → may s (π s) ≡ true
  pub alike : (r : ℕ) → q < r → r ≤ j.levels → Alike j.steps S (classes_of j r π) (label r)

-- the steps of S can go to people of C
abbrev pub Realized : Job → May → Label → ℕ → (ℕ → Bool) → (ℕ → Bool) → Type 0
Realized j may label q S C = (π : Plan) × Realizes j may label q S C π

-- "collectively authorized": each step of S has somebody in C
abbrev pub Staffed : Job → May → (ℕ → Bool) → (ℕ → Bool) → Type 0
Staffed j may S C = (s : ℕ) → s < j.steps → S s ≡ true → (p : ℕ) × (p < j.people) × (C p ≡ true) × (may s p ≡ true)

-- the members of S to which c gives v
unfoldable pub fibre : (ℕ → Bool) → (ℕ → ℕ) → ℕ → ℕ → Bool
fibre S c v s = S s && eqb (c s) v

-- the groups inside S: each is named by its label, c giving the label of each step
unfoldable pub groups : (ℕ → Bool) → (ℕ → ℕ) → ℕ → Bool
groups S c g = S g && eqb (c g) g

-- C holds whole classes of level q
pub record Whole (j : Job) (q : ℕ) (C : ℕ → Bool) : Type 0 where
  pub classmate : (p p' : ℕ) → p < j.people → p' < j.people → j.class q p ≡ j.class q p' → C p ≡ true → C p' ≡ true

-- an edge of the document's graph G(S, C, q): group g of S can go to class v of C, both of level q + 1
abbrev pub Hosts : Job → May → Label → ℕ → (ℕ → Bool) → (ℕ → Bool) → ℕ → ℕ → Type 0
Hosts j may label q S C g v = Realized j may label (suc q) (fibre S (label (suc q)) g) (fibre C (j.class (suc q)) v)

-- f is a matching that covers the groups, which are numbers below n
pub record Matching (n : ℕ) (group : ℕ → Bool) (Edge : ℕ → ℕ → Type 0) (f : ℕ → ℕ) : Type 0 where
  pub along : (g : ℕ) → g < n → group g ≡ true → Edge g (f g)
  pub injective : (g g' : ℕ) → g < n → g' < n → group g ≡ true → group g' ≡ true → f g ≡ f g' → g ≡ g'

-- the placed steps of group g of level q; at level 0, all of them
unfoldable pub group_of : (ℕ → Bool) → Label → ℕ → ℕ → ℕ → Bool
group_of placed label zero g = placed
group_of placed label (suc q) g = fibre placed (label (suc q)) g

-- the people of class v of level q; at level 0, everybody
unfoldable pub class_of : Job → ℕ → ℕ → ℕ → Bool
class_of j zero v p = true
class_of j (suc q) v p = eqb (j.class (suc q) p) v

-- group g of level q can go to class v of level q
abbrev pub RealizedAt : Job → May → (ℕ → Bool) → Label → ℕ → ℕ → ℕ → Type 0
RealizedAt j may placed label q g v = Realized j may label q (group_of placed label q g) (class_of j q v)

-- an edge between group g of level q + 1 and class v of level q + 1, which has somebody inside class u of level q
pub record HostsAt (j : Job) (may : May) (placed : ℕ → Bool) (label : Label) (q u g v : ℕ) : Type 0 where
  pub person : ℕ
  pub below : person < j.people
  pub inside : class_of j q u person ≡ true
  pub class : j.class (suc q) person ≡ v
  pub realized : RealizedAt j may placed label (suc q) g v
