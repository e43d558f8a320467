-- The groups that begin with some people and go on with others in crew order, and what going through them comes to. Assumes nothing.
use Rattle.std.specs.Prelude.{Option, None, Some, List, [], ◌∷◌, ◌++◌, ◌≡◌, ℕ, ◌+◌, ◌≤◌, ◌<◌, length, get_or}
use Rattle.bits.specs.Member.{member}
use Rattle.workflow.specs.Problem.{Job, May, Satisfiable}
use Rattle.workflow.specs.First.{plan_of, Earlier}
use Rattle.resiliency.specs.Away.{without, Group, Breaks}
use Rattle.resiliency.specs.Group.{members_in, Sized}
use Rattle.resiliency.specs.declared.group.Group as code

-- zs has k people in crew order, all of them from one on
pub record Onward (people from k : ℕ) (zs : List ℕ) : Type 0 where
  pub group : Group people k zs
  pub above : (i : ℕ) → i < k → from ≤ get_or zs i 0

-- the job has a valid plan without them
abbrev pub Stands : Job → May → List ℕ → Type 0
Stands j may xs = Satisfiable j (without may (member xs))

-- of those that go on with k people from one on, the absence of xs and zs is the first that leaves no valid plan
pub record FirstOf (j : Job) (may : May) (xs : List ℕ) (from k : ℕ) (zs : List ℕ) : Type 0 where
  pub onward : Onward j.people from k zs
  pub breaks : Breaks j may (xs ++ zs)
  pub before : (ys : List ℕ) → Onward j.people from k ys → Earlier k (plan_of ys) (plan_of zs) → Stands j may (xs ++ ys)

-- the group that is found, or none
abbrev pub FirstFrom : Job → May → List ℕ → ℕ → ℕ → Option code.Group → Type 0
FirstFrom j may xs from k None = (zs : List ℕ) → Onward j.people from k zs → Stands j may (xs ++ zs)
FirstFrom j may xs from k (Some g) = Sized g × (g.size ≡ length xs + k) × (zs : List ℕ) × (members_in g ≡ xs ++ zs) × FirstOf j may xs from k zs

-- those that go on with one of the people before p, and then with k more, leave a valid plan
abbrev pub Passed : Job → May → List ℕ → ℕ → ℕ → ℕ → Type 0
Passed j may xs from k p = (q : ℕ) → from ≤ q → q < p → (zs : List ℕ) → Onward j.people (q + 1) k zs → Stands j may ((xs ++ q ∷ []) ++ zs)
