-- Who is away: sets of people, the groups of one size in crew order, and what their absence leaves. Assumes nothing.
use Rattle.std.specs.Prelude.{Bool, true, false, not, ◌&&◌, List, ◌≡◌, ℕ, suc, ◌≤◌, ◌<◌, ◌-◌, ltb, length, get_or}
use Rattle.bits.specs.Below.{all, count}
use Rattle.bits.specs.Member.{member}
use Rattle.workflow.specs.Problem.{Job, May, Satisfiable}
use Rattle.workflow.specs.First.{Found, found, nothing, plan_of, first_plan, Earlier}

-- the authorisation that is left when people are away
abbrev pub without : May → (ℕ → Bool) → May
without may away s p = may s p && not (away p)

-- "for every set of at most t people away a valid plan exists among the others": any set, not only those that the walk comes to; `can` says whether a valid
-- plan exists
abbrev pub ResilientBy : ℕ → (May → Type 0) → May → ℕ → Type 0
ResilientBy people can may t = (away : ℕ → Bool) → count people away ≤ t → can (without may away)

abbrev pub Resilient : Job → May → ℕ → Type 0
Resilient j = ResilientBy j.people (Satisfiable j)

-- "The members of an away set stand in crew order": a set of k of the people, as a list
pub record Group (people k : ℕ) (xs : List ℕ) : Type 0 where
  pub size : length xs ≡ k
  pub within : (i : ℕ) → i < k → get_or xs i 0 < people
  pub ordered : (i : ℕ) → suc i < k → get_or xs i 0 < get_or xs (suc i) 0

-- the absence of these people leaves no valid plan
abbrev pub BreaksBy : (May → Type 0) → May → List ℕ → Type 0
BreaksBy can may xs = can (without may (member xs)) → ⊥

abbrev pub Breaks : Job → May → List ℕ → Type 0
Breaks j = BreaksBy (Satisfiable j)

-- xs is the first breaking group of k people: every other comes after it. "of two sets of one size, the one with the earlier person
-- where they first differ comes first"
pub record FirstBreakingBy (people : ℕ) (can : May → Type 0) (may : May) (k : ℕ) (xs : List ℕ) : Type 0 where
  pub group : Group people k xs
  pub breaks : BreaksBy can may xs
  pub after : (ys : List ℕ) → Group people k ys → BreaksBy can may ys → (ys ≡ xs → ⊥) → Earlier k (plan_of xs) (plan_of ys)

abbrev pub FirstBreaking : Job → May → ℕ → List ℕ → Type 0
FirstBreaking j = FirstBreakingBy j.people (Satisfiable j)

-- the same as tests: of the order, and of what the absence leaves
unfoldable pub increasing : List ℕ → Bool
increasing xs = all (length xs - 1) (λ i. ltb (get_or xs i 0) (get_or xs (suc i) 0))

abbrev pub missing : Found → Bool
missing (found xs) = false
missing nothing = true

unfoldable pub breaking : Job → May → List ℕ → Bool
breaking j may xs = missing (first_plan j (without may (member xs)))
