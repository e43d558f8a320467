-- The spare count, found by going through the away sets, and what it is for an answer to be it. Assumes nothing.
use Rattle.std.specs.Prelude.{Bool, ◌&&◌, List, [], ℕ, zero, suc, ◌≤◌, ◌<◌}
use Rattle.workflow.specs.Problem.{Job, May, Satisfiable}
use Rattle.workflow.specs.First.{Found, found, nothing, try_all, first_plan}
use Rattle.resiliency.specs.Away.{ResilientBy, Resilient, FirstBreaking, increasing, breaking}

-- no valid plan with everyone present; the count is the cap; or the count with the group whose absence leaves no valid plan
pub data Spare : Type 0 where
  unsatisfiable : Spare
  capped : Spare
  broken : ℕ → List ℕ → Spare

-- "Sets of one size are gone through in that order": the first of the lists of k people that is in crew order and breaks the job
unfoldable pub first_breaking : Job → May → ℕ → Found
first_breaking j may k = try_all (λ xs. let b : Bool = breaking j may xs in increasing xs && b) j.people k []

-- the group found ends the count_from, with t the count
abbrev pub ends_at : ℕ → Found → Spare → Spare
ends_at t (found xs) rest = broken t xs
ends_at t nothing rest = rest

-- "Sizes go up from 1 to c": the sizes above t, as many as are left
unfoldable pub count_from : Job → May → ℕ → ℕ → Spare
count_from j may zero t = capped
count_from j may (suc left) t = let rest : Spare = count_from j may left (suc t) in ends_at t (first_breaking j may (suc t)) rest

-- "The empty set counts, so a job without a valid plan has no such t"
abbrev pub if_planned : Found → Spare → Spare
if_planned (found xs) rest = rest
if_planned nothing rest = unsatisfiable

-- the spare count with a cap
unfoldable pub spare : Job → May → ℕ → Spare
spare j may cap = let rest : Spare = count_from j may cap 0 in if_planned (first_plan j may) rest

-- the number of the count, where there is one
abbrev pub count_of : ℕ → Spare → ℕ
count_of cap unsatisfiable = 0
count_of cap capped = cap
count_of cap (broken t xs) = t

-- what it is for an answer to be the spare count: "the largest t, at most c", with the first breaking group of t + 1 people where t is
-- below c
abbrev pub IsSpare : Job → May → ℕ → Spare → Type 0
IsSpare j may cap unsatisfiable = Satisfiable j may → ⊥
IsSpare j may cap capped = Resilient j may cap
IsSpare j may cap (broken t xs) = (t < cap) × Resilient j may t × FirstBreaking j may (suc t) xs

-- t is the largest number, at most cap, of absences that the job stands
pub record LargestBy (people : ℕ) (can : May → Type 0) (may : May) (cap t : ℕ) : Type 0 where
  pub most : t ≤ cap
  pub stands : ResilientBy people can may t
  pub largest : (u : ℕ) → u ≤ cap → ResilientBy people can may u → u ≤ t

abbrev pub Largest : Job → May → ℕ → ℕ → Type 0
Largest j = LargestBy j.people (Satisfiable j)
