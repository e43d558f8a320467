-- The first valid plan, found by trying every plan in plan order. Assumes nothing.
use Rattle.std.specs.Prelude.{Option, Some, None, Bool, cond, List, [], ◌∷◌, ◌++◌, ◌≡◌, ℕ, zero, suc, ◌<◌, length, get_or}
use Rattle.workflow.specs.Problem.{Job, May, Plan, Valid, valid}

-- the people of steps 0, 1, .. of a plan; or that there is none
pub data Found : Type 0 where
  found : List ℕ → Found
  nothing : Found

abbrev pub or_else : Found → Found → Found
or_else (found xs) b = found xs
or_else nothing b = b

-- the plan that a list gives
abbrev pub plan_of : List ℕ → Plan
plan_of xs s = get_or xs s 0

-- the people of the first n steps of a plan, as a list
unfoldable pub list_of : ℕ → Plan → List ℕ
list_of zero π = []
list_of (suc n) π = list_of n π ++ (π n ∷ [])

-- an answer as an option: the people of the first `steps` steps of a plan, or nothing
abbrev pub found_in : ℕ → Option (List ℕ) → Found
found_in steps (Some plan) = found (list_of steps (plan_of plan))
found_in steps None = nothing

-- what f finds at the lowest number below n where it finds something
unfoldable pub first_of : ℕ → (ℕ → Found) → Found
first_of zero f = nothing
first_of (suc n) f = let r : Found = f n in or_else (first_of n f) r

-- the first list that passes the test, of those that begin with xs and go on with some more people, those earlier in crew order first
unfoldable pub try_all : (List ℕ → Bool) → ℕ → ℕ → List ℕ → Found
try_all ok people zero xs = cond (ok xs) (found xs) nothing
try_all ok people (suc left) xs = first_of people (λ p. try_all ok people left (xs ++ (p ∷ [])))

-- the first valid plan
unfoldable pub first_plan : Job → May → Found
first_plan j may = try_all (λ xs. valid j may (plan_of xs)) j.people j.steps []

-- "Plans are compared step by step along the step chain; the earlier person in crew order comes first"
pub record Earlier (steps : ℕ) (σ π : Plan) : Type 0 where
  pub at : ℕ
  pub below : at < steps
  pub less : σ at < π at
  pub before : (t : ℕ) → t < at → σ t ≡ π t

-- π is valid, and no plan before it is
pub record FirstValid (j : Job) (may : May) (π : Plan) : Type 0 where
  pub valid : Valid j may π
  pub first : (σ : Plan) → Valid j may σ → Earlier j.steps σ π → ⊥

-- what it is for an answer to be the first plan: a list of one person a step that is the first valid plan; or no plan is valid
abbrev pub IsFirst : Job → May → Found → Type 0
IsFirst j may (found xs) = (length xs ≡ j.steps) × FirstValid j may (plan_of xs)
IsFirst j may nothing = (π : Plan) → Valid j may π → ⊥
