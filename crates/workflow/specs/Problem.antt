-- The workflow satisfiability problem, as sections 2.1 to 2.3 of document 004 and "Rules and valid plans" of paper 01 have it, for any
-- number of nested levels. Steps, people and rules are numbered from 0, levels from 1. Assumes nothing.
use Rattle.std.specs.Prelude.{Bool, true, false, not, cond, ◌&&◌, ◌⊎◌, ◌≡◌, ℕ, zero, suc, ◌+◌, ◌-◌, ◌/◌, ◌≤◌, ◌<◌, min, max, eqb, leb, ltb}
use Rattle.bits.specs.Below.{all, any, count}

-- the five kinds of rules, 1 to 5 on a card
pub data Kind : Type 0 where
  same different at_most at_least maxLoad : Kind

-- a rule bounds the number of different classes of its level over the steps of its scope, and the load of each: how many of these steps it holds
pub record Rule : Type 0 where
  pub level : ℕ
  pub least : ℕ
  pub most : ℕ
  pub load : ℕ
  pub scope : ℕ → Bool

-- a job; two people are in one class of a level exactly when they have the same class number there
pub record Job : Type 0 where
  pub steps : ℕ
  pub people : ℕ
  pub levels : ℕ
  -- of a level and a person
  pub class : ℕ → ℕ → ℕ
  pub rules : ℕ
  pub rule : ℕ → Rule

-- an authorisation: whether a step is permitted to a person
abbrev pub May : Type 0
May = ℕ → ℕ → Bool

-- "A plan gives each step one person": only the steps of the job matter
abbrev pub Plan : Type 0
Plan = ℕ → ℕ

-- each step is given one of the people
abbrev pub OfPeople : Job → Plan → Type 0
OfPeople j π = (s : ℕ) → s < j.steps → π s < j.people

-- two plans give the steps below n the same people
abbrev pub Agree : ℕ → Plan → Plan → Type 0
Agree n π σ = (s : ℕ) → s < n → π s ≡ σ s

-- the classes nest: those of each level refine those of the level above, and at the last level each person is a class
pub record Nested (j : Job) : Type 0 where
  pub finer : (q p p' : ℕ) → 1 ≤ q → q < j.levels → p < j.people → p' < j.people
      → j.class (suc q) p ≡ j.class (suc q) p' → j.class q p ≡ j.class q p'
  pub person : (p p' : ℕ) → p < j.people → p' < j.people → j.class j.levels p ≡ j.class j.levels p' → p ≡ p'

-- s is the first step of the scope that has its class, c giving the class of each step
unfoldable pub opens : (ℕ → Bool) → (ℕ → ℕ) → ℕ → Bool
opens scope c s = scope s && not (any s (λ t. scope t && eqb (c t) (c s)))

-- the number of different classes over the steps of a scope below n: each is counted at its first step
unfoldable pub distinct : ℕ → (ℕ → Bool) → (ℕ → ℕ) → ℕ
distinct n scope c = count n (opens scope c)

-- what such a number says: the classes over the scope can be numbered below it, each at one of its steps
pub record DifferentClasses (n : ℕ) (scope : ℕ → Bool) (c : ℕ → ℕ) (number : ℕ) : Type 0 where
  pub at : ℕ → ℕ
  pub below : (k : ℕ) → k < number → at k < n
  pub inside : (k : ℕ) → k < number → scope (at k) ≡ true
  -- no class twice
  pub once : (k l : ℕ) → k < number → l < number → c (at k) ≡ c (at l) → k ≡ l
  -- and each of them
  pub every : (s : ℕ) → s < n → scope s ≡ true → (k : ℕ) × (k < number) × (c (at k) ≡ c s)

-- "the number of different classes of its level among the people given to the steps of its scope"
abbrev pub class_count : Job → Rule → Plan → ℕ
class_count j r π = distinct j.steps r.scope (λ s. j.class r.level (π s))

-- the load of class v: how many steps of a scope below n it holds, c giving the class of each step
unfoldable pub load_of : ℕ → (ℕ → Bool) → (ℕ → ℕ) → ℕ → ℕ
load_of n scope c v = count n (λ s. scope s && eqb (c s) v)

-- the largest of f 0, .., f (n - 1), and 0 where there is none
unfoldable pub largest : ℕ → (ℕ → ℕ) → ℕ
largest zero f = 0
largest (suc n) f = max (largest n f) (f n)

-- "the largest number held by one class, 0 if none remain": of the classes of the steps of a scope below n
unfoldable pub largest_load : ℕ → (ℕ → Bool) → (ℕ → ℕ) → ℕ
largest_load n scope c = largest n (λ s. cond (scope s) (load_of n scope c (c s)) 0)

-- the class of some step of the scope holds so many; or there is no step, and the number is 0
abbrev pub HeldBySome : ℕ → (ℕ → Bool) → (ℕ → ℕ) → ℕ → Type 0
HeldBySome n scope c number = ((s : ℕ) × (s < n) × (scope s ≡ true) × (load_of n scope c (c s) ≡ number)) ⊎ ((count n scope ≡ 0) × (number ≡ 0))

-- what such a number says: some class holds so many, and none holds more
pub record LargestLoad (n : ℕ) (scope : ℕ → Bool) (c : ℕ → ℕ) (number : ℕ) : Type 0 where
  pub held : HeldBySome n scope c number
  pub none_more : (v : ℕ) → load_of n scope c v ≤ number

-- the largest load of a class of a rule's level
abbrev pub class_load : Job → Rule → Plan → ℕ
class_load j r π = largest_load j.steps r.scope (λ s. j.class r.level (π s))

-- the figure that a kind looks at, of the number of different classes and the largest load
abbrev pub looked_at : Kind → ℕ → ℕ → ℕ
looked_at same classes load = classes
looked_at different classes load = classes
looked_at at_most classes load = classes
looked_at at_least classes load = classes
looked_at maxLoad classes load = load

-- over the steps of a scope below n
abbrev pub figure_of : Kind → ℕ → (ℕ → Bool) → (ℕ → ℕ) → ℕ
figure_of kind n scope c = looked_at kind (distinct n scope c) (largest_load n scope c)

-- how many steps the scope has
abbrev pub scope_count : ℕ → Rule → ℕ
scope_count steps r = count steps r.scope

-- "Kind 1, same: .. count 1"; "Kind 2, different: .. count 2"; "Kind 3, at most: .. count not above the limit"; "Kind 4, at least: .. count
-- not below the limit"; "Rule kind 5 ..: no class of the level holds more than the limit of the steps in scope": of kind, limit and figure
abbrev pub Asks : Kind → ℕ → ℕ → Type 0
Asks same limit n = n ≡ 1
Asks different limit n = n ≡ 2
Asks at_most limit n = n ≤ limit
Asks at_least limit n = limit ≤ n
Asks maxLoad limit n = n ≤ limit

-- how many classes it takes to hold so many steps, each at most `load` of them: their quotient, rounded up
unfoldable pub fewest : ℕ → ℕ → ℕ
fewest size load = (size + (load - 1)) / load

-- the same as bounds: the least count, of kind, limit and steps in scope. A limit on the load asks for no fewer classes than hold these steps
abbrev pub least_of : Kind → ℕ → ℕ → ℕ
least_of same limit size = 1
least_of different limit size = 2
least_of at_most limit size = 0
least_of at_least limit size = limit
least_of maxLoad limit size = fewest size limit

-- the greatest count, of kind, limit and number of steps, above which no count is
abbrev pub most_of : Kind → ℕ → ℕ → ℕ
most_of same limit steps = 1
most_of different limit steps = 2
most_of at_most limit steps = limit
most_of at_least limit steps = steps
most_of maxLoad limit steps = steps

-- the greatest load, of kind, limit and number of steps, above which no load is
abbrev pub heaviest_of : Kind → ℕ → ℕ → ℕ
heaviest_of same limit steps = steps
heaviest_of different limit steps = steps
heaviest_of at_most limit steps = steps
heaviest_of at_least limit steps = steps
heaviest_of maxLoad limit steps = limit

-- the rule of a card, in a job of so many steps. Where skipped steps are left out (Skipped.antt), the least count is at most the steps left in its scope, and
-- the greatest count and load at most those of the job
abbrev pub rule_of : ℕ → Kind → ℕ → ℕ → (ℕ → Bool) → Rule
rule_of steps kind level limit scope =
    record {
      level = level;
      least = min (least_of kind limit (count steps scope)) (count steps scope);
      most = min (most_of kind limit steps) steps;
      load = min (heaviest_of kind limit steps) steps;
      scope = scope;
    }

-- the count and the largest load lie within the rule's bounds
pub record InBounds (r : Rule) (n largest : ℕ) : Type 0 where
  pub least : r.least ≤ n
  pub most : n ≤ r.most
  pub load : largest ≤ r.load

-- the plan meets the rule
abbrev pub Met : Job → Rule → Plan → Type 0
Met j r π = InBounds r (class_count j r π) (class_load j r π)

-- the same as a test
abbrev pub met : Job → Rule → Plan → Bool
met j r π = leb r.least (class_count j r π) && leb (class_count j r π) r.most && leb (class_load j r π) r.load

-- "It is valid when each person is permitted the step and all rules are met"; document 004: authorized and eligible
pub record Valid (j : Job) (may : May) (π : Plan) : Type 0 where
  pub within : OfPeople j π
  pub authorised : (s : ℕ) → s < j.steps → may s (π s) ≡ true
  pub eligible : (i : ℕ) → i < j.rules → Met j (j.rule i) π

-- the same as tests: one of the people, and permitted, at each step; each rule
unfoldable pub authorised_test : Job → May → Plan → Bool
authorised_test j may π = all j.steps (λ s. ltb (π s) j.people && may s (π s))

unfoldable pub eligible_test : Job → Plan → Bool
eligible_test j π = all j.rules (λ i. met j (j.rule i) π)

unfoldable pub valid : Job → May → Plan → Bool
valid j may π = authorised_test j may π && eligible_test j π

-- the job has a valid plan
abbrev pub Satisfiable : Job → May → Type 0
Satisfiable j may = (π : Plan) × Valid j may π

-- "two steps in scope, limit 0"; "two or more steps, limit 1 to the number of steps in scope": of kind, limit and size of the scope
abbrev pub Fits : Kind → ℕ → ℕ → Type 0
Fits same limit size = (size ≡ 2) × (limit ≡ 0)
Fits different limit size = (size ≡ 2) × (limit ≡ 0)
Fits at_most limit size = (2 ≤ size) × (1 ≤ limit) × (limit ≤ size)
Fits at_least limit size = (2 ≤ size) × (1 ≤ limit) × (limit ≤ size)
Fits maxLoad limit size = (2 ≤ size) × (1 ≤ limit) × (limit ≤ size)

-- a rule of one of the levels whose bounds the steps of its scope, and all steps, can reach: what a readable sheet's rule is known by
pub record RuleOk (steps levels : ℕ) (r : Rule) : Type 0 where
  pub from : 1 ≤ r.level
  pub to : r.level ≤ levels
  pub reachable : r.least ≤ scope_count steps r
  pub bounded : r.most ≤ steps

-- the scope is {s, t}, as in the document's (s, s', ∼)
pub record Pair (steps : ℕ) (scope : ℕ → Bool) (s t : ℕ) : Type 0 where
  pub first : s < steps
  pub second : t < steps
  pub differ : s ≡ t → ⊥
  pub has_first : scope s ≡ true
  pub has_second : scope t ≡ true
  pub only : (k : ℕ) → k < steps → (k ≡ s → ⊥) → (k ≡ t → ⊥) → scope k ≡ false
