-- Plans that are known already, and what a question about an away set comes to. Assumes nothing.
use Rattle.std.specs.Prelude.{Option, Some, None, Bool, true, false, not, ◌&&◌, ◌||◌, List, ◌≡◌, ℕ, zero, suc, ◌-◌, ◌≤◌, ◌<◌, eqb, length, get_or}
use Rattle.bits.specs.Word.{has_bit}
use Rattle.workflow.specs.Problem.{Job, May, Plan, Valid, Satisfiable}
use Rattle.pattern.specs.Tables.{may_in, plan_in}
use Rattle.resiliency.specs.Away.{without}
use Rattle.resiliency.specs.Count.{Spare, unsatisfiable, capped, broken}
use Rattle.levels.specs.declared.Tables.{Tables}
use Rattle.levels.specs.Tabled.{tabled_job}
use Rattle.resiliency.specs.Group.{members_in}
use Rattle.resiliency.specs.declared.known.Kept.{Kept}
use Rattle.resiliency.specs.declared.Spared.{Spared}
use Rattle.resiliency.specs.declared.Spared.TheVariants.{Unsatisfiable, Capped, Broken}

-- the masks of the steps without the people away
pub record Remaining (may : List ℕ) (away n : ℕ) (rest : List ℕ) : Type 0 where
  pub sized : length rest ≡ 12
  pub each : (s p : ℕ) → s < n → may_in rest s p ≡ may_in may s p && not (has_bit away p)

-- the mask has the people of the first n steps of a plan
pub record Uses (n : ℕ) (plan : List ℕ) (mask : ℕ) : Type 0 where
  pub each : (s : ℕ) → s < n → has_bit mask (plan_in plan s) ≡ true

-- bit 0 of each of the first n people's words says that the mask lacks that person, and their other bits are those of before, moved up by one
pub record Noted (mask n : ℕ) (known known' : List ℕ) : Type 0 where
  pub sized : length known' ≡ 64
  pub own : (p : ℕ) → p < n → has_bit (get_or known' p 0) 0 ≡ true → has_bit mask p ≡ false
  pub others : (p i : ℕ) → p < n → has_bit (get_or known' p 0) (suc i) ≡ true → has_bit (get_or known p 0) i ≡ true
  pub rest : (p : ℕ) → n ≤ p → get_or known' p 0 ≡ get_or known p 0

-- the masks with one more in front
abbrev pub in_front : ℕ → List ℕ → ℕ → ℕ
in_front mask plans zero = mask
in_front mask plans (suc i) = get_or plans i 0

-- the first n masks are those
pub record Moved (mask n : ℕ) (plans plans' : List ℕ) : Type 0 where
  pub sized : length plans' ≡ 64
  pub each : (i : ℕ) → i < n → get_or plans' i 0 ≡ in_front mask plans i
  pub rest : (i : ℕ) → n ≤ i → get_or plans' i 0 ≡ get_or plans i 0

-- 64 valid plans are known: each has its people within a mask, and bit i of a person's word says that the mask of plan i lacks that person
pub record Known (j : Job) (may : May) (known plans : List ℕ) : Type 0 where
  pub sized : length known ≡ 64
  pub masks : length plans ≡ 64
  pub plan : ℕ → Plan
  pub valid : (i : ℕ) → Valid j may (plan i)
  pub people : (i s : ℕ) → i < 64 → s < j.steps → has_bit (get_or plans i 0) (plan i s) ≡ true
  pub spares : (i p : ℕ) → i < 64 → p < 64 → has_bit (get_or known p 0) i ≡ true → has_bit (get_or plans i 0) p ≡ false

-- a plan whose people are in the mask is kept in front of the others
pub record KeptPlan (steps : ℕ) (plan : List ℕ) (mask : ℕ) (known plans known' plans' : List ℕ) : Type 0 where
  pub needs : Uses steps plan mask
  pub noted : Noted mask 64 known known'
  pub moved : Moved mask 64 plans plans'

-- the plans of a word do without the people away
pub record Suits (word : ℕ) (plans : List ℕ) (away : ℕ) : Type 0 where
  pub each : (i p : ℕ) → i < 64 → has_bit word i ≡ true → has_bit away p ≡ true → has_bit (get_or plans i 0) p ≡ false

-- of the people among whom it is asked, each who is not in the rest is lacked by a mask of the word
pub record Needed (word : ℕ) (plans : List ℕ) (among rest : ℕ) : Type 0 where
  pub part : (p : ℕ) → has_bit rest p ≡ true → has_bit among p ≡ true
  pub lacks : (p : ℕ) → has_bit among p ≡ true → has_bit rest p ≡ false
      → (i : ℕ) × (i < 64) × (has_bit word i ≡ true) × (has_bit (get_or plans i 0) p ≡ false)

-- each of the people from one on is lacked by a mask of the word
pub record EachSpared (people from word : ℕ) (plans : List ℕ) : Type 0 where
  pub lacks : (p : ℕ) → from ≤ p → p < people → (i : ℕ) × (i < 64) × (has_bit word i ≡ true) × (has_bit (get_or plans i 0) p ≡ false)

-- the job has a valid plan without the people away, all of whose people are in the mask
abbrev pub Within : Job → May → (ℕ → Bool) → ℕ → Type 0
Within j may away mask = (π : Plan) × Valid j (without may away) π × ((s : ℕ) → s < j.steps → has_bit mask (π s) ≡ true)

-- whether a valid plan exists without the people away, and the people whom one needs
pub record Stood (j : Job) (may : May) (away : ℕ → Bool) (words plans weight : List ℕ) (r : Bool) (needs : ℕ) : Type 0 where
  pub known : Known j may words plans
  pub weights : length weight ≡ 12
  pub won : r ≡ true → Within j may away needs
  pub lost : r ≡ false → Satisfiable j (without may away) → ⊥

-- one more person is away
abbrev pub joined : ℕ → ℕ → ℕ → Bool
joined away p q = has_bit away q || eqb q p

-- c is the first person, from one on, whose absence with the people away leaves no valid plan, or the number of people
pub record Last (j : Job) (may : May) (away from : ℕ) (words plans weight : List ℕ) (c : ℕ) : Type 0 where
  pub known : Known j may words plans
  pub weights : length weight ≡ 12
  pub after : from ≤ c
  pub within : c ≤ j.people
  pub passed : (p : ℕ) → from ≤ p → p < c → Satisfiable j (without may (joined away p))
  pub breaks : c < j.people → Satisfiable j (without may (joined away c)) → ⊥

-- the plans that the code keeps are of the job that its tables pose
pub record Keeping (t : Tables) (may : List ℕ) (k : Kept) : Type 0 where
  pub known : Known (tabled_job t) (may_in may) k.known k.plans
  pub weights : length k.weight ≡ 12

-- what a question comes to: the people whom a plan needs, or that there is none
abbrev pub Asked : Tables → List ℕ → (ℕ → Bool) → Kept → Option ℕ → Type 0
Asked t may away k (Some needs) = Stood (tabled_job t) (may_in may) away k.known k.plans k.weight true needs
Asked t may away k None = Stood (tabled_job t) (may_in may) away k.known k.plans k.weight false 0

-- the answer that an enum holds
abbrev pub told : Spared → Spare
told Unsatisfiable = unsatisfiable
told Capped = capped
told (Broken g) = broken (g.size - 1) (members_in g)
