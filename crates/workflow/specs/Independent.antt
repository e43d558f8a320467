-- Class-independence, as section 2.2 of document 004 defines it, for the classes of a level of a job. Assumes nothing.
use Rattle.std.specs.Prelude.{Bool, true, ◌≡◌, ℕ, ◌<◌}
use Rattle.workflow.specs.Problem.{Rule, Job, Plan, Met}

-- "a constraint c may be viewed as a pair (T, Θ), where T is the scope of c and Θ is a set of functions from T to U"
pub record Constraint : Type 1 where
  pub scope : ℕ → Bool
  pub member : Plan → Type 0

-- s is a step of the job in the scope T
abbrev pub InScope : Job → Constraint → ℕ → Type 0
InScope j c s = (s < j.steps) × (c.scope s ≡ true)

-- θ is a function from T to the people
abbrev pub OnScope : Job → Constraint → Plan → Type 0
OnScope j c θ = (s : ℕ) → InScope j c s → θ s < j.people

-- θ∼, "the function π∼ : S → U∼, where π∼(s) = (π(s))∼"
abbrev pub classes_of : Job → ℕ → Plan → ℕ → ℕ
classes_of j q θ s = j.class q (θ s)

-- κ is in Θ∼ = {θ∼ : θ ∈ Θ}: on T, it gives the classes of some member
pub record ClassMember (j : Job) (q : ℕ) (c : Constraint) (κ : ℕ → ℕ) : Type 0 where
  pub plan : Plan
  pub on : OnScope j c plan
  pub belongs : c.member plan
  pub agrees : (s : ℕ) → InScope j c s → classes_of j q plan s ≡ κ s

-- φ is a permutation of the classes of level q: of the class numbers that people of the job have
pub record Permutes (j : Job) (q : ℕ) (φ : ℕ → ℕ) : Type 0 where
  -- it takes classes to classes
  pub into : (p : ℕ) → p < j.people → (p' : ℕ) × (p' < j.people) × (j.class q p' ≡ φ (j.class q p))
  -- different ones to different ones
  pub injective : (p p' : ℕ) → p < j.people → p' < j.people → φ (j.class q p) ≡ φ (j.class q p') → j.class q p ≡ j.class q p'
  -- and every class is reached
  pub onto : (p : ℕ) → p < j.people → (p' : ℕ) × (p' < j.people) × (φ (j.class q p') ≡ j.class q p)

-- "for any function θ, θ∼ ∈ Θ∼ implies θ ∈ Θ, and for any permutation φ : U∼ → U∼, θ∼ ∈ Θ∼ implies φ ∘ θ∼ ∈ Θ∼"
pub record ClassIndependent (j : Job) (q : ℕ) (c : Constraint) : Type 0 where
  pub by_class : (θ : Plan) → OnScope j c θ → ClassMember j q c (classes_of j q θ) → c.member θ
  pub permuted : (φ : ℕ → ℕ) → Permutes j q φ → (θ : Plan) → OnScope j c θ
      → ClassMember j q c (classes_of j q θ) → ClassMember j q c (λ s. φ (classes_of j q θ s))

-- a rule as a constraint
abbrev pub constraint : Job → Rule → Constraint
constraint j r = record { scope = r.scope; member = Met j r }

-- c and d, which give each step a class, agree on which steps of the scope below n share a class
pub record Alike (n : ℕ) (scope : ℕ → Bool) (c d : ℕ → ℕ) : Type 0 where
  pub forth : (s t : ℕ) → s < n → t < n → scope s ≡ true → scope t ≡ true → c s ≡ c t → d s ≡ d t
  pub back : (s t : ℕ) → s < n → t < n → scope s ≡ true → scope t ≡ true → d s ≡ d t → c s ≡ c t
