-- What the domains of a rule's steps settle of its count; c gives the class of each person. Assumes nothing.
use Rattle.std.specs.Prelude.{Bool, true, false, not, ◌&&◌, List, ◌≡◌, ℕ, ◌<◌}
use Rattle.bits.specs.Word.{has_bit}
use Rattle.workflow.specs.Problem.{Plan, distinct}
use Rattle.eligible.specs.Classes.{Crowd}
use Rattle.narrow.specs.Domains.{Takes}

-- the people of the one class that all of a domain are in; or nobody, and nothing is said
abbrev pub Shared : ℕ → (ℕ → ℕ) → ℕ → ℕ → Type 0
Shared people c domain r = (r ≡ 0 → ⊥) → (p : ℕ) → p < people → has_bit domain p ≡ true → Crowd people c p r

-- the steps of a scope that are neither wide nor left; with 0 left, all that are not wide
abbrev pub settled : ℕ → ℕ → ℕ → ℕ → Bool
settled scope wide left s = has_bit scope s && (not (has_bit wide s) && not (has_bit left s))

-- the people of `used` are those of the classes that the steps of S have in a plan
pub record UsedBy (steps people : ℕ) (c : ℕ → ℕ) (S : ℕ → Bool) (π : Plan) (used : ℕ) : Type 0 where
  pub people_of : (p : ℕ) → p < people → has_bit used p ≡ true → (s : ℕ) × (s < steps) × (S s ≡ true) × (c p ≡ c (π s))
  pub classes_of : (p s : ℕ) → p < people → s < steps → S s ≡ true → c p ≡ c (π s) → has_bit used p ≡ true

-- of the steps of a scope, those of `wide` can still have several classes; in every plan of the domains the others have the classes of
-- `used`, and their count is `groups`
pub record Fixing (steps people : ℕ) (c : ℕ → ℕ) (scope : ℕ) (dom : List ℕ) (used groups wide : ℕ) : Type 0 where
  pub part : (s : ℕ) → has_bit wide s ≡ true → (s < steps) × (has_bit scope s ≡ true)
  pub number : (π : Plan) → Takes steps people dom π → groups ≡ distinct steps (settled scope wide 0) (λ s. c (π s))
  pub used_by : (π : Plan) → Takes steps people dom π → UsedBy steps people c (settled scope wide 0) π used

-- r has everybody who shares a class with somebody of a domain, but for those of `left`
pub record Reaching (people : ℕ) (c : ℕ → ℕ) (domain left r : ℕ) : Type 0 where
  pub has : (p p' : ℕ) → p < people → p' < people → has_bit domain p ≡ true → has_bit left p ≡ false → c p ≡ c p' → has_bit r p' ≡ true
