-- The numbers of classes: from 0 by first use in crew order. A level's class is given for each of so many people by c. Assumes nothing.
use Rattle.std.specs.Prelude.{true, ◌≡◌, ℕ, ◌<◌, eqb}
use Rattle.bits.specs.Below.{first}
use Rattle.workflow.specs.Problem.{distinct}

-- the first use of the class of p in crew order: the first person who shares it
unfoldable pub first_use : ℕ → (ℕ → ℕ) → ℕ → ℕ
first_use people c p = first people (λ p'. eqb (c p') (c p))

-- how many different classes stand before person p
abbrev pub classes_before : (ℕ → ℕ) → ℕ → ℕ
classes_before c p = distinct p (λ p'. true) c

-- the number of the class of p: how many different classes stand before its first use
unfoldable pub number_of : ℕ → (ℕ → ℕ) → ℕ → ℕ
number_of people c p = classes_before c (first_use people c p)

-- what is asked of the numbers of the classes of so many people
pub record Numbering (people : ℕ) (c number : ℕ → ℕ) : Type 0 where
  -- two people get one number exactly when they share the class
  pub same : (p p' : ℕ) → p < people → p' < people → c p ≡ c p' → number p ≡ number p'
  pub tells : (p p' : ℕ) → p < people → p' < people → number p ≡ number p' → c p ≡ c p'
  -- the numbers are those below the number of classes, and each of them is had
  pub below : (p : ℕ) → p < people → number p < classes_before c people
  pub each : (k : ℕ) → k < classes_before c people → (p : ℕ) × (p < people) × (number p ≡ k)
  -- in the order of first use
  pub ordered : (p p' : ℕ) → p < people → p' < people → first_use people c p < first_use people c p' → number p < number p'
