-- Who may do a step once some steps are signed. `signer` has for each step the person who signed it, counted from 1, and 0 for an open
-- step. Assumes nothing.
use Rattle.std.specs.Prelude.{Bool, true, ◌&&◌, ◌||◌, List, ◌≡◌, ℕ, suc, ◌<◌, eqb, get_or}
use Rattle.workflow.specs.Problem.{May, Plan}

abbrev pub is_open_lem : List ℕ → ℕ → Bool
is_open_lem signer s = eqb (get_or signer s 0) 0

-- a step that is signed is left to its signer alone
abbrev pub left_to : ℕ → ℕ → Bool
left_to signer p = eqb signer 0 || eqb signer (suc p)

abbrev pub bound : May → List ℕ → May
bound may signer s p = may s p && left_to (get_or signer s 0) p

-- the plan gives each of n steps that is signed to its signer
abbrev pub AgreesWith : ℕ → List ℕ → Plan → Type 0
AgreesWith n signer π = (s : ℕ) → s < n → (is_open_lem signer s ≡ true → ⊥) → get_or signer s 0 ≡ suc (π s)
