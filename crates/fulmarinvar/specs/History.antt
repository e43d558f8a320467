-- A job changed by its calls alone: what was called and which number came back, the newest call first, from all bytes zero on. The laws of
-- signing (Signing.antt) are about what the host has seen so. Assumes nothing.
use Rattle.std.specs.Prelude.{cond, List, [], ◌∷◌, ◌⊎◌, ◌≡◌, ℕ, suc, eqb}
use Rattle.signing.specs.State.{never_opened}
use Rattle.signing.specs.declared.JobState.{JobState}
use Rattle.fulmarinvar.specs.Promise.{OpenPromise, SignPromise}

-- the calls that may change a job, each with the number that it returned
pub data Event : Type 0 where
  -- opening s n: with the sheet s
  opening : List ℕ → ℕ → Event
  -- signing a b n: of the step with tag a by the person with tag b
  signing : ℕ → ℕ → ℕ → Event

-- the job j after these calls. The call that tells the count changes no byte, and is left out
abbrev pub History : List Event → JobState → Type 0
History [] j = j ≡ never_opened
History (opening s n ∷ h) j = (i : JobState) × History h i × OpenPromise i s n j
History (signing a b n ∷ h) j = (i : JobState) × History h i × SignPromise i a b n j

-- no opening has succeeded
abbrev pub NeverOpened : List Event → Type 0
NeverOpened [] = Unit {0}
NeverOpened (opening s n ∷ h) = (n ≡ 0 → ⊥) × NeverOpened h
NeverOpened (signing a b n ∷ h) = NeverOpened h

-- the sheet of the last opening that succeeded; nothing where none did
unfoldable pub last_opened : List Event → List ℕ
last_opened [] = []
last_opened (opening s n ∷ h) = cond (eqb n 0) s (last_opened h)
last_opened (signing a b n ∷ h) = last_opened h

-- since then, step a was granted to person b
abbrev pub Granted : List Event → ℕ → ℕ → Type 0
Granted [] a b = ⊥
Granted (opening s n ∷ h) a b = (n ≡ 0 → ⊥) × Granted h a b
Granted (signing c d n ∷ h) a b = ((n ≡ 0) × (c ≡ a) × (d ≡ b)) ⊎ Granted h a b

-- a step of the sheet that was granted to nobody since then is open
abbrev pub Open : List Event → ℕ → Type 0
Open h a = (b : ℕ) → Granted h a b → ⊥

-- how many signings were refused since then, or since all bytes were zero
unfoldable pub refused_count : List Event → ℕ
refused_count [] = 0
refused_count (opening s n ∷ h) = cond (eqb n 0) 0 (refused_count h)
refused_count (signing a b n ∷ h) = cond (eqb n 0) (refused_count h) (suc (refused_count h))
