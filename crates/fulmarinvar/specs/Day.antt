-- A day of signing on sheet W, as examples/sign.c has it: each call with the number that comes back, the newest first. Assumes nothing.
use Rattle.std.specs.Prelude.{List, [], ◌∷◌, ◌≡◌, ◌*◌}
use Rattle.signing.specs.Open.{open_answer}
use Rattle.signing.specs.Sign.{sign_answer}
use Rattle.signing.specs.State.{never_opened}
use Rattle.signing.specs.declared.JobState.{JobState}
use Rattle.fulmarinvar.specs.History.{Event, opening, signing, History}
use Rattle.fulmarinvar.specs.Sheets.{sheet_w}

abbrev pub day : List Event
day =
    signing 10 102 0
    ∷ signing 20 101 0
    ∷ signing 20 105 (14 * 256)
    ∷ signing 30 103 (15 * 256)
    ∷ signing 20 102 (16 * 256)
    ∷ signing 30 102 0
    ∷ signing 30 104 (16 * 256)
    ∷ opening sheet_w 0
    ∷ signing 30 103 (14 * 256)
    ∷ []

-- the job after some calls
abbrev pub after : List Event → JobState
after [] = never_opened
after (opening s n ∷ h) = (open_answer (after h) s).job
after (signing a b n ∷ h) = (sign_answer (after h) a b).job

-- each call returned its number
abbrev pub Returned : List Event → Type 0
Returned [] = Unit {0}
Returned (opening s n ∷ h) = (n ≡ (open_answer (after h) s).number) × Returned h
Returned (signing a b n ∷ h) = (n ≡ (sign_answer (after h) a b).number) × Returned h

-- it is a history: four refusals since the opening; 102, 101 and 102 have signed
pub record DayGoes : Type 0 where
  pub history : History day (after day)
  pub refusals : (after day).refusals ≡ 4
  pub signer : (after day).signer ≡ 2 ∷ 1 ∷ 2 ∷ 0 ∷ 0 ∷ 0 ∷ 0 ∷ 0 ∷ 0 ∷ 0 ∷ 0 ∷ 0 ∷ []
