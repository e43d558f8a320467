-- What an opening comes to, and a signing on a job that holds a readable sheet: their cases, in the paper's words. Assumes nothing.
use Rattle.std.specs.Prelude.{true, List, ◌≡◌, ℕ, suc, ◌<◌, length, get_or, set}
use Rattle.card.specs.Fields.{tag_of}
use Rattle.card.specs.Refusals.{plan_fault, unknown_fault, signed_fault, ungranted_fault}
use Rattle.sheet.specs.Read.{job, fault, read_sheet}
use Rattle.remaining.specs.Remaining.{steps_left}
use Rattle.workflow.specs.Problem.{Plan, Valid, Satisfiable}
use Rattle.instance.specs.Instance.{instance_in, may_do}
use Rattle.signing.specs.Bound.{is_open_lem, AgreesWith}
use Rattle.signing.specs.Open.{refused_opening}
use Rattle.signing.specs.Sign.{refused_signing, granted}
use Rattle.signing.specs.State.{Answered, opened}
use Rattle.signing.specs.declared.JobState.{JobState}

-- the opening of the job j with the sheet s
pub data OpenCase (s : List ℕ) (j : JobState) (r : Answered) : Type 0 where
  -- "opening refuses with 3 to 13 as the crew call does and leaves the job untouched"
  unreadable : (f c : ℕ) → read_sheet s ≡ fault f c → r ≡ refused_opening f c j → OpenCase s j r
  planless : (people steps rules : List ℕ) → read_sheet s ≡ job people steps rules
      → (Satisfiable (instance_in s people steps rules) (may_do s people steps rules) → ⊥) → r ≡ refused_opening plan_fault 0 j → OpenCase s j r
  -- "A job that has a plan is opened"; "Opening, the first time too, clears signings and count"
  done : (people steps rules : List ℕ) → read_sheet s ≡ job people steps rules
      → Satisfiable (instance_in s people steps rules) (may_do s people steps rules) → r ≡ record { number = 0; job = opened s } → OpenCase s j r

-- the tag stands on card k of the chain
pub record Names (s cards : List ℕ) (tag k : ℕ) : Type 0 where
  pub below : k < length cards
  pub is : tag_of s (get_or cards k 0) ≡ tag

-- "some valid plan agrees": it gives every signed step to its signer
abbrev pub CanFinish : List ℕ → List ℕ → List ℕ → List ℕ → List ℕ → Type 0
CanFinish s people steps rules signer =
    (π : Plan) × Valid (instance_in s people steps rules) (may_do s people steps rules) π × AgreesWith (length (steps_left s steps)) signer π

-- the signing of the step with tag `a` by the person with tag `b`, on the job j that holds the sheet s
pub data SignCase (s people steps rules : List ℕ) (j : JobState) (a b : ℕ) (r : Answered) : Type 0 where
  -- "It refuses with 14 an unknown step or person"; "for signing, a skipped step is unknown"
  unknown : ((t p : ℕ) → Names s (steps_left s steps) a t → Names s people b p → ⊥) → r ≡ refused_signing unknown_fault j → SignCase s people steps rules j a b r
  -- "with 15 a signed step"
  signed : (t p : ℕ) → Names s (steps_left s steps) a t → Names s people b p → (is_open_lem j.signer t ≡ true → ⊥) → r ≡ refused_signing signed_fault j
      → SignCase s people steps rules j a b r
  -- "with 16 any other signing not granted"
  ungranted : (t p : ℕ) → Names s (steps_left s steps) a t → Names s people b p → is_open_lem j.signer t ≡ true
      → (CanFinish s people steps rules (set j.signer t (suc p)) → ⊥) → r ≡ refused_signing ungranted_fault j → SignCase s people steps rules j a b r
  -- "granted exactly when some valid plan agrees with it and with all granted before"
  given : (t p : ℕ) → Names s (steps_left s steps) a t → Names s people b p → is_open_lem j.signer t ≡ true
      → CanFinish s people steps rules (set j.signer t (suc p)) → r ≡ granted t p j → SignCase s people steps rules j a b r
