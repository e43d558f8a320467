-- The spare call: what it returns and leaves, for every cap, every sheet and every buffer. Assumes nothing.
use Rattle.std.specs.Prelude.{cond, List, [], ◌∷◌, ◌++◌, ℕ, zero, suc, ltb, length, drop, get_or}
use Rattle.remaining.specs.Remaining.{steps_left, job_left}
use Rattle.sheet.specs.Read.{Read, job, fault, read_sheet}
use Rattle.sheet.specs.declared.SheetJob as sheet
use Rattle.workflow.specs.Problem.{Job}
use Rattle.instance.specs.Instance.{instance_of, may_of}
use Rattle.answer.specs.Bytes.{Outcome, refused, written}
use Rattle.card.specs.Refusals.{short_fault, cap_fault, plan_fault}
use Rattle.resiliency.specs.Count.{Spare, unsatisfiable, capped, broken, spare}

-- "With cap c, 0 to 3"
abbrev pub cap_limit : ℕ
cap_limit = 3

-- the bytes of a spare count
abbrev pub spare_size : ℕ
spare_size = 16

-- "three tags of 4 bytes, the away set in crew order, the rest zero": n tags
unfoldable pub away_tags : List ℕ → ℕ → List ℕ → List ℕ
away_tags tags zero away = []
away_tags tags (suc n) [] = 0 ∷ away_tags tags n []
away_tags tags (suc n) (p ∷ away) = get_or tags p 0 ∷ away_tags tags n away

-- "16 bytes: byte 0 the count, bytes 1-3 zero, then three tags"; "Later bytes of the buffer keep their values."
abbrev pub count_bytes : List ℕ → ℕ → List ℕ → List ℕ → Outcome
count_bytes tags count away buffer =
    record { number = 0; bytes = (count ∷ 0 ∷ 0 ∷ 0 ∷ []) ++ written (away_tags tags 3 away) ++ drop spare_size buffer }

-- of an answer: "all three tags are zero when t equals c"
unfoldable pub spare_bytes : List ℕ → ℕ → List ℕ → Spare → Outcome
spare_bytes tags cap buffer unsatisfiable = refused plan_fault 0 buffer
spare_bytes tags cap buffer capped = count_bytes tags cap [] buffer
spare_bytes tags cap buffer (broken t away) = count_bytes tags t away buffer

-- of a job that poses a problem: "1: answer buffer too short (.. 16 for spare)", then the spare count
abbrev pub spare_for : ℕ → Job → sheet.SheetJob → List ℕ → Outcome
spare_for cap problem j buffer =
    let count : Outcome = spare_bytes j.person_tag cap buffer (spare problem (may_of j) cap) in
    cond (ltb (length buffer) spare_size) (refused short_fault 0 buffer) count

-- of a job with these counts
unfoldable pub spare_of : ℕ → ℕ → ℕ → ℕ → sheet.SheetJob → List ℕ → Outcome
spare_of cap people steps rules j buffer = spare_for cap (instance_of people steps rules j) j buffer

-- of what was read: "A refusal of the reader is passed up with its card."
unfoldable pub spare_read : ℕ → List ℕ → List ℕ → Read → Outcome
spare_read cap s buffer (job people steps rules) =
    spare_of cap (length people) (length (steps_left s steps)) (length rules) (job_left s people steps rules) buffer
spare_read cap s buffer (fault f c) = refused f c buffer

-- the spare call on a cap, a sheet and a buffer
unfoldable pub spare_answer : ℕ → List ℕ → List ℕ → Outcome
spare_answer cap s buffer =
    let rest : Outcome = spare_read cap s buffer (read_sheet s) in
    cond (ltb cap_limit cap) (refused cap_fault 0 buffer) rest
