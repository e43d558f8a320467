-- The crew call, return by return: the reader's answer on the sheet s is known. Assumes nothing.
use mathlib.Core.List.{List}
use mathlib.Core.Path.{◌≡◌, sym, ◌∙◌, ap}
use Prim.Native.Nat.{ℕ, ◌*◌, ◌<◌, ◌≤◌}
use lib.ListN.{length}
use Rattle.std.specs.Prelude.{Option, Result, Ok, Err}
use Rattle.card.specs.Refusals.{fault_number}
use Rattle.card.specs.declared.refusal.Fault.TheVariants.{Short}
use Rattle.card.specs.declared.refusal.Refusal.{Refusal}
use Rattle.remaining.specs.Remaining.{remaining_of}
use Rattle.sheet.specs.declared.SheetJob.{SheetJob}
use Rattle.workflow.specs.First.{first_plan}
use Rattle.instance.specs.Instance.{instance_of, may_of}
use Rattle.answer.specs.Bytes.{Outcome}
use Rattle.answer.specs.Crew.{crew_answer, crew_of, found_in, planned}
use Rattle.answer.specs.Number.{refusal_number, number_of}
use Rattle.answer.proofs.CrewCases.{crew_read_lem, crew_refused, crew_short, crew_room}

-- what a return has to show: the number, and every byte
abbrev Returns : List ℕ → List ℕ → ℕ → List ℕ → Type 0
Returns s buffer n out = (n ≡ (crew_answer s buffer).number) × (out ≡ (crew_answer s buffer).bytes)

returns_outcome : (s buffer : List ℕ) (o : Outcome) → crew_answer s buffer ≡ o → Returns s buffer o.number o.bytes
returns_outcome s buffer o e = (sym (ap (λ (x : Outcome). x.number) e), sym (ap (λ (x : Outcome). x.bytes) e))

module _ (s buffer : List ℕ) {a : Result SheetJob Refusal} (e : a ≡ remaining_of s) where
  pub returns_refusal : {r : Refusal} → a ≡ Err r → Returns s buffer (number_of (Err r)) buffer
  returns_refusal {r} d = returns_outcome s buffer _ (crew_refused s buffer r (sym e ∙ d))

  module _ {j : SheetJob} (d : a ≡ Ok j) where
    crew_is : crew_answer s buffer ≡ crew_of j.people j.steps j.rules j buffer
    crew_is = crew_read_lem s buffer j (sym e ∙ d)

    pub returns_short : length buffer < 8 * j.steps → {r : Refusal} → r ≡ record { fault = Short; card = 0 } → Returns s buffer (number_of (Err r)) buffer
    unfolding fault_number
    returns_short l m =
        let o = returns_outcome s buffer _ (crew_is ∙ crew_short j.people j.steps j.rules j buffer l) in
        (ap (λ (x : Refusal). refusal_number (fault_number x.fault) x.card) m ∙ o.0, o.1)

    -- where the buffer has room, and a plan was looked for
    module _ (plan : Option (List ℕ)) (is : first_plan (instance_of j.people j.steps j.rules j) (may_of j) ≡ found_in j.steps plan) where
      pub returns_planned : 8 * j.steps ≤ length buffer → {n : ℕ} {out : List ℕ}
          → n ≡ (planned j j.steps buffer (found_in j.steps plan)).number → out ≡ (planned j j.steps buffer (found_in j.steps plan)).bytes
          → Returns s buffer n out
      returns_planned l is_number are-bytes =
          let o = returns_outcome s buffer _ (crew_is ∙ crew_room j.people j.steps j.rules j buffer l ∙ ap (planned j j.steps buffer) is) in
          (is_number ∙ o.0, are-bytes ∙ o.1)
