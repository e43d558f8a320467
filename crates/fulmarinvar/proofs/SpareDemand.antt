-- Demand 3, and demand 1 of the spare call, follow from its promise. Assumes nothing.
use mathlib.Core.Bool.{Bool, not, ◌&&◌}
use mathlib.Core.List.{List, []}
use mathlib.Core.Logic.{◌↔◌, inl, inr, ⊎_elim}
use mathlib.Core.Path.{◌≡◌, refl, ◌∙◌, ap}
use Prim.Native.Nat.{ℕ, suc, ◌+◌, ◌*◌, ◌≤◌}
use native.Mathlib.Omega.{arith}
use lib.Dec.{ltb}
use lib.ListN.{length, get_or}
use borrow.Author.Tests.{ltb-true, ltb-false}
use Rattle.bits.specs.Word.{byte_at}
use Rattle.bits.proofs.Below.{by_cases}
use Rattle.sheet.specs.Read.{Read, job, fault, read_sheet}
use Rattle.remaining.specs.Remaining.{job_left}
use Rattle.workflow.specs.Problem.{Job, May, Satisfiable}
use Rattle.workflow.specs.Skipped.{MarkedJob, SatisfiableLeft}
use Rattle.workflow.proofs.First.{satisfiable_or_not}
use Rattle.answer.specs.Bytes.{Outcome}
use Rattle.resiliency.specs.Away.{without}
use Rattle.resiliency.specs.Count.{Spare, unsatisfiable, capped, broken, spare, IsSpare, LargestBy, Largest}
use Rattle.resiliency.specs.Spare.{spare_bytes, count_bytes, spare_answer}
use Rattle.resiliency.proofs.Laws.{resilient_present, spare_is_spare, is_spare_largest}
use Rattle.resiliency.proofs.Answered.{cap_refused, sheet_refused, buffer_short, call_answered}
use Rattle.resiliency.proofs.Moves.{largest_moves, breaking_moves}
use Rattle.instance.specs.Instance.{instance_in, may_do}
use Rattle.instance.specs.Marked.{marked_in, permitted_in}
use Rattle.instance.proofs.Marked.{permits_left, satisfiable_in}
use Rattle.fulmarinvar.specs.Promise.{SparePromise}
use Rattle.fulmarinvar.specs.Demands as demands
use Rattle.fulmarinvar.specs.Demands.{ReadToAnEnd, spare_bytes_of, CountWritten, SpareExactly}
use Rattle.fulmarinvar.proofs.Ending.{own_refusal, reader_refusal, refused_ends, answered_ends}

module _ (cap : ℕ) (s buffer : List ℕ) (number : ℕ) (left : List ℕ) (p : SparePromise cap s buffer number left) where
  spare_number : (o : Outcome) → spare_answer cap s buffer ≡ o → number ≡ o.number
  spare_number o e = p.returned ∙ ap (λ (x : Outcome). x.number) e

  spare_bytes_lem : (o : Outcome) → spare_answer cap s buffer ≡ o → left ≡ o.bytes
  spare_bytes_lem o e = p.bytes ∙ ap (λ (x : Outcome). x.bytes) e

  module _ (people steps rules : List ℕ) (e : read_sheet s ≡ job people steps rules) (c : cap ≤ 3) where
    abbrev posed : Job
    posed = instance_in s people steps rules

    abbrev may : May
    may = may_do s people steps rules

    -- the job as the cards have it, and who is permitted what
    abbrev marked : MarkedJob
    marked = marked_in s people steps rules

    abbrev permitted : May
    permitted = permitted_in s people

    -- whoever is away, both have a valid plan or neither
    exists : (away : ℕ → Bool) → Satisfiable posed (without may away) ↔ SatisfiableLeft marked (without permitted away)
    exists away =
        let w = satisfiable_in s people steps rules e (without permitted away) (without may away)
        (λ k q l m. ap (λ (x : Bool). x && not (away q)) (permits_left s people steps rules k q l m)) in
        (w.1, w.0)

    present : SatisfiableLeft marked permitted ↔ Satisfiable posed may
    present = satisfiable_in s people steps rules e permitted may (permits_left s people steps rules)

    abbrev bytes : ℕ → List ℕ → List ℕ
    bytes = spare_bytes_of s people steps rules buffer

    module _ (l : 16 ≤ length buffer) where
      -- where there is a count
      with_count_lem : (t : ℕ) (away : List ℕ) → spare_answer cap s buffer ≡ count_bytes (job_left s people steps rules).person_tag t away buffer
          → (w : Satisfiable posed may)
          → ((left ≡ bytes t away)
          → (byte_at left 0 ≡ t)
          → CountWritten cap marked permitted bytes left t)
          → SpareExactly cap marked permitted bytes buffer number left
      with_count_lem t away o w written-so =
          let n : number ≡ 0 = spare_number _ o in
          let b : left ≡ bytes t away = spare_bytes_lem _ o in
          record {
            counted = (λ z. present.1 w, λ z. n);
            unplanned = (λ z. absurd (omega arith), λ z. absurd (z (present.1 w)));
            unchanged = λ z. absurd (omega arith);
            spare = λ z. (t, written-so b (ap (λ (x : List ℕ). get_or x 0 0) b));
          }

      largest : (t : ℕ) → Largest posed may cap t → LargestBy (length people) (SatisfiableLeft marked) permitted cap t
      largest t w = largest_moves (length people) (Satisfiable posed) (SatisfiableLeft marked) may permitted exists cap t w

      by_spare : (r : Spare) → IsSpare posed may cap r
          → spare_answer cap s buffer ≡ spare_bytes (job_left s people steps rules).person_tag cap buffer r
          → SpareExactly cap marked permitted bytes buffer number left
      unfolding spare_bytes
      by_spare unsatisfiable none o =
          let n : number ≡ 13 * 256 + 0 = spare_number _ o in
          record {
            counted = (λ z. absurd (omega arith), λ w. absurd (none (present.0 w)));
            unplanned = (λ z w. none (present.0 w), λ w. omega arith);
            unchanged = λ z. spare_bytes_lem _ o;
            spare = λ w. absurd (none (present.0 w));
          }
      by_spare capped r o =
          let w = resilient_present posed may cap r in
          with_count_lem cap [] o w
          (λ b z. record { largest = largest cap (is_spare_largest posed may cap capped r w); byte = z; tags = inl (refl, b) })
      by_spare (broken t away) r o =
          let w = resilient_present posed may t r.1 in
          with_count_lem t away o w
          (λ b z.
          record {
            largest = largest t (is_spare_largest posed may cap (broken t away) r w);
            byte = z;
            tags = inr (r.0, (away, breaking_moves (length people) (Satisfiable posed) (SatisfiableLeft marked) may permitted exists (suc t) away r.2, b));
          })

      spare_exactly : SpareExactly cap marked permitted bytes buffer number left
      spare_exactly =
          let r = spare posed may cap in
          let w = spare_is_spare posed may cap in
          by_spare r w (call_answered cap s buffer people steps rules c e l r w)

    spare_read_ends : ReadToAnEnd s buffer number left
    spare_read_ends =
        by_cases (ltb (length buffer) 16)
        (λ t. let o = buffer_short cap s buffer people steps rules c e (ltb-true (length buffer) 16 t) in
        refused_ends (own_refusal s 1 (inl (omega arith, omega arith))) (spare_number _ o) (spare_bytes_lem _ o))
        (λ t. let x = spare_exactly (ltb-false (length buffer) 16 t) in
        ⊎_elim (λ w. answered_ends (x.counted.1 (present.1 w)))
        (λ w. let n = x.unplanned.1 (λ v. w (present.0 v)) in refused_ends (own_refusal s 13 (inr refl)) (omega arith) (x.unchanged n))
        (satisfiable_or_not posed may))

pub spare_demand : demands.SpareDemand
spare_demand cap s buffer people steps rules number left p e c l = spare_exactly cap s buffer number left p people steps rules e c l

pub spare_ends : demands.SpareEnds
spare_ends cap s buffer number left p =
    by_cases (ltb 3 cap)
    (λ t. let o = cap_refused cap s buffer (ltb-true 3 cap t) in
    refused_ends (own_refusal s 2 (inl (omega arith, omega arith))) (spare_number cap s buffer number left p _ o) (spare_bytes_lem cap s buffer number left p _ o))
    (λ t. go (ltb-false 3 cap t) (read_sheet s) refl)
  where
    go : cap ≤ 3 → (r : Read) → read_sheet s ≡ r → ReadToAnEnd s buffer number left
    go c (job people steps rules) e = spare_read_ends cap s buffer number left p people steps rules e c
    go l (fault f c) e =
        let o = sheet_refused cap s buffer f c l e in
        refused_ends (reader_refusal s f c e) (spare_number cap s buffer number left p _ o) (spare_bytes_lem cap s buffer number left p _ o)

pub spare_refuses : demands.SpareRefuses
spare_refuses cap s buffer number left p =
    record {
      cap_above = λ l. let n : number ≡ 2 * 256 + 0 = spare_number cap s buffer number left p _ (cap_refused cap s buffer l) in omega arith;
      short = λ c people steps rules e l. let n : number ≡ 1 * 256 + 0 = spare_number cap s buffer number left p _ (buffer_short cap s buffer people steps rules c e l) in omega arith;
      passed_up = λ l f c e. spare_number cap s buffer number left p _ (sheet_refused cap s buffer f c l e);
    }
