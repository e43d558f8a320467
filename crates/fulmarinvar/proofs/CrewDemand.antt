-- Demand 2, and demand 1 of the crew call, follow from its promise. Assumes nothing.
use mathlib.Core.List.{List, ◌++◌}
use mathlib.Core.Logic.{◌↔◌, inl, inr, ⊎_elim}
use mathlib.Core.Path.{◌≡◌, refl, ◌∙◌, ap}
use Prim.Native.Nat.{ℕ, ◌+◌, ◌*◌, ◌<◌, ◌≤◌}
use native.Mathlib.Omega.{arith}
use lib.Dec.{ltb}
use lib.ListN.{length, drop}
use borrow.Author.Tests.{ltb-true, ltb-false}
use Rattle.bits.proofs.Below.{by_cases}
use Rattle.card.specs.Refusals.{short_fault}
use Rattle.sheet.specs.Read.{Read, job, fault, read_sheet}
use Rattle.remaining.specs.Remaining.{kept_at, steps_left, job_left}
use Rattle.workflow.specs.Problem.{Job, May, Satisfiable}
use Rattle.workflow.specs.First.{Found, found, list_of, plan_of, first_plan}
use Rattle.workflow.proofs.First.{found_cases, first_plan_found, first_plan_nothing, first_plan_given, satisfiable_or_not}
use Rattle.workflow.specs.Leaves.{plan_left}
use Rattle.workflow.specs.Skipped.{MarkedJob, SatisfiableLeft}
use Rattle.instance.specs.Instance.{instance_in, may_do, crew_tags}
use Rattle.instance.specs.Marked.{marked_in, permitted_in}
use Rattle.instance.proofs.Marked.{permits_left, satisfiable_in, first_in, first_back}
use Rattle.answer.specs.Bytes.{Outcome, refused, written}
use Rattle.answer.specs.Crew.{crew_answer, crew_read, crew_of}
use Rattle.answer.proofs.CrewCases.{crew_short, crew_none, crew_found}
use Rattle.fulmarinvar.specs.Promise.{CrewPromise}
use Rattle.fulmarinvar.specs.Demands as demands
use Rattle.fulmarinvar.specs.Demands.{ReadToAnEnd, crew_bytes, CrewExactly}
use Rattle.fulmarinvar.proofs.Ending.{own_refusal, reader_refusal, refused_ends, answered_ends}

module _ (s buffer : List ℕ) (number : ℕ) (left : List ℕ) (p : CrewPromise s buffer number left) where
  -- what the call gives, where its definition gives an outcome
  crew_number : (o : Outcome) → crew_answer s buffer ≡ o → number ≡ o.number
  crew_number o e = p.returned ∙ ap (λ (x : Outcome). x.number) e

  crew_bytes_lem : (o : Outcome) → crew_answer s buffer ≡ o → left ≡ o.bytes
  crew_bytes_lem o e = p.bytes ∙ ap (λ (x : Outcome). x.bytes) e

  crew_passed_up : (f c : ℕ) → read_sheet s ≡ fault f c → crew_answer s buffer ≡ refused f c buffer
  unfolding crew_read
  crew_passed_up f c e = ap (crew_read s buffer) e

  module _ (people steps rules : List ℕ) (e : read_sheet s ≡ job people steps rules) where
    abbrev posed : Job
    posed = instance_in s people steps rules

    abbrev may : May
    may = may_do s people steps rules

    -- the job as the cards have it, and who is permitted what
    abbrev marked : MarkedJob
    marked = marked_in s people steps rules

    abbrev permitted : May
    permitted = permitted_in s people

    -- how many steps remain
    abbrev n : ℕ
    n = length (steps_left s steps)

    exists : SatisfiableLeft marked permitted ↔ Satisfiable posed may
    exists = satisfiable_in s people steps rules e permitted may (permits_left s people steps rules)

    crew_is : crew_answer s buffer ≡ crew_of (length people) n (length rules) (job_left s people steps rules) buffer
    unfolding crew_read
    crew_is = ap (crew_read s buffer) e

    crew_is_short : length buffer < 8 * n → crew_answer s buffer ≡ refused short_fault 0 buffer
    crew_is_short l = crew_is ∙ crew_short (length people) n (length rules) (job_left s people steps rules) buffer l

    crew_exactly : 8 * n ≤ length buffer
        → CrewExactly marked permitted (crew_bytes s people steps rules buffer) buffer number left
    crew_exactly l =
        let sheet = job_left s people steps rules in
        found_cases (first_plan posed may)
        (λ xs d.
        let o = crew_is ∙ crew_found (length people) n (length rules) sheet buffer l xs d in
        let z : number ≡ 0 = crew_number _ o in
        let v = (first_plan_found posed may xs d).1 in
        let w : SatisfiableLeft marked permitted = exists.1 (plan_of xs, v.valid) in
        record {
          planned = (λ x. w, λ x. z);
          unplanned = (λ x. absurd (omega arith), λ x. absurd (x w));
          unchanged = λ x. absurd (omega arith);
          exists_first = λ x. first_back s people steps rules e permitted may (permits_left s people steps rules) (plan_of xs) v;
          first = λ π f.
              let g = first_plan_given posed may (plan_left (kept_at s steps) π) ((first_in s people steps rules e permitted may (permits_left s people steps rules) π).0 f) in
              let same : xs ≡ list_of n (plan_left (kept_at s steps) π) = found_same d g in
              crew_bytes_lem _ o
              ∙ ap (λ (ys : List ℕ). written (crew_tags sheet.step_tag sheet.person_tag ys n) ++ drop (8 * n) buffer) same;
        })
        (λ d.
        let o = crew_is ∙ crew_none (length people) n (length rules) sheet buffer l d in
        let z : number ≡ 13 * 256 + 0 = crew_number _ o in
        let none : SatisfiableLeft marked permitted → ⊥
        = λ w. let v = exists.0 w in first_plan_nothing posed may d v.0 v.1 in
        record {
          planned = (λ x. absurd (omega arith), λ w. absurd (none w));
          unplanned = (λ x. none, λ w. omega arith);
          unchanged = λ x. crew_bytes_lem _ o;
          exists_first = λ w. absurd (none w);
          first = λ π f. absurd (none (π, f.valid));
        })
      where
        found_same : {r : Found} {xs ys : List ℕ} → r ≡ found xs → r ≡ found ys → xs ≡ ys
        found_same a b = cc

    crew_read_ends : ReadToAnEnd s buffer number left
    crew_read_ends =
        by_cases (ltb (length buffer) (8 * n))
        (λ t. let o = crew_is_short (ltb-true _ _ t) in refused_ends (own_refusal s 1 (inl (omega arith, omega arith))) (crew_number _ o) (crew_bytes_lem _ o))
        (λ t. let x = crew_exactly (ltb-false (length buffer) (8 * n) t) in
        ⊎_elim (λ w. answered_ends (x.planned.1 (exists.1 w)))
        (λ w. let z = x.unplanned.1 (λ v. w (exists.0 v)) in refused_ends (own_refusal s 13 (inr refl)) (omega arith) (x.unchanged z))
        (satisfiable_or_not posed may))

pub crew_demand : demands.CrewDemand
crew_demand s buffer people steps rules number left p e l = crew_exactly s buffer number left p people steps rules e l

pub crew_ends : demands.CrewEnds
crew_ends s buffer number left p = go (read_sheet s) refl
  where
    go : (r : Read) → read_sheet s ≡ r → ReadToAnEnd s buffer number left
    go (job people steps rules) e = crew_read_ends s buffer number left p people steps rules e
    go (fault f c) e =
        let o = crew_passed_up s buffer number left p f c e in
        refused_ends (reader_refusal s f c e) (crew_number s buffer number left p _ o) (crew_bytes_lem s buffer number left p _ o)

pub crew_refuses : demands.CrewRefuses
crew_refuses s buffer number left p =
    record {
      short = λ people steps rules e l. let n : number ≡ 1 * 256 + 0 = crew_number s buffer number left p _ (crew_is_short s buffer number left p people steps rules e l) in omega arith;
      passed_up = λ f c e. crew_number s buffer number left p _ (crew_passed_up s buffer number left p f c e);
    }
