-- The law of relaxation: every valid plan of a job is a valid plan of the job relaxed to a level. Assumes nothing.
use mathlib.Core.List.{List}
use mathlib.Core.Path.{◌≡◌, sym, subst, ap}
use Prim.Native.Nat.{ℕ, ◌^◌, ◌≤◌, ◌<◌}
use native.Mathlib.Omega.{arith}
use lib.ListN.{get_or}
use Rattle.bits.specs.Below.{count}
use Rattle.bits.specs.Word.{has_bit}
use Rattle.workflow.specs.Problem.{RuleOk, Job, Plan, Met, InBounds, distinct, largest_load}
use Rattle.pattern.specs.declared.Size.{Size}
use Rattle.pattern.specs.Given.{Ruled, Classed}
use Rattle.pattern.specs.Rule.{level_in, scope_in, unpacked}
use Rattle.pattern.specs.Tables.{class_in, job_in}
use Rattle.relax.specs.Relaxed.{Carries, Relaxes}

module _ (size : Size) (class rule : List ℕ) (given : Classed size class rule) (q : ℕ) (from : 1 ≤ q) (to : q ≤ size.levels) (rule' : List ℕ)
    (w : Carries size size.rules class rule q rule') where
  abbrev whole : Job
  whole = job_in size class rule

  abbrev relaxed : Job
  relaxed = job_in size class rule'

  relaxed_ok : (i : ℕ) → i < size.rules → RuleOk size.steps size.levels (relaxed.rule i)
  relaxed_ok i l =
      let f = w.follows i l in
      let e : count size.steps (has_bit (scope_in (get_or rule' i 0))) ≡ count size.steps (has_bit (scope_in (get_or rule i 0)))
      = ap (λ (m : ℕ). count size.steps (has_bit m)) f.scope
      in
      record { from = omega (arith, f.level); to = omega (arith, f.level); reachable = omega (arith, f.reachable); bounded = f.bounded }

  -- the bounds of a rule hold of the classes of a level over a scope
  abbrev FiguresOk : ℕ → ℕ → ℕ → Plan → Type 0
  FiguresOk r scope q π =
      InBounds (unpacked r) (distinct size.steps (has_bit scope) (λ s. class_in class q (π s))) (largest_load size.steps (has_bit scope) (λ s. class_in class q (π s)))

  relaxed_met : (i : ℕ) → i < size.rules → (π : Plan) → ((s : ℕ) → s < size.steps → π s < size.people) → Met whole (whole.rule i) π → Met relaxed (relaxed.rule i) π
  relaxed_met i l π within m =
      let f = w.follows i l in
      let r' = get_or rule' i 0 in
      subst (λ (k : ℕ). FiguresOk r' k (level_in r') π) (sym f.scope) (subst (λ (k : ℕ). FiguresOk r' (scope_in (get_or rule i 0)) k π) (sym f.level) (f.met π within m))

  ruled_now : Ruled size rule'
  ruled_now =
      record {
        few_steps = given.ruled.few_steps;
        few_levels = given.ruled.few_levels;
        few_rules = given.ruled.few_rules;
        sized = w.sized;
        scopes = λ i l. subst (λ (m : ℕ). m < 2 ^ size.steps) (sym (w.follows i l).scope) (given.ruled.scopes i l);
        rule_ok = relaxed_ok;
      }

  -- the law of relaxation
  pub relaxes : Relaxes size class rule rule'
  relaxes =
      record {
        given = record {
          ruled = ruled_now;
          few_people = given.few_people;
          classes = given.classes;
          refining = record { finer = given.refining.finer };
          numbers = given.numbers;
        };
        valid = λ may π v. record { within = v.within; authorised = v.authorised; eligible = λ i l. relaxed_met i l π v.within (v.eligible i l) };
      }
