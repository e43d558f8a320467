-- Where the search begins and where it ends: with nothing placed any valid plan will do, and with every named step placed the plan is
-- that of the pattern. Assumes nothing.
use mathlib.Core.Bool.{Bool, true, false, not, ◌&&◌, ◌||◌}
use mathlib.Core.List.{List}
use Rattle.std.specs.Prelude.{Option, None, Some}
use mathlib.Core.Path.{◌≡◌, refl, sym, subst, ap, ◌∙◌}
use Prim.Native.Nat.{ℕ, ◌≤◌, ◌<◌}
use native.Mathlib.Omega.{arith}
use lib.Dec.{ltb}
use lib.ListN.{length, get_or, replicate}
use borrow.Author.Tests.{ltb-true, lt-ltb, not-true, not-false}
use Rattle.bits.specs.Word.{has_bit}
use Rattle.bits.proofs.Below.{by_cases, true-false, and_left, and_right}
use Rattle.bits.proofs.Counting.{is_false, count_none}
use Rattle.bits.proofs.SetLaws.{empty_lacks, zero_empty, part_le}
use Rattle.workflow.specs.Problem.{Job, May, Plan, Valid, Satisfiable, InBounds}
use Rattle.workflow.specs.Same.{SamePlans}
use Rattle.workflow.proofs.Valid.{valid_agree}
use Rattle.pattern.specs.declared.Size.{Size}
use Rattle.pattern.specs.Eligible.{group_count, group_load, open_count, Possible, AllNamed}
use Rattle.pattern.specs.Realize.{Realizes, Realized}
use Rattle.pattern.specs.Search.{Searchable, Exists, completed}
use Rattle.pattern.specs.Tables.{may_in, label_in, plan_in, job_with, nested_job}
use Rattle.pattern.proofs.Patterns.{nothing_pattern}
use Rattle.pattern.proofs.Search.{exists_nothing, exists_possible, completed_placed, completed_other, completed_exists}
use Rattle.bits.specs.Says.{Says}
use Rattle.bits.specs.Set.{Mask}
use Rattle.bits.proofs.Masks.{mask_has, mask_in}
use Rattle.bits.proofs.Says.{says_true, says_false}
use Rattle.bits.specs.Sizes.{label_entries}
use Rattle.pattern.specs.Pattern.{Refining}
use Rattle.pattern.proofs.Given.{searchable}
use Rattle.pattern.proofs.Nested.{nested_refining}
use Rattle.eligible.specs.Rules.{ForSteps, Among}
use Rattle.levels.specs.Tabled.{Naming}
use Rattle.realize.specs.Parts.{ArraysSized, Offers}
use Rattle.pattern.specs.Given.{Ruled, Nest}
use Rattle.search.specs.Existence.{Named, AllStaffed, GivesFirst, Existence}
use Rattle.search.specs.State.{Patterned, Reached, Completed, FindOutcome}
use Rattle.realize.specs.Filling.{Realizing}
use Rattle.search.proofs.Node.{sized, known}
use Rattle.search.proofs.Staff.{lowest_least}

-- the mask of all numbers below n
pub all_below : {n all : ℕ} → Mask (λ i. ltb i n) all → (i : ℕ) → has_bit all i ≡ true → i < n
all_below {n} mask i h = ltb-true i n (mask_in mask i h)

-- no labels yet
abbrev pub blank : List ℕ
blank = replicate {A = ℕ} label_entries 0

module _ (j : Job) (may : May) (label : List ℕ) where
  pub nothing_patterned : length label ≡ label_entries → Patterned j 0 label
  nothing_patterned e =
      record {
        sized = e;
        pattern = nothing_pattern j.steps j.levels (has_bit 0) (label_in label) (λ s l. empty_lacks s);
        inside = λ s h. true-false h (empty_lacks s);
      }

  nothing_realized : Realized j may (label_in label) 0 (has_bit 0) (λ p. true)
  nothing_realized = (
    λ s. 0,
    record {
      within = λ s l h. true-false h (empty_lacks s);
      inside = λ s l h. refl;
      authorised = λ s l h. true-false h (empty_lacks s);
      alike = λ q a b. record { forth = λ s t l m h k e. true-false h (empty_lacks s); back = λ s t l m h k e. true-false h (empty_lacks s) };
    },
  )

  -- a valid plan has the empty pattern
  pub nothing_exists : Satisfiable j may → Exists j may (has_bit 0) (label_in label)
  nothing_exists w = (exists_nothing j may (has_bit 0) (label_in label) (λ s l. empty_lacks s)).1 w

-- with every step placed that a rule names, a rule that can be met is met
pub exact : (j : Job) (placed : ℕ → Bool) (label : ℕ → ℕ → ℕ) → AllNamed j placed → (i : ℕ) → i < j.rules
    → Possible j.steps placed label (j.rule i) → InBounds (j.rule i) (group_count j.steps placed label (j.rule i)) (group_load j.steps placed label (j.rule i))
exact j placed label named i l p =
    let none_open : open_count j.steps placed (j.rule i) ≡ 0
    = count_none j.steps (λ s. (j.rule i).scope s && not (placed s))
    (λ s m. is_false _ (λ t. true-false (and_left ((j.rule i).scope s) _ t) (named i s l m (not-true (placed s) (and_right ((j.rule i).scope s) _ t)))))
    in
    record { least = omega (arith, p.counted.least); most = p.counted.most; load = p.load }

-- the search that began with nothing placed has placed the steps named
pub ended_reached : {j : Job} {may : May} {rest : ℕ} {label : List ℕ} → Completed j may 0 rest label → Reached j may rest 0 label
ended_reached {j} {may} {rest} {label} w =
    let a : w.final ≤ rest = part_le w.final rest (λ s h. sym (each s) ∙ h) in
    let b : rest ≤ w.final = part_le rest w.final (λ s h. each s ∙ h) in
    let e : w.final ≡ rest = omega arith in
    subst (λ (x : ℕ). Reached j may x 0 label) e w.reached
  where
    each : (s : ℕ) → has_bit w.final s ≡ has_bit rest s
    each s = w.all s ∙ ap (λ (b : Bool). b || has_bit rest s) (empty_lacks s)

-- a plan of the placed steps, in which the others have people permitted, is valid
pub reached_valid : {j : Job} {may : May} {placed : ℕ} {label : List ℕ} → Searchable j → Reached j may placed 0 label → (π : Plan)
    → Realizes j may (label_in label) 0 (has_bit placed) (λ p. true) π
    → ((s : ℕ) → s < j.steps → has_bit placed s ≡ false → (π s < j.people) × (may s (π s) ≡ true)) → Valid j may π
reached_valid {j} {may} {placed} {label} ok w π r others =
    valid_agree j may (completed (has_bit placed) π π) π
    (λ s l. by_cases (has_bit placed s) (completed_placed (has_bit placed) π π s) (completed_other (has_bit placed) π π s))
    (completed_exists j may (has_bit placed) (label_in label) ok named π π r (λ i l. exact j (has_bit placed) (label_in label) named i l (w.passed.possible i l)) others).0
  where
    named : AllNamed j (has_bit placed)
    named i s a l h = w.named i s a l h (empty_lacks s)

-- a job of these counts and rules, whatever its classes
module _ {size : Size} {class : ℕ → ℕ → ℕ} {rule : List ℕ} (ruled : Ruled size rule) (may : List ℕ) where
  -- a step that nobody may do
  pub existence_unstaffed : (r : Bool) → Says r (AllStaffed size.steps size.people may) → not r ≡ true
      → Existence (job_with size class rule) (may_in may) None
  existence_unstaffed r says f =
      λ w. says_false r (AllStaffed size.steps size.people may) says (not-true r f) (λ s l. (w.0 s, w.1.within s l, w.1.authorised s l))

  -- a rule that cannot be met
  pub existence_ruled_out : Refining (job_with size class rule) → (label : List ℕ) → (all : ℕ) → Mask (λ i. ltb i size.rules) all → (r : Bool)
      → ForSteps all rule (λ steps. Says r (Among steps all rule 0 label)) → not r ≡ true → Existence (job_with size class rule) (may_in may) None
  existence_ruled_out refining label all mask r says f =
      let n = says_false r (Among size.steps all rule 0 label) (says size.steps (λ i h. ruled.scopes i (all_below mask i h))) (not-true r f) in
      let j = job_with size class rule in
      λ w. n (λ i h.
      exists_possible j (may_in may) (has_bit 0) (label_in label) (searchable ruled refining) (nothing_exists j (may_in may) label w) i (all_below mask i h))

  pub start_patterned : (label : List ℕ) → length label ≡ label_entries → Patterned (job_with size class rule) 0 label
  start_patterned label e = nothing_patterned (job_with size class rule) (may_in may) label e

  pub reached_start : (rest : ℕ) (of label : List ℕ) → length label ≡ label_entries → (all : ℕ) → Mask (λ i. ltb i size.rules) all → (r : Bool)
      → ForSteps all rule (λ steps. Says r (Among steps all rule 0 label)) → not r ≡ false → Naming size.rules rule of → Named size.steps of rest
      → Reached (job_with size class rule) (may_in may) 0 rest label
  reached_start rest of label e all mask r says f naming n =
      let a = says_true r (Among size.steps all rule 0 label) (says size.steps (λ i h. ruled.scopes i (all_below mask i h))) (not-false r f) in
      let j = job_with size class rule in
      record {
        patterned = nothing_patterned j (may_in may) label e;
        passed = record {
          possible = λ i l. a i (mask_has mask i (lt-ltb i size.rules l));
          realized = nothing_realized j (may_in may) label;
        };
        below = n.below;
        apart = λ s h. empty_lacks s;
        named = λ i s a l h k.
            is_false _
            (λ t. true-false (naming.has i s a (omega (arith, ruled.few_steps)) t) (zero_empty (get_or of s 0) (n.covers s l k) i));
      }

  -- the search fails
  pub existence_lost : (label : List ℕ) {rest : ℕ} {last : List ℕ} (r : Bool)
      → FindOutcome (job_with size class rule) (may_in may) 0 rest label last r → not r ≡ true → Existence (job_with size class rule) (may_in may) None
  existence_lost label r o f = λ w. o.lost (not-true r f) (nothing_exists (job_with size class rule) (may_in may) label w)

-- the search succeeds: the steps named are placed
module _ {size : Size} {nest rule : List ℕ} (given : Nest size nest rule) (may : List ℕ) where
  finished : {rest : ℕ} {label last : List ℕ} (r : Bool) → FindOutcome (nested_job size nest rule) (may_in may) 0 rest label last r
      → not r ≡ false → Reached (nested_job size nest rule) (may_in may) rest 0 last
  finished r o f = ended_reached (o.won (not-false r f))

  pub finished_sized : {rest : ℕ} {label last reach : List ℕ} (r : Bool) → length may ≡ 12
      → FindOutcome (nested_job size nest rule) (may_in may) 0 rest label last r → not r ≡ false
      → length reach ≡ label_entries → ArraysSized size.levels may last nest reach rest
  finished_sized {rest} {label} {last} r e o f w = sized given.ruled may rest last e (finished r o f).patterned given.sized w

  pub existence_won : {reach : List ℕ} → Offers (nested_job size nest rule) may reach → {rest : ℕ} {label last plan plan' : List ℕ}
      (a r : Bool) → Says a (AllStaffed size.steps size.people may) → not a ≡ false
      → FindOutcome (nested_job size nest rule) (may_in may) 0 rest label last r → not r ≡ false → GivesFirst size.steps may plan
      → Realizing size.people size.levels may last nest reach rest plan plan'
      → Existence (nested_job size nest rule) (may_in may) (Some plan')
  existence_won offers {rest} {label} {last} {plan} {plan'} a r says f o g spread filled =
      let all = says_true a (AllStaffed size.steps size.people may) says (not-false a f) in
      let w = finished r o g in (
        filled.kept.sized ∙ spread.sized,
        reached_valid (searchable given.ruled (nested_refining size nest rule)) w (plan_in plan')
            (filled.realizes (nested_job size nest rule) (known given may rest last offers w.patterned) w.passed.realized)
            (λ s l h.
            let x = all s l in
            let f = spread.each s l (λ z. true-false x.2 (zero_empty _ z x.0)) in
            let e : plan_in plan' s ≡ plan_in plan s = filled.kept.kept s h in
            let m : plan_in plan s ≤ x.0 = lowest_least f x.0 x.2 in
            (omega (arith, x.1), subst (λ (p : ℕ). may_in may s p ≡ true) (sym e) f.has)),
      )

-- what is found of a job is found of every other with the same plans
pub existence_moves : {j j' : Job} → SamePlans j j' → (may : May) (found : Option (List ℕ)) → Existence j' may found → Existence j may found
existence_moves same may None x = λ (π, v). x (π, (same.valid may π).0 v)
existence_moves same may (Some plan) x = (x.0, (same.valid may (plan_in plan)).1 x.1)
