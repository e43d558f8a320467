-- Writing a plan along a matching, group by group. Assumes nothing.
use mathlib.Core.Bool.{true, false}
use Rattle.std.specs.Prelude.{None, Some}
use mathlib.Core.List.{List, [], ◌∷◌}
use mathlib.Core.Path.{◌≡◌, refl, sym, subst, ◌∙◌}
use Prim.Native.Nat.{ℕ, zero, suc, ◌+◌, ◌≤◌, ◌<◌}
use native.Mathlib.Omega.{arith}
use lib.Dec.{eqb, ltb}
use lib.ListN.{get_or}
use borrow.Author.Tests.{eqb-true, eqb-false, ltb-true, lt-ltb}
use Rattle.bits.specs.Set.{FirstAndRest, Mask}
use Rattle.bits.specs.Word.{has_bit}
use Rattle.bits.proofs.Below.{by_cases, true-false, and_left}
use Rattle.bits.proofs.Counting.{and_of}
use Rattle.bits.proofs.Masks.{mask_has, mask_in, taken_was}
use Rattle.bits.proofs.SetLaws.{empty_lacks, zero_empty, has_below, removed_other}
use Rattle.matching.specs.Assignment.{Assignment, in_mask, suits, class_at}
use Rattle.pattern.specs.Tables.{may_in, label_in, plan_in}
use Rattle.pattern.specs.Realize.{Realizes, Matching}
use Rattle.pattern.proofs.Sets.{fibre_in, fibre_at}
use Rattle.pattern.proofs.Realize.{realizes_agree, realizes_last, realizes_glue}
use Rattle.realize.specs.declared.parts.Task.{Task}
use Rattle.realize.specs.Parts.{people_in, groups_in, group_in, group_task, class_task}
use Rattle.realize.specs.Decision.{Covering}
use Rattle.realize.specs.Filling.{Sends, StaffedBy, Filled, SentGroup, Sent}
use Rattle.realize.proofs.Staff.{untouched}
use Rattle.realize.proofs.Decide.{classmates, EdgeOf, depth, part_next, does_sets, doable_masks, edge_inner, assignment_matching, covering_assigned, covering_not}
use Rattle.realize.proofs.Decide.{last_in, last_below}

-- ---- the classes that an assignment gives

-- a class below 64 is what the array has
class_at_lem : (at : List ℕ) (g : ℕ) → class_at at g < 64 → class_at at g ≡ get_or at g 0
class_at_lem [] g l = absurd (omega arith)
class_at_lem (x ∷ xs) zero l = refl
class_at_lem (x ∷ xs) (suc g) l = class_at_lem xs g l

module _ (heads : ℕ) (edges at : List ℕ) (a : Assignment (in_mask heads) (suits edges) (class_at at)) where
  below : (g : ℕ) → in_mask heads g ≡ true → class_at at g < 64
  below g h = ltb-true (class_at at g) 64 (and_left (ltb (class_at at g) 64) _ (a.along g h))

  given : (g : ℕ) → in_mask heads g ≡ true → class_at at g ≡ get_or at g 0
  given g h = class_at_lem at g (below g h)

  assignment_at : Assignment (in_mask heads) (suits edges) (λ g. get_or at g 0)
  assignment_at =
      record {
        along = λ g h. subst (λ (x : ℕ). suits edges g x ≡ true) (given g h) (a.along g h);
        apart = λ g k h i e. a.apart g k h i (given g h ∙ e ∙ sym (given k i));
      }

-- ---- the loop over the groups

-- the steps of one group get people, and those of the others keep theirs
pub sent_next : {may label nest reach : List ℕ} {t : Task} {heads rest : ℕ} {at before plan : List ℕ} {g rest' group : ℕ} {plan' : List ℕ}
    → Sent may label nest reach t heads rest at before plan → FirstAndRest rest g rest' → Mask (group_in label t g) group
    → Filled may label nest reach (class_task nest (group_task t group) (get_or at g 0)) plan plan'
    → Sent may label nest reach t heads rest' at before plan'
sent_next {may} {label} {nest} {reach} {t} {heads} {rest} {at} {before} {plan} {g} {rest'} {group} {plan'} w first mask new =
    record {
      kept = record {
        sized = new.kept.sized ∙ w.kept.sized;
        kept = λ s h. new.kept.kept s (outside s (λ i. true-false (fibre_in (has_bit t.steps) c g s (mask_in mask s i)) h)) ∙ w.kept.kept s h;
      };
      part = λ k h. w.part k (taken_was first k h);
      done = λ k h n.
          by_cases (eqb k g)
          (λ x. subst (λ (y : ℕ). SentGroup may label nest reach t y (get_or at y 0) plan') (sym (eqb-true k g x))
          (record { group = group; mask = mask; sends = new.sends }))
          (λ x. let d : k ≡ g → ⊥ = eqb-false k g x in
          let old = w.done k h (sym (removed_other first.removed k d) ∙ n) in
          record {
            group = old.group;
            mask = old.mask;
            sends = λ j part r.
                realizes_agree j (may_in may) (label_in label) (t.q + 1) _ _ (plan_in plan) (plan_in plan')
                (λ s l i. sym (new.kept.kept s (outside s (λ y.
                d (sym (fibre_at (has_bit t.steps) c k s (mask_in old.mask s i)) ∙ fibre_at (has_bit t.steps) c g s (mask_in mask s y))))))
                (old.sends j part r);
          });
    }
  where
    c : ℕ → ℕ
    c = label_in label (suc t.q)

    outside : (s : ℕ) → (has_bit group s ≡ true → ⊥) → has_bit group s ≡ false
    outside s d = by_cases (has_bit group s) (λ t. absurd (d t)) (λ t. t)

-- ---- the promise of `fill`

module _ {may label nest reach : List ℕ} {t : Task} where
  -- no level left
  pub filled_last : {before after : List ℕ} → t.levels ≤ t.q → StaffedBy (may_in may) (has_bit t.inside) t.steps 0 before after
      → Filled may label nest reach t before after
  filled_last {before} {after} d w =
      record {
        kept = w.kept;
        sends = λ j part r.
            realizes_last j (may_in may) (label_in label) t.q (omega (arith, part.tables.depth)) (has_bit t.steps) (people_in j t) (plan_in after)
            (λ s l h. let a = w.able s h (empty_lacks s) (r.0 s, sym (last_in d part (r.0 s)) ∙ r.1.inside s l h, r.1.authorised s l h) in
            (last_below d part (plan_in after s) a.0, last_in d part (plan_in after s) ∙ a.0, a.1));
      }

  module _ (deep : t.q < t.levels) (few : t.steps < 4096) where
    -- no matching: the steps cannot go to the people, and nothing is written
    pub filled_none : {plan : List ℕ} → Covering may label nest reach t None → Filled may label nest reach t plan plan
    filled_none {plan} w = record { kept = untouched t.steps plan; sends = λ j part r. absurd (covering_not deep few part w r) }

    -- a matching, and each group sent to its class
    pub filled_sent : {heads rest : ℕ} {at before after : List ℕ} → Covering may label nest reach t (Some at) → Mask (groups_in label t) heads
        → Sent may label nest reach t heads rest at before after → rest ≡ 0 → Filled may label nest reach t before after
    filled_sent {heads} {rest} {at} {before} {after} w mask sent z = record { kept = sent.kept; sends = sends }
      where
        sends : Sends may label nest reach t after
        sends j part r =
            realizes_glue j (may_in may) (label_in label) t.q (depth deep part) (has_bit t.steps) (people_in j t) f part.tables.refining
            part.steps.consistent (part.steps.labelled (suc t.q) (omega arith) (depth deep part))
            m.injective (plan_in after) each
          where
            f : ℕ → ℕ
            f g = get_or at g 0

            m : Matching j.steps (groups_in label t) (EdgeOf j may label t) f
            m = let a = covering_assigned w in assignment_matching deep few part w.mask a.1 f (assignment_at w.heads a.0 at a.2)

            each : (g : ℕ) → g < j.steps → groups_in label t g ≡ true
                → Realizes j (may_in may) (label_in label) (suc t.q) (group_in label t g) (classmates j t (f g)) (plan_in after)
            each g l i =
                let x = m.along g l i in
                let in-it = edge_inner deep part g (f g) i x in
                let s = sent.done g (mask_has mask g i) (zero_empty rest z g) in
                does_sets deep part in-it g s.mask (s.sends j (part_next deep part in-it g s.mask) (doable_masks deep part in-it g s.mask x))
