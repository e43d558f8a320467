-- What two jobs with the same plans share, and that numbers of classes and levels do not matter. Assumes nothing.
use mathlib.Core.Logic.{◌↔◌}
use mathlib.Core.Path.{◌≡◌, sym, ◌∙◌, ap, subst}
use Prim.Native.Nat.{ℕ, ◌<◌}
use native.Mathlib.Omega.{arith}
use Rattle.workflow.specs.Problem.{Job, May, Plan, OfPeople, Valid, Satisfiable, class_count, class_load, distinct, largest_load}
use Rattle.workflow.specs.First.{Found, found, nothing, plan_of, first_plan, IsFirst}
use Rattle.workflow.specs.Independent.{Alike}
use Rattle.workflow.specs.Same.{SamePlans, Renamed}
use Rattle.workflow.proofs.Counts.{distinct_alike}
use Rattle.workflow.proofs.First.{first_plan_is_first, first_plan_unique}
use Rattle.workflow.proofs.Loads.{load_alike, load_scope_mono}
use Rattle.workflow.proofs.Occurs.{distinct_scope_mono}
use Rattle.workflow.proofs.Valid.{valid_mono}

module _ (j j' : Job) (w : Renamed j j') where
  -- the same classes are counted, and they hold as many steps
  module _ (i : ℕ) (l : i < j.rules) (π : Plan) (within : OfPeople j π) where
    abbrev there : ℕ → ℕ
    there s = j'.class (j'.rule i).level (π s)

    alike : Alike j.steps (j.rule i).scope (λ s. j.class (j.rule i).level (π s)) there
    alike =
        record {
          forth = λ s t a b h k e. (w.classes i (π s) (π t) l (within s a) (within t b)).0 e;
          back = λ s t a b h k e. (w.classes i (π s) (π t) l (within s a) (within t b)).1 e;
        }

    counted : class_count j (j.rule i) π ≡ class_count j' (j'.rule i) π
    counted =
        distinct_alike j.steps (j.rule i).scope _ _ alike
        ∙ scoped
        ∙ ap (λ (n : ℕ). distinct n (j'.rule i).scope there) (sym w.steps)
      where
        scoped : distinct j.steps (j.rule i).scope there ≡ distinct j.steps (j'.rule i).scope there
        scoped =
            omega (
              arith,
              distinct_scope_mono j.steps there (j.rule i).scope (j'.rule i).scope (λ s b h. w.scope i s l ∙ h),
              distinct_scope_mono j.steps there (j'.rule i).scope (j.rule i).scope (λ s b h. sym (w.scope i s l) ∙ h),
            )

    loaded : class_load j (j.rule i) π ≡ class_load j' (j'.rule i) π
    loaded =
        load_alike j.steps (j.rule i).scope _ _ alike
        ∙ scoped
        ∙ ap (λ (n : ℕ). largest_load n (j'.rule i).scope there) (sym w.steps)
      where
        scoped : largest_load j.steps (j.rule i).scope there ≡ largest_load j.steps (j'.rule i).scope there
        scoped =
            omega (
              arith,
              load_scope_mono j.steps there (j.rule i).scope (j'.rule i).scope (λ s b h. w.scope i s l ∙ h),
              load_scope_mono j.steps there (j'.rule i).scope (j.rule i).scope (λ s b h. sym (w.scope i s l) ∙ h),
            )

  renamed_forth : (may : May) (π : Plan) → Valid j may π → Valid j' may π
  renamed_forth may π v =
      record {
        within = λ s l. let z = v.within s (omega (arith, w.steps)) in omega (arith, w.people);
        authorised = λ s l. v.authorised s (omega (arith, w.steps));
        eligible = λ i l.
            let b : i < j.rules = omega (arith, w.rules) in
            let e = counted i b π v.within in
            let f = loaded i b π v.within in
            let m = v.eligible i b in
            record {
              least = omega (arith, m.least, w.least i b);
              most = omega (arith, m.most, w.most i b);
              load = omega (arith, m.load, w.load i b);
            };
      }

  renamed_back : (may : May) (π : Plan) → Valid j' may π → Valid j may π
  renamed_back may π v =
      let within : OfPeople j π
      = λ s l. let z = v.within s (omega (arith, w.steps)) in omega (arith, w.people)
      in
      record {
        within = within;
        authorised = λ s l. v.authorised s (omega (arith, w.steps));
        eligible = λ i l.
            let e = counted i l π within in
            let f = loaded i l π within in
            let m = v.eligible i (omega (arith, w.rules)) in
            record {
              least = omega (arith, m.least, w.least i l);
              most = omega (arith, m.most, w.most i l);
              load = omega (arith, m.load, w.load i l);
            };
      }

  pub renamed_same : SamePlans j j'
  renamed_same =
      record { steps = w.steps; people = w.people; valid = λ may π. (renamed_forth may π, renamed_back may π) }

module _ {j j' : Job} (w : SamePlans j j') where
  -- jobs with the same plans have the same first plan
  pub same_first : (may : May) → first_plan j' may ≡ first_plan j may
  same_first may = first_plan_unique j' may (first_plan j may) (carry (first_plan j may) (first_plan_is_first j may))
    where
      carry : (r : Found) → IsFirst j may r → IsFirst j' may r
      carry (found xs) h = (
        h.0 ∙ sym w.steps,
        record {
          valid = (w.valid may (plan_of xs)).0 h.1.valid;
          first = λ σ v x.
              h.1.first σ ((w.valid may σ).1 v)
              (record { at = x.at; below = subst (λ (n : ℕ). x.at < n) w.steps x.below; less = x.less; before = x.before });
        },
      )
      carry nothing h = λ π v. h π ((w.valid may π).1 v)

  pub same_satisfiable : (may : May) → Satisfiable j may ↔ Satisfiable j' may
  same_satisfiable may = (λ s. (s.0, (w.valid may s.0).0 s.1), λ s. (s.0, (w.valid may s.0).1 s.1))

-- it matters only who of the people is permitted which of the steps
module _ (j : Job) (may may' : May) (same : (s p : ℕ) → s < j.steps → p < j.people → may s p ≡ may' s p) where
  pub permitted_valid : (π : Plan) → Valid j may π ↔ Valid j may' π
  permitted_valid π = (
    valid_mono j may may' π (λ s p l m h. sym (same s p l m) ∙ h),
    valid_mono j may' may π (λ s p l m h. same s p l m ∙ h),
  )

  pub permitted_first : first_plan j may ≡ first_plan j may'
  permitted_first = first_plan_unique j may (first_plan j may') (carry (first_plan j may') (first_plan_is_first j may'))
    where
      carry : (r : Found) → IsFirst j may' r → IsFirst j may r
      carry (found xs) h = (
        h.0,
        record { valid = (permitted_valid (plan_of xs)).1 h.1.valid; first = λ σ v x. h.1.first σ ((permitted_valid σ).0 v) x },
      )
      carry nothing h = λ π v. h π ((permitted_valid π).0 v)

pub same_trans : {j j' k : Job} → SamePlans j j' → SamePlans j' k → SamePlans j k
same_trans a b =
    record {
      steps = b.steps ∙ a.steps;
      people = b.people ∙ a.people;
      valid = λ may π. (λ v. (b.valid may π).0 ((a.valid may π).0 v), λ v. (a.valid may π).1 ((b.valid may π).1 v));
    }
