-- Settling the steps of a scope one by one: a step whose people share a class brings its label. Assumes nothing.
use mathlib.Core.Bool.{Bool, true, false, not, ◌&&◌}
use mathlib.Core.List.{List}
use mathlib.Core.Path.{◌≡◌, sym, subst, ap, ◌∙◌}
use Prim.Native.Nat.{ℕ, zero, suc, ◌+◌, ◌^◌, ◌≤◌, ◌<◌}
use native.Mathlib.Omega.{arith}
use native.Mathlib.Nat.{not-suc-le-zero}
use lib.Bits.{bit_and, bit_or}
use lib.Dec.{eqb, ltb}
use lib.ListN.{get_or}
use borrow.Author.Tests.{eqb-true, eqb-false, ltb-true, ltb-false, not-true}
use Rattle.bits.specs.Word.{has_bit}
use Rattle.bits.specs.Set.{Added, Removed, Lowest, FirstAndRest}
use Rattle.bits.proofs.Below.{by_cases, true-false, below_suc, and_left, and_right}
use Rattle.bits.proofs.Counting.{and_of, is_false, bool_ext}
use Rattle.bits.proofs.SetLaws.{and-bit_left, and-bit_right, or-bit, empty_lacks, has_below, added_has, added_other, removed_lacks, removed_other, removed_was}
use Rattle.workflow.specs.Problem.{Plan, distinct}
use Rattle.pattern.proofs.Number.{use_same, uses_distinct}
use Rattle.pattern.specs.Number.{first_use}
use Rattle.workflow.specs.Labels.{LabelsOf}
use Rattle.workflow.proofs.Labels.{Adds, labels_none, labels_cong, added_had, labels_more}
use Rattle.eligible.proofs.Names.{lowest_name}
use Rattle.eligible.specs.Classes.{Crowd, Grouped, ForClasses}
use Rattle.narrow.specs.Domains.{Takes}
use Rattle.narrow.specs.Fixing.{Shared, settled, UsedBy, Fixing}
use Rattle.bits.proofs.Masks.{or_cases, or_left, or_right, bits_below, some_bit}

-- ---- the class that a domain shares

-- the classes of nobody
pub nobody : (c : ℕ → ℕ) → Grouped 0 c
nobody c = record { few = omega arith; each = λ p l. absurd (not-suc-le-zero l) }

-- the same level by another name
pub at_level : (crowd : List ℕ) (P : ℕ → (ℕ → ℕ) → Type 0) {q level : ℕ} → q ≡ level → ForClasses crowd q P → ForClasses crowd level P
at_level crowd P e w = subst (λ (x : ℕ). ForClasses crowd x P) e w

crowd_cong : {people : ℕ} {c : ℕ → ℕ} {p q r : ℕ} → c p ≡ c q → Crowd people c p r → Crowd people c q r
crowd_cong e w =
    record {
      has = λ p' l d. w.has p' l (d ∙ sym e);
      only = λ p' h. let o = w.only p' h in (o.0, o.1 ∙ e);
    }

-- the lowest of the domain shares its class with all
pub shared_all : {people : ℕ} {c : ℕ → ℕ} → Grouped people c → {domain low : ℕ} → Lowest domain low → (mask : ℕ) → mask ≡ c low
    → bit_and domain mask ≡ domain → Shared people c domain mask
shared_all {people} {c} g {domain} {low} lowest mask its e some p l h =
    by_cases (ltb low people)
    (λ t.
    let w : Crowd people c low mask = rw its (g.each low (ltb-true low people t)) in
    let o = w.only p (and-bit_right domain mask p (ap (λ (x : ℕ). has_bit x p) e ∙ h)) in
    crowd_cong (sym o.1) w)
    (λ t. true-false h (lowest.before p (let z : people ≤ low = ltb-false low people t in omega arith)))

-- ---- the settled steps

module _ (scope wide left s : ℕ) where
  pub settled_of : has_bit scope s ≡ true → has_bit wide s ≡ false → has_bit left s ≡ false → settled scope wide left s ≡ true
  settled_of a b d = and_of (has_bit scope s) _ a (and_of (not (has_bit wide s)) _ (ap not b) (ap not d))

  pub settled_scope : settled scope wide left s ≡ true → has_bit scope s ≡ true
  settled_scope h = and_left (has_bit scope s) _ h

  pub settled_narrow : settled scope wide left s ≡ true → has_bit wide s ≡ false
  settled_narrow h = not-true _ (and_left (not (has_bit wide s)) _ (and_right (has_bit scope s) _ h))

  pub settled_passed : settled scope wide left s ≡ true → has_bit left s ≡ false
  settled_passed h = not-true _ (and_right (not (has_bit wide s)) _ (and_right (has_bit scope s) _ h))

-- a bound for the classes of the steps below n
pub bound_of : (n : ℕ) (c : ℕ → ℕ) → (b : ℕ) × ((s : ℕ) → s < n → c s < b)
bound_of zero c = (0, λ s l. absurd (not-suc-le-zero l))
bound_of (suc n) c =
    let w = bound_of n c in (
      w.0 + suc (c n),
      λ s l. below_suc n s l (λ m. omega (arith, w.1 s m)) (λ e. rw e (omega arith)),
    )

-- where the loop stands: in every plan of the domains, the labels are the names of the classes of the settled steps, and the people of
-- `used` are theirs
pub record Settling (steps people : ℕ) (c : ℕ → ℕ) (scope : ℕ) (dom : List ℕ) (left used labels wide : ℕ) : Type 0 where
  pub part : (s : ℕ) → has_bit wide s ≡ true → (s < steps) × (has_bit scope s ≡ true) × (has_bit left s ≡ false)
  pub rest : (s : ℕ) → has_bit left s ≡ true → (s < steps) × (has_bit scope s ≡ true)
  pub names : (π : Plan) → Takes steps people dom π → LabelsOf steps (settled scope wide left) (λ s. first_use people c (π s)) labels
  pub used_by : (π : Plan) → Takes steps people dom π → UsedBy steps people c (settled scope wide left) π used

module _ {steps people : ℕ} {c : ℕ → ℕ} {scope : ℕ} {dom : List ℕ} where
  pub settling_none : scope < 2 ^ steps → Settling steps people c scope dom scope 0 0 0
  settling_none small =
      record {
        part = λ s h. true-false h (empty_lacks s);
        rest = λ s h. (has_below steps scope s small h, h);
        names = λ π t. labels_none unsettled;
        used_by = λ π t.
            record { people_of = λ p l h. true-false h (empty_lacks p); classes_of = λ p s l m h e. absurd (unsettled s m h) };
      }
    where
      unsettled : (s : ℕ) → s < steps → settled scope 0 scope s ≡ true → ⊥
      unsettled s l h = true-false (settled_scope scope 0 scope s h) (settled_passed scope 0 scope s h)

  module _ {left used labels wide s left' : ℕ} (w : Settling steps people c scope dom left used labels wide) (taken : FirstAndRest left s left') where
    low : Lowest left s
    low = taken.lowest

    gone : Removed left s left'
    gone = taken.removed

    still : (u : ℕ) → has_bit left u ≡ false → has_bit left' u ≡ false
    still u h = is_false _ (λ t. true-false (removed_was gone u t) h)

    apart : (u : ℕ) → has_bit left u ≡ false → u ≡ s → ⊥
    apart u h e = true-false low.has (subst (λ (x : ℕ). has_bit left x ≡ false) e h)

    rest' : (u : ℕ) → has_bit left' u ≡ true → (u < steps) × (has_bit scope u ≡ true)
    rest' u h = w.rest u (removed_was gone u h)

    -- the step can still have several classes
    module _ {wide' : ℕ} (more : Added wide s wide') where
      same : (u : ℕ) → settled scope wide left u ≡ settled scope wide' left' u
      same u =
          bool_ext _ _
          (λ h.
          let d = settled_passed scope wide left u h in
          settled_of scope wide' left' u (settled_scope scope wide left u h)
          (added_other more u (apart u d) ∙ settled_narrow scope wide left u h) (still u d))
          (λ h.
          let n = settled_narrow scope wide' left' u h in
          let d : u ≡ s → ⊥ = λ e. true-false (added_has more) (subst (λ (x : ℕ). has_bit wide' x ≡ false) e n) in
          settled_of scope wide left u (settled_scope scope wide' left' u h) (sym (added_other more u d) ∙ n)
          (sym (removed_other gone u d) ∙ settled_passed scope wide' left' u h))

      pub settling_wide : Settling steps people c scope dom left' used labels wide'
      settling_wide =
          record {
            part = λ u h.
                by_cases (eqb u s)
                (λ t. let e : u ≡ s = eqb-true u s t in
                let r = w.rest u (subst (λ (x : ℕ). has_bit left x ≡ true) (sym e) low.has) in
                (r.0, r.1, subst (λ (x : ℕ). has_bit left' x ≡ false) (sym e) (removed_lacks gone)))
                (λ t. let r = w.part u (sym (added_other more u (eqb-false u s t)) ∙ h) in
                (r.0, r.1, still u r.2));
            rest = rest';
            names = λ π t. labels_cong (λ u l. same u) (w.names π t);
            used_by = λ π t.
                let v = w.used_by π t in
                record {
                  people_of = λ p l h. let o = v.people_of p l h in (o.0, o.1, sym (same o.0) ∙ o.2, o.3);
                  classes_of = λ p u l m h e. v.classes_of p u l m (same u ∙ h) e;
                };
          }

    adds : Adds steps (settled scope wide left) (settled scope wide left') s
    adds =
        record {
          below = (w.rest s low.has).0;
          lacks = is_false _ (λ h. true-false low.has (settled_passed scope wide left s h));
          has = settled_of scope wide left' s (w.rest s low.has).1 (is_false _ (λ h. true-false low.has (w.part s h).2)) (removed_lacks gone);
          others = λ u d. ap (λ (b : Bool). has_bit scope u && (not (has_bit wide u) && not b)) (sym (removed_other gone u d));
        }

    grows : (u : ℕ) → settled scope wide left u ≡ true → settled scope wide left' u ≡ true
    grows u h = sym (adds.others u (apart u (settled_passed scope wide left u h))) ∙ h

    part' : (u : ℕ) → has_bit wide u ≡ true → (u < steps) × (has_bit scope u ≡ true) × (has_bit left' u ≡ false)
    part' u h = let r = w.part u h in (r.0, r.1, still u r.2)

    -- all its people share a class
    module _ {crowd : ℕ} (some : crowd ≡ 0 → ⊥) (shared : Shared people c (get_or dom s 0) crowd) where
      of_plan : (π : Plan) → Takes steps people dom π → Crowd people c (π s) crowd
      of_plan π t = let l = (w.rest s low.has).0 in shared some (π s) (t.within s l) (t.among s l)

      -- which is had already
      pub settling_joins : (bit_and used crowd ≡ 0 → ⊥) → Settling steps people c scope dom left' used labels wide
      settling_joins meets =
          record {
            part = part';
            rest = rest';
            names = λ π t.
                let o = met π t in
                labels_more (w.names π t) adds
                (added_had (subst (λ (x : ℕ). has_bit labels x ≡ true) (use_same people c (π o.0) (π s) o.3) ((w.names π t).has o.0 o.1 o.2)));
            used_by = λ π t.
                let v = w.used_by π t in
                record {
                  people_of = λ p l h. let o = v.people_of p l h in (o.0, o.1, grows o.0 o.2, o.3);
                  classes_of = λ p u l m h e.
                      by_cases (eqb u s)
                      (λ x. let o = met π t in v.classes_of p o.0 l o.1 o.2 (e ∙ ap (λ (y : ℕ). c (π y)) (eqb-true u s x) ∙ sym o.3))
                      (λ x. v.classes_of p u l m (adds.others u (eqb-false u s x) ∙ h) e);
                };
          }
        where
          met : (π : Plan) → Takes steps people dom π → (u : ℕ) × (u < steps) × (settled scope wide left u ≡ true) × (c (π u) ≡ c (π s))
          met π t =
              let k = some_bit (bit_and used crowd) meets in
              let o = (of_plan π t).only k.0 (and-bit_right used crowd k.0 k.1) in
              let v = (w.used_by π t).people_of k.0 o.0 (and-bit_left used crowd k.0 k.1) in
              (v.0, v.1, v.2, sym v.3 ∙ o.1)

      -- whose label is its first person
      module _ {name labels' : ℕ} (lowest : Lowest crowd name) (more : Added labels name labels') where
        pub settling_more : Settling steps people c scope dom left' (bit_or used crowd) labels' wide
        settling_more =
            record {
              part = part';
              rest = rest';
              names = λ π t.
                  labels_more (w.names π t) adds
                  (subst (λ (x : ℕ). Added labels x labels') (lowest_name people c (of_plan π t) lowest) more);
              used_by = λ π t.
                  let v = w.used_by π t in
                  record {
                    people_of = λ p l h.
                        or_cases (has_bit used p) (has_bit crowd p) (sym (or-bit used crowd p) ∙ h)
                        (λ x. let o = v.people_of p l x in
                        (o.0, o.1, grows o.0 o.2, o.3))
                        (λ x. (s, adds.below, adds.has, ((of_plan π t).only p x).1));
                    classes_of = λ p u l m h e.
                        or-bit used crowd p
                        ∙ by_cases (eqb u s)
                        (λ x. or_right (has_bit used p) (has_bit crowd p) ((of_plan π t).has p l (e ∙ ap (λ (y : ℕ). c (π y)) (eqb-true u s x))))
                        (λ x. or_left (has_bit used p) (has_bit crowd p) (v.classes_of p u l m (adds.others u (eqb-false u s x) ∙ h) e));
                  };
            }

  -- at the end, the count of the labels is that of the classes
  pub settling_all : {left used labels wide groups : ℕ} → Settling steps people c scope dom left used labels wide → left ≡ 0
      → ((m : ℕ) (S : ℕ → Bool) (f : ℕ → ℕ) → LabelsOf m S f labels → groups ≡ distinct m S f) → Fixing steps people c scope dom used groups wide
  settling_all {left} {used} {labels} {wide} w e counted =
      let v = subst (λ (x : ℕ). Settling steps people c scope dom x used labels wide) e w in
      record {
        part = λ s h. let r = v.part s h in (r.0, r.1);
        number = λ π t.
            counted steps (settled scope wide 0) _ (v.names π t)
            ∙ uses_distinct people c steps (settled scope wide 0) π (λ s l h. t.within s l);
        used_by = v.used_by;
      }

  -- the open steps are of the steps
  pub wide_below : {left used labels wide : ℕ} → Settling steps people c scope dom left used labels wide → wide < 2 ^ steps
  wide_below {wide = wide} w = bits_below steps wide (λ s h. (w.part s h).0)
