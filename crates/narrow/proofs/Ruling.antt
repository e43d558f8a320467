-- What a rule leaves to its open steps: at the upper end of its interval only people of the classes that are had, at the lower end only
-- others, where it has one class only people who share one with somebody of each step, and where the steps that are apart reach the upper
-- end only people of their classes and of those that are had. Assumes nothing.
use mathlib.Core.Bool.{Bool, true, false, not, ◌&&◌, ◌||◌, or-false, and-true}
use mathlib.Core.List.{List}
use mathlib.Core.Logic.{inl, inr}
use mathlib.Core.Path.{◌≡◌, refl, sym, subst, ap, ◌∙◌}
use Prim.Native.Nat.{ℕ, suc, ◌+◌, ◌^◌, ◌≤◌, ◌<◌}
use native.Mathlib.Omega.{arith}
use lib.Count.{ones}
use lib.Dec.{eqb}
use lib.ListN.{length}
use borrow.Author.Tests.{eqb-true, eqb-false, eq-eqb, ne_eqb, not-true}
use Rattle.bits.specs.Below.{count}
use Rattle.bits.specs.Word.{has_bit}
use Rattle.bits.proofs.Below.{by_cases, true-false, and_right}
use Rattle.bits.proofs.Counting.{and_of, is_false, count_insert}
use Rattle.bits.proofs.SetLaws.{empty_lacks}
use Rattle.workflow.specs.Problem.{Job, Plan, Met, class_count, distinct, Pair}
use Rattle.workflow.proofs.Occurs.{distinct_scope_mono, distinct_scope_split}
use Rattle.workflow.proofs.Rules.{distinct_of_pair}
use Rattle.pattern.specs.Rule.{level_in, least_in, most_in, scope_in, unpacked}
use Rattle.workflow.proofs.Labels.{Adds}
use Rattle.pattern.proofs.Counted.{distinct_joins, distinct_new}
use Rattle.eligible.specs.Classes.{ForClasses, ForJobs}
use Rattle.narrow.specs.Domains.{Takes, Revised}
use Rattle.narrow.specs.Fixing.{settled, Fixing}
use Rattle.narrow.specs.Narrowing.{SharesWith, Restricted, Hopeless, Allowed}
use Rattle.narrow.specs.Parting.{Apart}
use Rattle.bits.proofs.Masks.{or_cases, or_left, or_right, bits_below, ones-count}
use Rattle.narrow.proofs.Settling.{settled_of, settled_scope, settled_narrow, bound_of}
use Rattle.narrow.proofs.Spreading.{count_spread}
use Rattle.narrow.proofs.Parting.{classes_from}
use Rattle.narrow.proofs.Restricting.{fewer_same}

-- steps of a scope with one class have the same
pub one_class : (n : ℕ) (scope : ℕ → Bool) (c : ℕ → ℕ) (s t : ℕ) → s < n → t < n → scope s ≡ true → scope t ≡ true → distinct n scope c ≤ 1 → c s ≡ c t
one_class n scope c s t l m h k few =
    by_cases (eqb s t)
    (λ x. ap c (eqb-true s t x))
    (λ x. by_cases (eqb (c s) (c t)) (λ y. eqb-true (c s) (c t) y)
    (λ y.
    let two : distinct n both c ≡ 2 = (distinct_of_pair n both c s t (pair (eqb-false s t x))).1 (eqb-false (c s) (c t) y) in
    let le : distinct n both c ≤ distinct n scope c
    = distinct_scope_mono n c both scope
    (λ u b i. or_cases (eqb u s) (eqb u t) i
    (λ e. subst (λ (z : ℕ). scope z ≡ true) (sym (eqb-true u s e)) h)
    (λ e. subst (λ (z : ℕ). scope z ≡ true) (sym (eqb-true u t e)) k)) in
    absurd (omega arith)))
  where
    both : ℕ → Bool
    both u = eqb u s || eqb u t

    pair : (s ≡ t → ⊥) → Pair n both s t
    pair d =
        record {
          first = l;
          second = m;
          differ = d;
          has_first = or_left (eqb s s) (eqb s t) (eq-eqb s s refl);
          has_second = or_right (eqb t s) (eqb t t) (eq-eqb t t refl);
          only = λ u b x y. ap (λ (z : Bool). z || eqb u t) (ne_eqb u s x) ∙ ne_eqb u t y;
        }

module _ {steps people : ℕ} {c : ℕ → ℕ} {scope : ℕ} {dom : List ℕ} {used groups wide : ℕ} (f : Fixing steps people c scope dom used groups wide)
    (π : Plan) (takes : Takes steps people dom π) where
  -- between the classes that are had, and one more for each open step
  pub count_from_lem : groups ≤ distinct steps (has_bit scope) (λ u. c (π u))
  count_from_lem =
      let a : groups ≡ distinct steps (settled scope wide 0) (λ u. c (π u)) = f.number π takes in
      let b : distinct steps (settled scope wide 0) (λ u. c (π u)) ≤ distinct steps (has_bit scope) (λ u. c (π u))
      = distinct_scope_mono steps (λ u. c (π u)) (settled scope wide 0) (has_bit scope) (λ u l h. settled_scope scope wide 0 u h) in
      omega arith

  pub count_to : distinct steps (has_bit scope) (λ u. c (π u)) ≤ groups + count steps (has_bit wide)
  count_to =
      let a : groups ≡ distinct steps (settled scope wide 0) (λ u. c (π u)) = f.number π takes in
      let b : distinct steps (has_bit scope) (λ u. c (π u)) ≤ distinct steps (settled scope wide 0) (λ u. c (π u)) + count steps (has_bit wide)
      = distinct_scope_split steps (λ u. c (π u)) (has_bit scope) (settled scope wide 0) (has_bit wide)
      (λ u l h d. by_cases (has_bit wide u) (λ t. t) (λ t. true-false (settled_of scope wide 0 u h t (empty_lacks u)) d)) in
      omega arith

  module _ (t : ℕ) (is_open : has_bit wide t ≡ true) where
    below : t < steps
    below = (f.part t is_open).0

    -- the settled steps and t
    adds : Adds steps (settled scope wide 0) (λ u. settled scope wide 0 u || eqb u t) t
    adds =
        record {
          below = below;
          lacks = is_false _ (λ h. true-false is_open (settled_narrow scope wide 0 t h));
          has = or_right (settled scope wide 0 t) (eqb t t) (eq-eqb t t refl);
          others = λ u d. sym (ap (◌||◌ (settled scope wide 0 u)) (ne_eqb u t d) ∙ or-false (settled scope wide 0 u));
        }

    in_scope : (u : ℕ) → settled scope wide 0 u || eqb u t ≡ true → has_bit scope u ≡ true
    in_scope u i =
        or_cases (settled scope wide 0 u) (eqb u t) i (λ x. settled_scope scope wide 0 u x)
        (λ x. subst (λ (z : ℕ). has_bit scope z ≡ true) (sym (eqb-true u t x)) (f.part t is_open).1)

    -- with somebody of no class that is had, t brings one more
    brings : has_bit used (π t) ≡ false → distinct steps (λ u. settled scope wide 0 u || eqb u t) (λ u. c (π u)) ≡ suc groups
    brings h =
        let b = bound_of steps (λ u. c (π u)) in
        distinct_new steps b.0 (settled scope wide 0) (λ u. settled scope wide 0 u || eqb u t) (λ u. c (π u)) t adds (λ u l i. b.1 u l)
        (λ u l i e. true-false ((f.used_by π takes).classes_of (π t) u (takes.within t below) l i (sym e)) h)
        ∙ ap suc (sym (f.number π takes))

    -- at the upper end, t joins a class that is had
    pub joins_used : distinct steps (has_bit scope) (λ u. c (π u)) ≤ groups → has_bit used (π t) ≡ true
    joins_used most =
        by_cases (has_bit used (π t)) (λ h. h)
        (λ h.
        let le : distinct steps (λ u. settled scope wide 0 u || eqb u t) (λ u. c (π u)) ≤ distinct steps (has_bit scope) (λ u. c (π u))
        = distinct_scope_mono steps (λ u. c (π u)) (λ u. settled scope wide 0 u || eqb u t) (has_bit scope) (λ u l i. in_scope u i) in
        absurd (omega (arith, brings h)))

    -- at the lower end, it joins none
    pub avoids_used : groups + count steps (has_bit wide) ≤ distinct steps (has_bit scope) (λ u. c (π u)) → has_bit used (π t) ≡ false
    avoids_used least =
        is_false _
        (λ h.
        let b = bound_of steps (λ u. c (π u)) in
        let o = (f.used_by π takes).people_of (π t) (takes.within t below) h in
        let g : groups ≡ distinct steps (settled scope wide 0) (λ u. c (π u)) = f.number π takes in
        let same : distinct steps (λ u. settled scope wide 0 u || eqb u t) (λ u. c (π u)) ≡ distinct steps (settled scope wide 0) (λ u. c (π u))
        = distinct_joins steps b.0 (settled scope wide 0) (λ u. settled scope wide 0 u || eqb u t) (λ u. c (π u)) t adds (λ u l i. b.1 u l)
        o.0 o.1 o.2 (sym o.3) in
        let le : distinct steps (has_bit scope) (λ u. c (π u))
        ≤ distinct steps (λ u. settled scope wide 0 u || eqb u t) (λ u. c (π u)) + count steps (λ u. has_bit wide u && not (eqb u t))
        = distinct_scope_split steps (λ u. c (π u)) (has_bit scope) (λ u. settled scope wide 0 u || eqb u t) (λ u. has_bit wide u && not (eqb u t))
        (λ u l i d. by_cases (has_bit wide u)
        (λ x. and_of (has_bit wide u) (not (eqb u t)) x
        (ap not (is_false (eqb u t) (λ y. true-false (or_right (settled scope wide 0 u) (eqb u t) y) d))))
        (λ x. true-false (or_left (settled scope wide 0 u) (eqb u t) (settled_of scope wide 0 u i x (empty_lacks u))) d)) in
        let fewer : count steps (has_bit wide) ≡ suc (count steps (λ u. has_bit wide u && not (eqb u t)))
        = count_insert steps (λ u. has_bit wide u && not (eqb u t)) (has_bit wide) t below
        (is_false _ (λ x. true-false (eq-eqb t t refl) (not-true _ (and_right (has_bit wide t) _ x))))
        is_open
        (λ u l d. ap (λ (z : Bool). has_bit wide u && not z) (ne_eqb u t d) ∙ and-true (has_bit wide u)) in
        omega arith)

  -- open steps that are apart
  module _ {all parts : ℕ} (w : Apart people c wide used dom all parts) where
    part_of : (s : ℕ) → has_bit parts s ≡ true → (s < steps) × (has_bit scope s ≡ true)
    part_of s h = let o = f.part s (w.among s h) in (o.0, o.1)

    -- no settled step has the class of one of them
    unlike-settled : (s u : ℕ) → s < steps → u < steps → has_bit parts s ≡ true → settled scope wide 0 u ≡ true → c (π u) ≡ c (π s) → ⊥
    unlike-settled s u l m h i e =
        true-false ((f.used_by π takes).classes_of (π s) u (takes.within s l) m i (sym e)) (w.new s (π s) h (takes.within s l) (takes.among s l))

    unlike_each : (s t : ℕ) → s < steps → t < steps → has_bit parts s ≡ true → has_bit parts t ≡ true → (s ≡ t → ⊥) → c (π s) ≡ c (π t) → ⊥
    unlike_each s t l m h k d e = w.differ s t (π s) (π t) h k d (takes.within s l) (takes.within t m) (takes.among s l) (takes.among t m) e

    -- they have a class each
    pub count_apart : groups + count steps (has_bit parts) ≤ distinct steps (has_bit scope) (λ u. c (π u))
    count_apart =
        let a : groups ≡ distinct steps (settled scope wide 0) (λ u. c (π u)) = f.number π takes in
        let b : distinct steps (settled scope wide 0) (λ u. c (π u)) + count steps (has_bit parts) ≤ distinct steps (has_bit scope) (λ u. c (π u))
        = classes_from steps (has_bit scope) (settled scope wide 0) (has_bit parts) (λ u. c (π u)) (λ u l i. settled_scope scope wide 0 u i)
        (λ s l h. (part_of s h).1) unlike-settled unlike_each in
        omega arith

    -- where these are all that there may be, an open step joins one of them or a class that is had
    pub joins_all : (t : ℕ) → has_bit wide t ≡ true → distinct steps (has_bit scope) (λ u. c (π u)) ≤ groups + count steps (has_bit parts)
        → has_bit all (π t) ≡ true
    joins_all t is_open most =
        by_cases (has_bit all (π t)) (λ h. h)
        (λ h.
        let le : distinct steps (λ u. settled scope wide 0 u || eqb u t) (λ u. c (π u)) + count steps (has_bit parts) ≤ distinct steps (has_bit scope) (λ u. c (π u))
        = classes_from steps (has_bit scope) (λ u. settled scope wide 0 u || eqb u t) (has_bit parts) (λ u. c (π u)) (λ u l i. in_scope t is_open u i)
        (λ s l k. (part_of s k).1)
        (λ s u l m k i e. or_cases (settled scope wide 0 u) (eqb u t) i (λ x. unlike-settled s u l m k x e)
        (λ x. true-false
        ((w.reaches s k).has (π s) (π t) (takes.within s l) (takes.within t (below t is_open)) (takes.among s l) (empty_lacks (π s))
        (sym e ∙ ap (λ (z : ℕ). c (π z)) (eqb-true u t x)))
        h))
        unlike_each in
        absurd (omega (arith, brings t is_open (is_false _ (λ k. true-false (w.keeps (π t) k) h)))))

-- the rule r in a job, and what the domains settle of its count
pub record SettledRule (j : Job) (r : ℕ) (dom : List ℕ) (used groups wide : ℕ) : Type 0 where
  pub few_steps : j.steps ≤ 12
  pub few_people : j.people ≤ 64
  pub sized : length dom ≡ 12
  pub fixing : Fixing j.steps j.people (j.class (level_in r)) (scope_in r) dom used groups wide

-- what is settled of a scope at a level is settled of the rule in every job that can have it
pub settled-rule : {crowd : List ℕ} {r level scope : ℕ} {dom : List ℕ} {used groups wide : ℕ} → level ≡ level_in r → scope ≡ scope_in r → length dom ≡ 12
    → ((steps : ℕ) → scope < 2 ^ steps → ForClasses crowd level (λ people c. Fixing steps people c scope dom used groups wide))
    → ForJobs crowd r (λ j. SettledRule j r dom used groups wide)
settled-rule e d sized fixing size rule at =
    let f = rw (e, d) at fixing in
    record { few_steps = at.few_steps; few_people = at.grouped.few; sized = sized; fixing = f size.steps at.scoped size.people at.grouped }

module _ {j : Job} {r : ℕ} {dom : List ℕ} {used groups wide : ℕ} (w : SettledRule j r dom used groups wide) where
  f : Fixing j.steps j.people (j.class (level_in r)) (scope_in r) dom used groups wide
  f = w.fixing

  -- the machine's count of some of the steps
  counts : (m : ℕ) → ((s : ℕ) → has_bit m s ≡ true → s < j.steps) → ones m ≡ count j.steps (has_bit m)
  counts m below =
      let z : m < 2 ^ 12 = bits_below 12 m (λ s h. omega (arith, w.few_steps, below s h)) in
      ones-count j.steps m (omega (arith, w.few_steps)) (omega arith) below

  wide_in : (s : ℕ) → has_bit wide s ≡ true → s < j.steps
  wide_in s h = (f.part s h).0

  wide_count : ones wide ≡ count j.steps (has_bit wide)
  wide_count = counts wide wide_in

  parts_count : {all parts : ℕ} → Apart j.people (j.class (level_in r)) wide used dom all parts → ones parts ≡ count j.steps (has_bit parts)
  parts_count {parts = parts} a = counts parts (λ s h. wide_in s (a.among s h))

  module _ (π : Plan) (met : Met j (unpacked r) π) (takes : Takes j.steps j.people dom π) where
    at_most : (t : ℕ) → has_bit wide t ≡ true → groups ≡ most_in r → has_bit used (π t) ≡ true
    at_most t h e = joins_used f π takes t h (omega (arith, met.most))

    at_least : (t : ℕ) → has_bit wide t ≡ true → groups + ones wide ≡ least_in r → has_bit used (π t) ≡ false
    at_least t h e = avoids_used f π takes t h (omega (arith, wide_count, met.least))

    module _ {all parts : ℕ} (a : Apart j.people (j.class (level_in r)) wide used dom all parts) where
      from_apart : groups + ones parts ≤ class_count j (unpacked r) π
      from_apart = omega (arith, parts_count a, count_apart f π takes a)

      at_limit : (t : ℕ) → has_bit wide t ≡ true → groups + ones parts ≡ most_in r → has_bit all (π t) ≡ true
      at_limit t h e = joins_all f π takes a t h (omega (arith, parts_count a, met.most))

    -- with one class, somebody of each open step is of the class of t
    at_one : (t : ℕ) → has_bit wide t ≡ true → most_in r ≡ 1 → (s : ℕ) → has_bit wide s ≡ true → SharesWith j.people (j.class (level_in r)) dom s (π t)
    at_one t h e s k =
        let a = f.part s k in
        let b = f.part t h in (
          π s,
          takes.within s a.0,
          takes.among s a.0,
          one_class j.steps (has_bit (scope_in r)) (λ u. j.class (level_in r) (π u)) s t a.0 b.0 a.1 b.1 (omega (arith, met.most)),
        )

    -- too many classes are had, or too few can be
    unmet : Hopeless j.people (j.class (level_in r)) r wide used dom groups (ones wide) → ⊥
    unmet (inl not-now) =
        not-now (record {
          most = omega (arith, count_from_lem f π takes, met.most);
          least = omega (arith, wide_count, count_to f π takes, met.least);
        })
    unmet (inr short) =
        short.unmet (record {
          most = omega (arith, count_from_lem f π takes, met.most);
          least = omega (arith, count_spread f short.spread π takes, met.least);
        })

    -- the open steps have only such people
    such : {crew : ℕ} → Allowed j.people (j.class (level_in r)) r wide used dom groups (ones wide) crew → (t : ℕ) → has_bit wide t ≡ true → has_bit crew (π t) ≡ true
    such (inl one) t h = one.1 (π t) (takes.within t (wide_in t h)) (λ s k _. at_one t h one.0 s k)
    such (inr (inl l)) t h =
        l.has (π t) (omega (arith, w.few_people, takes.within t (wide_in t h))) (omega (arith, from_apart l.apart, met.most))
        (λ x. at_limit l.apart t h x)
    such (inr (inr only)) t h = only (π t) (omega (arith, w.few_people, takes.within t (wide_in t h))) (at_most t h) (at_least t h)

  -- no plan of the domains meets the rule
  pub revised_lost : Hopeless j.people (j.class (level_in r)) r wide used dom groups (ones wide) → Revised j (unpacked r) dom dom true
  revised_lost h = record { fewer = fewer_same dom w.sized; kept = λ t. true-false refl t; lost = λ t π met takes. unmet π met takes h }

  -- the open steps are left only such people
  pub revised : {crew : ℕ} {dom' : List ℕ} {failed : Bool} {changed : ℕ} → Restricted wide crew dom dom' failed changed
      → Allowed j.people (j.class (level_in r)) r wide used dom groups (ones wide) crew → Revised j (unpacked r) dom dom' failed
  revised cut ok =
      record {
        fewer = cut.done.fewer;
        kept = λ e π met takes.
            record { within = takes.within; among = λ s l. cut.done.keeps s (π s) (takes.among s l) (λ h. such π met takes ok s h) };
        lost = λ e π met takes.
            let o = cut.lost e in
            o.2 (π o.0) (takes.among o.0 (wide_in o.0 o.1)) (such π met takes ok o.0 o.1);
      }
