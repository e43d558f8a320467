-- Closing classes that hold as many steps of a rule as they may: a plan of the domains gives each step that only people of a class may do a
-- person of it, so that its load is at least their number, and one more with any other step that takes somebody of it. Assumes nothing.
use mathlib.Core.Bool.{Bool, true, false, ◌&&◌, ◌||◌, or-false}
use mathlib.Core.List.{List, []}
use mathlib.Core.Path.{◌≡◌, refl, sym, subst, ap, ◌∙◌}
use Prim.Native.Nat.{ℕ, suc, ◌^◌, ◌≤◌, ◌<◌}
use native.Mathlib.Omega.{arith}
use lib.Bits.{bit_and, bit_or, bit_xor}
use lib.Count.{ones}
use lib.Dec.{eqb}
use lib.ListN.{length, get_or}
use borrow.Author.Tests.{eqb-true, eq-eqb, ne_eqb, not-true}
use Rattle.bits.specs.Below.{count}
use Rattle.bits.specs.Word.{has_bit}
use Rattle.bits.specs.Set.{unlike, Sifted, FirstAndRest}
use Rattle.bits.proofs.Below.{by_cases, true-false, and_left, and_right}
use Rattle.bits.proofs.Counting.{and_of, is_false, count_mono, count_insert}
use Rattle.bits.proofs.SetLaws.{zero_empty, and-bit_right, or-bit, xor_bit, has_below}
use Rattle.bits.proofs.Masks.{or_cases, or_right, bits_below, ones-count, taken_was}
use Rattle.workflow.specs.Problem.{Job, Rule, Plan, Met, load_of}
use Rattle.workflow.proofs.Loads.{load_le_largest}
use Rattle.pattern.specs.Rule.{level_in, load_in, scope_in, unpacked}
use Rattle.eligible.specs.Classes.{ForClasses, ForJobs}
use Rattle.std.proofs.Common.{Result, Ok, Err, is_err}
use Rattle.std.specs.Result.{IfOk}
use Rattle.narrow.specs.declared.restrict.Unmet.{Unmet}
use Rattle.narrow.specs.Domains.{Takes, Revised}
use Rattle.narrow.specs.Fixing.{Shared}
use Rattle.narrow.specs.Narrowing.{Restricted}
use Rattle.narrow.specs.Loading.{Within, OneClass, Closing}
use Rattle.narrow.proofs.Settling.{nobody, at_level}
use Rattle.narrow.proofs.Restricting.{fewer_same, fewer_then}

-- ---- one revision after another

-- where the first has not failed, the two are one
pub revised_then : {j : Job} {r : Rule} {dom dom' dom'' : List ℕ} {failed : Bool} → Revised j r dom dom' false → Revised j r dom' dom'' failed
    → Revised j r dom dom'' failed
revised_then {dom = dom} {dom' = dom'} {dom'' = dom''} a b =
    record {
      fewer = fewer_then dom dom' dom'' a.fewer b.fewer;
      kept = λ t π met takes. b.kept t π met (a.kept refl π met takes);
      lost = λ t π met takes. b.lost t π met (a.kept refl π met takes);
    }

-- a failure that is handed on
pub failure : (P : Bool → Type 0) (r : Result ℕ Unmet) → is_err r ≡ true → P true → P (is_err r) × IfOk r (λ changed. changed < 4096)
failure P (Ok changed) e p = true-false e refl
failure P (Err _) e p = (p, tt)

-- there are as many domains as before: a job without people can have the rule
pub revised_sized : {crowd : List ℕ} {r : ℕ} {dom dom' : List ℕ} {failed : Bool} → scope_in r < 4096
    → ForJobs crowd r (λ j. Revised j (unpacked r) dom dom' failed) → length dom' ≡ 12
revised_sized l w =
    (w (record { steps = 12; people = 0; levels = 0; rules = 0 }) []
    (record { few_steps = omega arith; scoped = l; grouped = nobody _ })).fewer.sized

-- ---- a class that holds some steps

-- two small sets together
pub small_or : (a b : ℕ) → a < 4096 → b < 4096 → bit_or a b < 4096
small_or a b l m =
    bits_below 12 (bit_or a b)
    (λ s h. or_cases (has_bit a s) (has_bit b s) (sym (or-bit a b s) ∙ h) (λ x. has_below 12 a s l x) (λ x. has_below 12 b s m x))

-- the test of a step: only people of the mask may do it
abbrev pub lies_in : ℕ → List ℕ → ℕ → Bool
lies_in mask dom s = eqb (bit_and (get_or dom s 0) mask) (get_or dom s 0)

pub within_all : (mask scope : ℕ) (dom : List ℕ) {left held : ℕ} → Sifted scope (lies_in mask dom) left held → left ≡ 0 → Within mask scope dom held
within_all mask scope dom {left} {held} w e =
    record {
      part = λ s h. and_left (has_bit scope s) _ (both s h);
      inside = λ s p h k.
          let same : bit_and (get_or dom s 0) mask ≡ get_or dom s 0 = eqb-true _ _ (and_right (has_bit scope s) _ (both s h)) in
          and-bit_right (get_or dom s 0) mask p (ap (λ (x : ℕ). has_bit x p) same ∙ k);
    }
  where
    both : (s : ℕ) → has_bit held s ≡ true → has_bit scope s && lies_in mask dom s ≡ true
    both s h = sym (w.done s (zero_empty left e s)) ∙ h

module _ {mask scope : ℕ} {dom : List ℕ} {held : ℕ} (w : Within mask scope dom held) where
  -- the other steps of the scope
  others_are : (s : ℕ) → has_bit (bit_xor scope held) s ≡ true → (has_bit scope s ≡ true) × (has_bit held s ≡ false)
  others_are s h =
      let u : unlike (has_bit scope s) (has_bit held s) ≡ true = sym (xor_bit scope held s) ∙ h in
      by_cases (has_bit scope s)
      (λ x. (x, not-true (has_bit held s) (rw x at u)))
      (λ x. let k : has_bit held s ≡ true = rw x at u in true-false (w.part s k) x)

  pub others_small : scope < 4096 → bit_xor scope held < 4096
  others_small l = bits_below 12 (bit_xor scope held) (λ s h. has_below 12 scope s l (others_are s h).0)

-- a class of a rule whose scope this is
module _ {j : Job} {r mask scope : ℕ} {dom : List ℕ} {held : ℕ} (w : Within mask scope dom held) (is : scope ≡ scope_in r) (o : OneClass j r mask dom) where
  named : (s : ℕ) → has_bit scope s ≡ true → has_bit (scope_in r) s ≡ true
  named s h = subst (λ (m : ℕ). has_bit m s ≡ true) is h

  below : (s : ℕ) → has_bit scope s ≡ true → s < j.steps
  below s h = has_below j.steps (scope_in r) s o.scoped (named s h)

  -- the machine's count of the steps held
  held-count : ones held ≡ count j.steps (has_bit held)
  held-count =
      let z : held < 2 ^ 12 = bits_below 12 held (λ s h. omega (arith, o.few_steps, below s (w.part s h))) in
      ones-count j.steps held (omega (arith, o.few_steps)) (omega arith) (λ s h. below s (w.part s h))

  module _ (π : Plan) (met : Met j (unpacked r) π) (takes : Takes j.steps j.people dom π) where
    -- a step of the scope counts for the class of the mask
    abbrev counts : ℕ → Bool
    counts s = has_bit (scope_in r) s && eqb (j.class (level_in r) (π s)) (o.one π takes).0

    -- one with somebody of the mask does
    counted : (s : ℕ) → has_bit scope s ≡ true → has_bit mask (π s) ≡ true → counts s ≡ true
    counted s h k = and_of (has_bit (scope_in r) s) _ (named s h) (eq-eqb _ _ ((o.one π takes).1 (π s) (takes.within s (below s h)) k))

    held-counted : (s : ℕ) → has_bit held s ≡ true → counts s ≡ true
    held-counted s h = counted s (w.part s h) (w.inside s (π s) h (takes.among s (below s (w.part s h))))

    -- some steps that count for it are no more than one class may hold
    at_most : (S : ℕ → Bool) → ((s : ℕ) → S s ≡ true → counts s ≡ true) → count j.steps S ≤ load_in r
    unfolding load_of
    at_most S h =
        let few : count j.steps S ≤ load_of j.steps (has_bit (scope_in r)) (λ s. j.class (level_in r) (π s)) (o.one π takes).0
        = count_mono j.steps S counts (λ s l k. h s k) in
        let most = load_le_largest j.steps (has_bit (scope_in r)) (λ s. j.class (level_in r) (π s)) (o.one π takes).0 in
        omega (arith, met.load)

    held_few : ones held ≤ load_in r
    held_few = omega (arith, held-count, at_most (has_bit held) held-counted)

    -- where they are as many as it may hold, the other steps have nobody of it
    closed : ones held ≡ load_in r → (t : ℕ) → has_bit (bit_xor scope held) t ≡ true → has_bit mask (π t) ≡ false
    closed full t h =
        let t-is = others_are w t h in
        let l = below t t-is.0 in
        is_false (has_bit mask (π t))
        (λ k.
        let more : count j.steps (λ s. has_bit held s || eqb s t) ≡ suc (count j.steps (has_bit held))
        = count_insert j.steps (has_bit held) (λ s. has_bit held s || eqb s t) t l t-is.1 (or_right (has_bit held t) (eqb t t) (eq-eqb t t refl))
        (λ s m d. sym (ap (◌||◌ (has_bit held s)) (ne_eqb s t d) ∙ or-false (has_bit held s))) in
        let few = at_most (λ s. has_bit held s || eqb s t)
        (λ s i. or_cases (has_bit held s) (eqb s t) i (held-counted s)
        (λ x. subst (λ (z : ℕ). counts z ≡ true) (sym (eqb-true s t x)) (counted t t-is.0 k))) in
        omega (arith, held-count))

  -- more than it may hold: no plan of the domains meets the rule
  pub closed_lost : length dom ≡ 12 → load_in r < ones held → Revised j (unpacked r) dom dom true
  closed_lost e l = record { fewer = fewer_same dom e; kept = λ t. true-false refl t; lost = λ t π met takes. omega (arith, held_few π met takes) }

  -- as many: the other steps are left everybody else
  module _ (full : ones held ≡ load_in r) {crew : ℕ} {dom' : List ℕ} {failed : Bool} {changed : ℕ}
      (cut : Restricted (bit_xor scope held) crew dom dom' failed changed)
      (outside : (p : ℕ) → p < 64 → has_bit mask p ≡ false → has_bit crew p ≡ true) where
    such : (π : Plan) → Met j (unpacked r) π → Takes j.steps j.people dom π → (t : ℕ) → has_bit (bit_xor scope held) t ≡ true → has_bit crew (π t) ≡ true
    such π met takes t h =
        outside (π t) (omega (arith, o.few_people, takes.within t (below t (others_are w t h).0))) (closed π met takes full t h)

    pub closed_rest : Revised j (unpacked r) dom dom' failed
    closed_rest =
        record {
          fewer = cut.done.fewer;
          kept = λ e π met takes.
              record { within = takes.within; among = λ s l. cut.done.keeps s (π s) (takes.among s l) (such π met takes s) };
          lost = λ e π met takes.
              let i = cut.lost e in
              i.2 (π i.0) (takes.among i.0 (below i.0 (others_are w i.0 i.1).0)) (such π met takes i.0 i.1);
        }

-- ---- class after class

module _ {crowd : List ℕ} {r : ℕ} {dom : List ℕ} where
  module _ {dom' : List ℕ} {left changed s left' : ℕ} (w : Closing crowd r dom dom' left changed) (t : FirstAndRest left s left') where
    -- its class is looked at
    module _ {level mask : ℕ} (is : level ≡ level_in r) (shared : ForClasses crowd level (λ people c. Shared people c (get_or dom' s 0) mask))
        (some : mask ≡ 0 → ⊥) {dom'' : List ℕ} where
      pub closing_then : {failed : Bool} → ((j : Job) → OneClass j r mask dom' → Revised j (unpacked r) dom' dom'' failed)
          → ForJobs crowd r (λ j. Revised j (unpacked r) dom dom'' failed)
      closing_then next size rule at =
          revised_then (w.revised size rule at)
          (next _ (record {
            few_steps = at.few_steps;
            few_people = at.grouped.few;
            scoped = at.scoped;
            one = λ π takes.
                let l = has_below size.steps (scope_in r) s at.scoped (w.rest s t.lowest.has) in
                let its = at_level crowd (λ people c. Shared people c (get_or dom' s 0) mask) is shared size.people at.grouped some (π s)
                (takes.within s l) (takes.among s l) in
                (_, λ p m h. (its.only p h).1);
          }))

      pub closing_more : ((j : Job) → OneClass j r mask dom' → Revised j (unpacked r) dom' dom'' false) → {more : ℕ} → more < 4096
          → Closing crowd r dom dom'' left' (bit_or changed more)
      closing_more next {more} l =
          record {
            rest = λ u h. w.rest u (taken_was t u h);
            small = small_or changed more w.small l;
            revised = closing_then next;
          }
