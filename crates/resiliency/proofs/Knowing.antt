-- Plans that do without people, and the words that say so. Assumes nothing.
use mathlib.Core.Bool.{Bool, true, false, not, ◌&&◌, ◌||◌}
use mathlib.Core.List.{List}
use Rattle.std.specs.Prelude.{None, Some}
use mathlib.Core.Path.{◌≡◌, refl, sym, subst, ap, ◌∙◌}
use Prim.Native.Nat.{ℕ, zero, suc, ◌+◌, ◌*◌, ◌/◌, ◌%◌, ◌≤◌, ◌<◌}
use native.Mathlib.Omega.{arith}
use native.Mathlib.Nat.{not-suc-le-zero, add-zero}
use native.Mathlib.Numerals.{add-one}
use lib.Bits.{bit_and, bit_or, bit_xor}
use lib.ListN.{length, get_or, set, length-set, replicate, get_or-replicate}
use lib.Seq.{get_or-set_same, get_or-set_other}
use borrow.Author.Tests.{eqb-true}
use Rattle.bits.specs.Word.{has_bit}
use Rattle.bits.specs.Set.{unlike, Added, Removed}
use Rattle.bits.proofs.Below.{by_cases, true-false, below_suc, and_left}
use Rattle.bits.proofs.Counting.{and_of}
use Rattle.bits.proofs.SetLaws.{and-bit, and-bit_left, and-bit_right, has_suc, part_le, or-bit, xor_bit, empty_lacks, full_has, added_has, added_keeps, removed_was}
use Rattle.workflow.specs.Problem.{Job, May, Plan, Valid}
use Rattle.workflow.proofs.Valid.{valid_mono, satisfiable_mono}
use Rattle.search.specs.Existence.{Existence}
use Rattle.pattern.specs.Tables.{may_in, plan_in}
use Rattle.resiliency.specs.Away.{without}
use Rattle.resiliency.specs.Known.{Remaining, Uses, Noted, in_front, Moved, Known, KeptPlan, Needed, Stood}

-- ---- the masks of the steps without the people away

without_bits : (x a p : ℕ) → has_bit (bit_xor (bit_or x a) a) p ≡ has_bit x p && not (has_bit a p)
without_bits x a p = xor_bit (bit_or x a) a p ∙ ap (λ (b : Bool). unlike b (has_bit a p)) (or-bit x a p) ∙ cases (has_bit x p) (has_bit a p)
  where
    cases : (b c : Bool) → unlike (b || c) c ≡ b && not c
    cases true true = refl
    cases true false = refl
    cases false true = refl
    cases false false = refl

pub remaining_all : (may rest : List ℕ) (away : ℕ) → length rest ≡ 12
    → ((s : ℕ) → s < 12 → get_or rest s 0 ≡ bit_xor (bit_or (get_or may s 0) away) away) → Remaining may away 12 rest
remaining_all may rest away l h =
    record { sized = l; each = λ s p b. ap (λ (x : ℕ). has_bit x p) (h s b) ∙ without_bits (get_or may s 0) away p }

-- ---- the people of a plan

pub uses_none : (plan : List ℕ) (mask : ℕ) → Uses 0 plan mask
uses_none plan mask = record { each = λ s h. absurd (not-suc-le-zero h) }

pub uses_more : (plan : List ℕ) (n mask r : ℕ) → Uses n plan mask → Added mask (get_or plan n 0) r → Uses (n + 1) plan r
uses_more plan n mask r u a =
    record {
      each = λ s h.
          below_suc n s (subst (λ (x : ℕ). s < x) (add-one n) h)
          (λ q. added_keeps a (plan_in plan s) (u.each s q))
          (λ e. rw e (added_has a));
    }

pub uses_all : (plan : List ℕ) (steps n mask : ℕ) → n ≤ steps → steps ≤ n → Uses n plan mask → Uses steps plan mask
uses_all plan steps n mask a b u = record { each = λ s l. u.each s (omega arith) }

-- ---- one more plan in front

-- the bits of a word moved up by one
moved_bit : (x b i : ℕ) → b < 2 → has_bit (bit_and x 9223372036854775807 * 2 + b) (suc i) ≡ true → has_bit x i ≡ true
moved_bit x b i l h =
    let m : ℕ = bit_and x 9223372036854775807 in
    let e : (m * 2 + b) / 2 ≡ m = omega arith in
    and-bit_left x 9223372036854775807 i (sym (has_suc (m * 2 + b) i ∙ ap (λ (w : ℕ). has_bit w i) e) ∙ h)

-- a bit 0 that was not put in
not_put : (m : ℕ) → has_bit (m * 2) 0 ≡ true → ⊥
not_put m h = let e : (m * 2) / 1 % 2 ≡ 1 = eqb-true _ _ h in omega arith

pub half_fits : (x : ℕ) → bit_and x 9223372036854775807 ≤ 9223372036854775807
half_fits x = part_le (bit_and x 9223372036854775807) 9223372036854775807 (and-bit_right x 9223372036854775807)

module _ (mask : ℕ) (known : List ℕ) where
  pub noted_none : length known ≡ 64 → Noted mask 0 known known
  noted_none l = record { sized = l; own = λ p h t. absurd (not-suc-le-zero h); others = λ p i h. absurd (not-suc-le-zero h); rest = λ p h. refl }

  noted_more : (n : ℕ) (words : List ℕ) (w : ℕ) → n < 64 → Noted mask n known words → (has_bit w 0 ≡ true → has_bit mask n ≡ false)
      → ((i : ℕ) → has_bit w (suc i) ≡ true → has_bit (get_or words n 0) i ≡ true) → Noted mask (n + 1) known (set words n w)
  noted_more n words w l k own other =
      let z = k.sized in
      let at : get_or (set words n w) n 0 ≡ w = get_or-set_same words n w 0 (omega arith) in
      record {
        sized = length-set words n w ∙ z;
        own = λ p h t.
            below_suc n p (subst (λ (x : ℕ). p < x) (add-one n) h)
            (λ q. k.own p q (subst (λ (x : ℕ). has_bit x 0 ≡ true) (get_or-set_other words n p w 0 (omega arith)) t))
            (λ e. rw e (own (subst (λ (x : ℕ). has_bit x 0 ≡ true) at (subst (λ (x : ℕ). has_bit (get_or (set words n w) x 0) 0 ≡ true) e t))));
        others = λ p i h t.
            below_suc n p (subst (λ (x : ℕ). p < x) (add-one n) h)
            (λ q. k.others p i q (subst (λ (x : ℕ). has_bit x (suc i) ≡ true) (get_or-set_other words n p w 0 (omega arith)) t))
            (λ e. subst (λ (x : ℕ). has_bit (get_or known x 0) i ≡ true) (sym e)
            (subst (λ (x : ℕ). has_bit x i ≡ true) (k.rest n (omega arith))
            (other i (subst (λ (x : ℕ). has_bit x (suc i) ≡ true) at (subst (λ (x : ℕ). has_bit (get_or (set words n w) x 0) (suc i) ≡ true) e t)))));
        rest = λ p h. get_or-set_other words n p w 0 (omega arith) ∙ k.rest p (omega arith);
      }

  -- the plan needs the person, or does without
  pub noted_in : (n : ℕ) (words : List ℕ) → n < 64 → Noted mask n known words
      → Noted mask (n + 1) known (set words n (bit_and (get_or words n 0) 9223372036854775807 * 2))
  noted_in n words l k =
      noted_more n words (bit_and (get_or words n 0) 9223372036854775807 * 2) l k (λ t. absurd (not_put (bit_and (get_or words n 0) 9223372036854775807) t))
      (λ i t. moved_bit (get_or words n 0) 0 i (omega arith) (subst (λ (x : ℕ). has_bit x (suc i) ≡ true) (sym (add-zero (bit_and (get_or words n 0) 9223372036854775807 * 2))) t))

  pub noted_out : (n : ℕ) (words : List ℕ) → n < 64 → Noted mask n known words → has_bit mask n ≡ false
      → Noted mask (n + 1) known (set words n (bit_and (get_or words n 0) 9223372036854775807 * 2 + 1))
  noted_out n words l k h =
      noted_more n words (bit_and (get_or words n 0) 9223372036854775807 * 2 + 1) l k (λ t. h) (λ i t. moved_bit (get_or words n 0) 1 i (omega arith) t)

  pub noted_all : (n : ℕ) (words : List ℕ) → n ≤ 64 → 64 ≤ n → Noted mask n known words → Noted mask 64 known words
  noted_all n words a b k = let e : n ≡ 64 = omega arith in subst (λ (x : ℕ). Noted mask x known words) e k

module _ (mask : ℕ) (plans : List ℕ) where
  pub moved_none : length plans ≡ 64 → Moved mask 0 plans plans
  moved_none l = record { sized = l; each = λ i h. absurd (not-suc-le-zero h); rest = λ i h. refl }

  pub moved_more : (n : ℕ) (masks : List ℕ) (x : ℕ) → n < 64 → Moved mask n plans masks → x ≡ in_front mask plans n → Moved mask (n + 1) plans (set masks n x)
  moved_more n masks x l k e =
      let z = k.sized in
      record {
        sized = length-set masks n x ∙ z;
        each = λ i h.
            below_suc n i (subst (λ (y : ℕ). i < y) (add-one n) h)
            (λ q. get_or-set_other masks n i x 0 (omega arith) ∙ k.each i q)
            (λ d. subst (λ (y : ℕ). get_or (set masks n x) y 0 ≡ in_front mask plans y) (sym d) (get_or-set_same masks n x 0 (omega arith) ∙ e));
        rest = λ i h. get_or-set_other masks n i x 0 (omega arith) ∙ k.rest i (omega arith);
      }

  -- the mask that was there goes to the next place
  pub moved_next : (n : ℕ) (masks : List ℕ) → Moved mask n plans masks → get_or masks n 0 ≡ in_front mask plans (n + 1)
  moved_next n masks k = k.rest n (omega arith) ∙ ap (in_front mask plans) (sym (add-one n))

  pub moved_all : (n : ℕ) (masks : List ℕ) → n ≤ 64 → 64 ≤ n → Moved mask n plans masks → Moved mask 64 plans masks
  moved_all n masks a b k = let e : n ≡ 64 = omega arith in subst (λ (x : ℕ). Moved mask x plans masks) e k

-- everyone's mask
everyone_has : (p : ℕ) → p < 64 → has_bit 18446744073709551615 p ≡ true
everyone_has p l = full_has 64 p l

-- a test of two that fails where the first holds
pub and_other : (a b : Bool) → a ≡ true → a && b ≡ false → b ≡ false
and_other true b h t = t
and_other false b h t = true-false h refl

module _ (j : Job) (may : May) where
  -- a valid plan that does without the people away is one among the others, and back
  pub valid-without : (away : ℕ → Bool) (π : Plan) → Valid j may π → ((s : ℕ) → s < j.steps → away (π s) ≡ false) → Valid j (without may away) π
  valid-without away π v h =
      record { within = v.within; authorised = λ s l. and_of _ _ (v.authorised s l) (rw (h s l) refl); eligible = v.eligible }

  pub without-valid : (away : ℕ → Bool) (π : Plan) → Valid j (without may away) π → Valid j may π
  without-valid away π v = valid_mono j (without may away) may π (λ s p l m t. and_left (may s p) _ t) v

  -- before any plan is kept one valid plan is enough: every mask has everyone
  pub known_zero : (π : Plan) → Valid j may π → j.people ≤ 64 → Known j may (replicate {A = ℕ} 64 0) (replicate {A = ℕ} 64 18446744073709551615)
  known_zero π v l =
      record {
        sized = refl;
        masks = refl;
        plan = λ i. π;
        valid = λ i. v;
        people = λ i s b m. rw (get_or-replicate {A = ℕ} 64 i 18446744073709551615 0 b) (everyone_has (π s) (omega (arith, v.within s m)));
        spares = λ i p b m t. true-false t (rw (get_or-replicate {A = ℕ} 64 p 0 0 m) (empty_lacks i));
      }

  -- a plan found is kept in front of the others
  pub known_kept : (plan known known' plans plans' : List ℕ) (mask : ℕ) → Known j may known plans → Valid j may (plan_in plan)
      → KeptPlan j.steps plan mask known plans known' plans' → Known j may known' plans'
  known_kept plan known known' plans plans' mask k v h =
      record {
        sized = h.noted.sized;
        masks = h.moved.sized;
        plan = plan_at;
        valid = valid;
        people = people;
        spares = spares;
      }
    where
      plan_at : ℕ → Plan
      plan_at zero = plan_in plan
      plan_at (suc i) = k.plan i

      valid : (i : ℕ) → Valid j may (plan_at i)
      valid zero = v
      valid (suc i) = k.valid i

      people : (i s : ℕ) → i < 64 → s < j.steps → has_bit (get_or plans' i 0) (plan_at i s) ≡ true
      people zero s b m = rw (h.moved.each 0 b) (h.needs.each s m)
      people (suc i) s b m = rw (h.moved.each (suc i) b) (k.people i s (omega arith) m)

      spares : (i p : ℕ) → i < 64 → p < 64 → has_bit (get_or known' p 0) i ≡ true → has_bit (get_or plans' i 0) p ≡ false
      spares zero p b m t = rw (h.moved.each 0 b) (h.noted.own p m t)
      spares (suc i) p b m t = rw (h.moved.each (suc i) b) (k.spares i p (omega arith) m (h.noted.others p i m t))

-- ---- the people whom the plans of a word need

module _ (word : ℕ) (plans : List ℕ) (among : ℕ) where
  pub needed_start : Needed word plans among among
  needed_start = record { part = λ p h. h; lacks = λ p h t. true-false h t }

  -- one more plan of the word
  pub needed_more : (rest i : ℕ) → i < 64 → has_bit word i ≡ true → Needed word plans among rest
      → Needed word plans among (bit_and rest (get_or plans i 0))
  needed_more rest i l w n =
      record {
        part = λ p h. n.part p (and-bit_left rest (get_or plans i 0) p h);
        lacks = λ p h t.
            by_cases (has_bit rest p)
            (λ r. (i, l, w, and_other (has_bit rest p) _ r (sym (and-bit rest (get_or plans i 0) p) ∙ t)))
            (λ r. n.lacks p h r);
      }

-- the plans still to be taken are of the word
abbrev pub Part : ℕ → ℕ → Type 0
Part left word = (i : ℕ) → has_bit left i ≡ true → has_bit word i ≡ true

pub part_next : (word : ℕ) {left left' i : ℕ} → Part left word → Removed left i left' → Part left' word
part_next word h d i l = h i (removed_was d i l)

-- ---- a search among the people left

-- the people of the plan found
pub found_people : {j : Job} {may : May} (plan : List ℕ) → Existence j may (Some plan) → j.people ≤ 64
    → (s : ℕ) → s < j.steps → get_or plan s 0 < 64
found_people plan x l s b = let w : plan_in plan s < _ = x.1.within s b in omega arith

module _ {j : Job} {may rest : List ℕ} {away : ℕ} where
  pub searched_won : (plan : List ℕ) {words words' plans plans' weight : List ℕ} {mask : ℕ} → Known j (may_in may) words plans
      → Remaining may away 12 rest → j.steps ≤ 12 → Existence j (may_in rest) (Some plan)
      → KeptPlan j.steps plan mask words plans words' plans'
      → length weight ≡ 12 → Stood j (may_in may) (has_bit away) words' plans' weight true mask
  searched_won plan {words} {words'} {plans} {plans'} {mask = mask} k m l x u w =
      let v : Valid j (without (may_in may) (has_bit away)) (plan_in plan)
      = valid_mono j (may_in rest) (without (may_in may) (has_bit away)) (plan_in plan) (λ s p b c h. sym (m.each s p (omega arith)) ∙ h) x.1
      in
      record {
        known = known_kept j (may_in may) plan words words' plans plans' mask k (without-valid j (may_in may) (has_bit away) (plan_in plan) v) u;
        weights = w;
        won = λ t. (plan_in plan, v, u.needs.each);
        lost = λ t. true-false refl t;
      }
