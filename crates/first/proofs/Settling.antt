-- The first plan in arrays: what a person tried at a step, in whom a plan is found or not, does to the masks and the plan. Assumes
-- nothing.
use mathlib.Core.Bool.{Bool, true, ◌&&◌}
use mathlib.Core.List.{List}
use mathlib.Core.Path.{◌≡◌, refl, sym, subst, ap, ◌∙◌}
use Prim.Native.Nat.{ℕ, ◌+◌, ◌*◌, ◌%◌, ◌^◌, ◌≤◌, ◌<◌}
use native.Mathlib.Omega.{arith}
use native.Mathlib.Nat.{one-mul}
use native.Mathlib.Numerals.{add-one}
use lib.Dec.{eqb, ltb, lit<}
use lib.ListN.{length, get_or, set, length-set}
use lib.Pow.{shl_exact}
use lib.Seq.{get_or-set_same, get_or-set_other}
use borrow.Author.Tests.{eqb-true, eqb-false, ltb-true, lt-ltb}
use Rattle.bits.specs.Word.{has_bit}
use Rattle.bits.specs.Set.{FirstAndRest}
use Rattle.bits.proofs.Below.{by_cases, true-false, and_left, and_right}
use Rattle.bits.proofs.Counting.{and_of}
use Rattle.bits.proofs.Masks.{taken_was}
use Rattle.bits.proofs.SetLaws.{zero_empty, mod-bit, removed_other}
use Rattle.workflow.specs.Problem.{Job, May, Plan, Valid}
use Rattle.std.specs.Prelude.{None, Some}
use Rattle.workflow.specs.First.{nothing, first_plan, found_in}
use Rattle.workflow.proofs.First.{no_valid_plan}
use Rattle.pattern.specs.Tables.{may_in, plan_in}
use Rattle.backtrack.proofs.Extending.{own_bit}
use Rattle.levels.specs.declared.Tables.{Tables}
use Rattle.levels.specs.Tabled.{tabled_job, Ready}
use Rattle.search.specs.Existence.{Existence}
use Rattle.first.specs.Settle.{Standing, Settled}
use Rattle.first.proofs.Narrow.{Narrowed, narrowed_valid, other_standing, fixed_standing, fixed_first, standing_first}

-- one bit of a word
bit_word : (n : ℕ) → n < 64 → 1 * 2 ^ n % 18446744073709551616 ≡ 2 ^ n
bit_word n l = shl_exact 1 n 64 (lit< tt) (omega arith) ∙ one-mul (2 ^ n)

-- the people before n of a mask
pub before_bit : (x n : ℕ) → n < 64 → (p : ℕ) → has_bit (x % (1 * 2 ^ n % 18446744073709551616)) p ≡ ltb p n && has_bit x p
before_bit x n l p = ap (λ (m : ℕ). has_bit (x % m) p) (bit_word n l) ∙ mod-bit n x p

-- a mask replaced
mask_set : (may may' : List ℕ) (s x : ℕ) (f : ℕ → Bool) → length may' ≡ 12 → s < 12 → ((p : ℕ) → has_bit x p ≡ f p)
    → ((t : ℕ) → (t ≡ s → ⊥) → (p : ℕ) → may_in may' t p ≡ may_in may t p) → Narrowed (may_in may) (may_in (set may' s x)) s f
mask_set may may' s x f e l own others =
    record {
      own = λ p. ap (λ (m : ℕ). has_bit m p) (get_or-set_same may' s x 0 (omega arith)) ∙ own p;
      others = λ t n p. ap (λ (m : ℕ). has_bit m p) (get_or-set_other may' s t x 0 n) ∙ others t n p;
    }

-- the person of a step in a plan that stands
pub standing_person : {j : Job} {may : May} {s : ℕ} (plan : List ℕ) → Standing j may s (plan_in plan) → s < j.steps → j.people ≤ 64 → plan_in plan s < 64
standing_person {j} {may} {s} plan w l few = omega (arith, w.valid.within s l)

-- the people of `left` are still to be tried at step s: nobody else before the one in hand does it in a valid plan. Only the mask of s has
-- changed
pub record Looking (j : Job) (s : ℕ) (may may' plan : List ℕ) (left : ℕ) : Type 0 where
  pub masks : length may' ≡ 12
  pub others : (t : ℕ) → (t ≡ s → ⊥) → (p : ℕ) → may_in may' t p ≡ may_in may t p
  pub part : (p : ℕ) → has_bit left p ≡ true → (p < plan_in plan s) × (may_in may s p ≡ true)
  pub all : (σ : Plan) → Valid j (may_in may) σ → σ s < plan_in plan s → has_bit left (σ s) ≡ true

-- step s is to be settled, with a plan in hand
pub record InHand (j : Job) (s : ℕ) (may plan : List ℕ) : Type 0 where
  pub standing : Standing j (may_in may) s (plan_in plan)
  pub masks : length may ≡ 12
  pub sized : length plan ≡ 12
  pub below : s < j.steps
  pub few : j.steps ≤ 12
  pub people : j.people ≤ 64

pub in_hand : (t : Tables) {s : ℕ} {may plan : List ℕ} → Ready t → length may ≡ 12 → length plan ≡ 12 → s < t.size.steps
    → Standing (tabled_job t) (may_in may) s (plan_in plan) → InHand (tabled_job t) s may plan
in_hand t ready masks sized below standing =
    let given = ready.tabled.given in
    record { standing = standing; masks = masks; sized = sized; below = below; few = given.ruled.few_steps; people = given.few_people }

module _ {j : Job} {s : ℕ} {may plan : List ℕ} (hand : InHand j s may plan) where
  standing : Standing j (may_in may) s (plan_in plan)
  standing = hand.standing

  below : s < j.steps
  below = hand.below

  people : j.people ≤ 64
  people = hand.people

  pub step_small : s < 12
  step_small = omega (arith, hand.below, hand.few)

  pub person : plan_in plan s < 64
  person = standing_person plan standing below people

  pub looking_start : Looking j s may may plan (get_or may s 0 % (1 * 2 ^ plan_in plan s % 18446744073709551616))
  looking_start =
      record {
        masks = hand.masks;
        others = λ t n p. refl;
        part = λ p h.
            let e : ltb p (plan_in plan s) && may_in may s p ≡ true = sym (before_bit (get_or may s 0) (plan_in plan s) person p) ∙ h in
            (ltb-true _ _ (and_left (ltb p (plan_in plan s)) _ e), and_right (ltb p (plan_in plan s)) _ e);
        all = λ σ v l.
            before_bit (get_or may s 0) (plan_in plan s) person (σ s)
            ∙ and_of (ltb (σ s) (plan_in plan s)) _ (lt-ltb (σ s) (plan_in plan s) l) (v.authorised s below);
      }

  -- s is fixed to its person in a plan that stands, where nobody earlier does it in a valid plan
  settled_at : (may' plan' : List ℕ) → length may' ≡ 12 → length plan' ≡ 12 → ((t : ℕ) → (t ≡ s → ⊥) → (p : ℕ) → may_in may' t p ≡ may_in may t p)
      → Standing j (may_in may) s (plan_in plan') → ((σ : Plan) → Valid j (may_in may) σ → σ s < plan_in plan' s → ⊥)
      → Settled j (s + 1) may (set may' s (1 * 2 ^ plan_in plan' s % 18446744073709551616)) plan'
  settled_at may' plan' e f others w none =
      let y : ℕ = 1 * 2 ^ plan_in plan' s % 18446744073709551616 in
      let n : Narrowed (may_in may) (may_in (set may' s y)) s (λ p. eqb p (plan_in plan' s))
      = mask_set may may' s y _ e step_small (own_bit (plan_in plan' s) (standing_person plan' w below people)) others in
      record {
        masks = length-set may' s y ∙ e;
        sized = f;
        standing = subst (λ (k : ℕ). Standing j (may_in (set may' s y)) k (plan_in plan')) (sym (add-one s))
            (fixed_standing j (may_in may) (may_in (set may' s y)) s (plan_in plan') w below none n);
        first = fixed_first j (may_in may) (may_in (set may' s y)) s (plan_in plan') w below none n;
      }

  module _ {may' : List ℕ} {left : ℕ} (look : Looking j s may may' plan left) where
    -- nobody is left: the person in hand is the first
    pub settled_none : left ≡ 0 → Settled j (s + 1) may (set may' s (1 * 2 ^ plan_in plan s % 18446744073709551616)) plan
    settled_none e =
        settled_at may' plan look.masks hand.sized look.others standing (λ σ v l. true-false (look.all σ v l) (zero_empty left e (σ s)))

    -- the lowest of those left is tried
    module _ {q rest : ℕ} (small : q < 64) (next : FirstAndRest left q rest) where
      abbrev pin : List ℕ
      pin = set may' s (1 * 2 ^ q % 18446744073709551616)

      pinned : Narrowed (may_in may) (may_in pin) s (λ p. eqb p q)
      pinned = mask_set may may' s _ _ look.masks step_small (own_bit q small) look.others

      permitted : (p : ℕ) → eqb p q ≡ true → may_in may s p ≡ true
      permitted p h = subst (λ (k : ℕ). may_in may s k ≡ true) (sym (eqb-true p q h)) (look.part q next.lowest.has).1

      pub settled_found : {plan'' : List ℕ} → Existence j (may_in pin) (Some plan'') → Settled j (s + 1) may pin plan''
      settled_found {plan''} (sized, valid) =
          subst (λ (k : ℕ). Settled j (s + 1) may (set may' s (1 * 2 ^ k % 18446744073709551616)) plan'') at
          (settled_at may' plan'' look.masks sized look.others
          (other_standing j (may_in may) (may_in pin) s (plan_in plan) standing below (λ p. eqb p q) pinned permitted (plan_in plan'') valid)
          (λ σ v l.
          let a : σ s < q = subst (λ (k : ℕ). σ s < k) at l in
          let b : q < plan_in plan s = (look.part q next.lowest.has).0 in
          true-false (look.all σ v (omega arith)) (next.lowest.before (σ s) a)))
        where
          at : plan_in plan'' s ≡ q
          at = eqb-true (plan_in plan'' s) q (sym (pinned.own (plan_in plan'' s)) ∙ valid.authorised s below)

      pub looking_next : Existence j (may_in pin) None → Looking j s may pin plan rest
      looking_next lost =
          record {
            masks = length-set may' s _ ∙ look.masks;
            others = pinned.others;
            part = λ p h. look.part p (taken_was next p h);
            all = λ σ v l.
                by_cases (eqb (σ s) q)
                (λ t. absurd (lost (σ, narrowed_valid j (may_in may) (may_in pin) s (λ p. eqb p q) pinned σ v t)))
                (λ t. removed_other next.removed (σ s) (eqb-false (σ s) q t) ∙ look.all σ v l);
          }

module _ {j : Job} {s : ℕ} where
  pub settled_start : (may plan : List ℕ) → length may ≡ 12 → length plan ≡ 12 → Standing j (may_in may) s (plan_in plan) → Settled j s may may plan
  settled_start may plan e f w = record { masks = e; sized = f; standing = w; first = refl }

-- a step more is settled
pub settled_next : {j : Job} {s t : ℕ} {may now now' plan plan' : List ℕ} → Settled j s may now plan → Settled j t now now' plan' → Settled j t may now' plan'
settled_next w x = record { masks = x.masks; sized = x.sized; standing = x.standing; first = x.first ∙ w.first }

-- all steps are settled
pub settled-all : {j : Job} {s : ℕ} {may now plan : List ℕ} → Settled j s may now plan → j.steps ≤ s → first_plan j (may_in may) ≡ found_in j.steps (Some plan)
settled-all {j} {s} {may} {now} {plan} w l =
    sym w.first
    ∙ standing_first j (may_in now) (plan_in plan)
    (record { valid = w.standing.valid; fixed = λ t p m h. w.standing.fixed t p (omega arith) h })

-- the first plan found stands
pub first_standing : {j : Job} {may : May} (plan : List ℕ) → Valid j may (plan_in plan) → Standing j may 0 (plan_in plan)
first_standing plan v = record { valid = v; fixed = λ t p l h. absurd (omega arith) }

pub first_none : {j : Job} (may : List ℕ) → Existence j (may_in may) None → first_plan j (may_in may) ≡ nothing
first_none {j} may lost = no_valid_plan j (may_in may) (λ π v. lost (π, v))
