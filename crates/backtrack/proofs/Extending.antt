-- One person after another tried at a step: what is said of the domains with that person alone says what is wanted of all of them. Assumes
-- nothing.
use mathlib.Core.Bool.{Bool, true, false}
use mathlib.Core.List.{List}
use mathlib.Core.Path.{◌≡◌, refl, sym, subst, ap, ◌∙◌}
use Prim.Native.Nat.{ℕ, ◌*◌, ◌%◌, ◌^◌, ◌≤◌, ◌<◌}
use native.Mathlib.Omega.{arith}
use native.Mathlib.Nat.{one-mul}
use lib.Dec.{eqb, ltb, lit<}
use lib.ListN.{length, get_or, length-set}
use lib.Pow.{shl_exact}
use lib.Seq.{get_or-set_same, get_or-set_other}
use borrow.Author.Tests.{eqb-true, eqb-false, eq-eqb, ltb-true, ltb-false}
use Rattle.bits.specs.Word.{has_bit}
use Rattle.bits.specs.Set.{FirstAndRest}
use Rattle.bits.proofs.Below.{by_cases, true-false}
use Rattle.bits.proofs.SetLaws.{one_bit, zero_empty, removed_other}
use Rattle.bits.proofs.Masks.{taken_was}
use Rattle.workflow.specs.Problem.{Job, Plan, Valid}
use Rattle.workflow.specs.First.{Earlier}
use Rattle.pattern.specs.Tables.{may_in, plan_in}
use Rattle.narrow.specs.Domains.{Fewer, Narrowed}
use Rattle.std.proofs.Common.{Result, Ok, Err, Option, Some, None, is_err}
use Rattle.backtrack.specs.Trial.{pinned, Alone, Others, Trial}
use Rattle.backtrack.specs.declared.Tired.{Tired}

-- a part of the domains permits less
pub part_valid : (j : Job) (dom dom' : List ℕ) → Fewer dom dom' → (π : Plan) → Valid j (may_in dom') π → Valid j (may_in dom) π
part_valid j dom dom' f π v =
    record { within = v.within; authorised = λ s l. f.part s (π s) (v.authorised s l); eligible = v.eligible }

-- what is found within narrowed domains is found within the whole
pub narrowed_trial : (ordered : Bool) {j : Job} {dom dom' : List ℕ} {r : Bool} → Narrowed j dom dom' r → r ≡ true → (o : Result (Option (List ℕ)) Tired)
    → Trial ordered j dom' o → Trial ordered j dom o
unfolding Trial
narrowed_trial ordered {j} {dom} {dom'} n e (Ok (Some plan)) (sized, t) = (
  sized,
  record {
    valid = part_valid j dom dom' n.fewer (plan_in plan) t.valid;
    first = λ wanted σ v x. t.first wanted σ (n.kept e σ v) x;
  },
)
narrowed_trial ordered n e (Ok None) t = λ (π, v). t (π, n.kept e π v)
narrowed_trial ordered n e (Err _) t = tt

pub narrowed_lost : (ordered : Bool) {j : Job} {dom dom' : List ℕ} {r : Bool} → Narrowed j dom dom' r → r ≡ false → Trial ordered j dom (Ok None)
unfolding Trial
narrowed_lost ordered n e (π, v) = n.lost e π v

-- a search that gave up
pub trial_tired : (ordered : Bool) (j : Job) (dom : List ℕ) (o : Result (Option (List ℕ)) Tired) → is_err o ≡ true → Trial ordered j dom o
unfolding Trial
trial_tired ordered j dom (Ok r) e = true-false e refl
trial_tired ordered j dom (Err _) e = tt

-- the first plan is a plan
pub trial_any : (ordered : Bool) (j : Job) (dom : List ℕ) (o : Result (Option (List ℕ)) Tired) → Trial true j dom o → Trial ordered j dom o
unfolding Trial
trial_any ordered j dom (Ok (Some plan)) (sized, t) = (sized, record { valid = t.valid; first = λ wanted. t.first refl })
trial_any ordered j dom (Ok None) t = t
trial_any ordered j dom (Err _) t = tt

-- one bit of a word
pub own_bit : (n : ℕ) → n < 64 → (p : ℕ) → has_bit (1 * 2 ^ n % 18446744073709551616) p ≡ eqb p n
own_bit n l p = ap (λ (m : ℕ). has_bit m p) (shl_exact 1 n 64 (lit< tt) (omega arith) ∙ one-mul (2 ^ n)) ∙ one_bit n p

module _ (dom : List ℕ) (sized : length dom ≡ 12) (s p : ℕ) (below : s < 12) (person : p < 64) where
  pub pinned_own : (x : ℕ) → may_in (pinned dom s p) s x ≡ eqb x p
  pinned_own x = ap (λ (m : ℕ). has_bit m x) (get_or-set_same dom s _ 0 (omega arith)) ∙ own_bit p person x

  pub pinned_other : (t : ℕ) → (t ≡ s → ⊥) → (x : ℕ) → may_in (pinned dom s p) t x ≡ may_in dom t x
  pinned_other t n x = ap (λ (m : ℕ). has_bit m x) (get_or-set_other dom s t _ 0 n)

  -- the step is one more with one person
  pub pinned_alone : (steps rest : ℕ) → Others steps rest s dom → (dom' : List ℕ) → Fewer (pinned dom s p) dom' → Alone steps rest dom'
  pinned_alone steps rest a dom' f =
      record {
        below = a.below;
        one = λ t x y l o h k.
            by_cases (eqb t s)
            (λ e. own x (subst (λ (u : ℕ). may_in dom' u x ≡ true) (eqb-true t s e) h)
            ∙ sym (own y (subst (λ (u : ℕ). may_in dom' u y ≡ true) (eqb-true t s e) k)))
            (λ e.
            let n = eqb-false t s e in
            a.one t x y l n o (sym (pinned_other t n x) ∙ f.part t x h) (sym (pinned_other t n y) ∙ f.part t y k));
      }
    where
      own : (x : ℕ) → may_in dom' s x ≡ true → x ≡ p
      own x h = eqb-true x p (sym (pinned_own x) ∙ f.part s x h)

  -- a plan of the whole that has p at s
  pub pinned-valid : (j : Job) (π : Plan) → Valid j (may_in dom) π → π s ≡ p → Valid j (may_in (pinned dom s p)) π
  pinned-valid j π v e =
      record {
        within = v.within;
        authorised = λ t l.
            by_cases (eqb t s)
            (λ x. subst (λ (u : ℕ). may_in (pinned dom s p) u (π u) ≡ true) (sym (eqb-true t s x)) (pinned_own (π s) ∙ eq-eqb (π s) p e))
            (λ x. pinned_other t (eqb-false t s x) (π t) ∙ v.authorised t l);
        eligible = v.eligible;
      }

-- each step before s has one person at most
abbrev pub Before : ℕ → List ℕ → Type 0
Before s dom = (t p p' : ℕ) → t < s → may_in dom t p ≡ true → may_in dom t p' ≡ true → p ≡ p'

-- the people of `left` are still to be tried at step s: every plan has one of them there
pub record Untried (j : Job) (s : ℕ) (dom : List ℕ) (left : ℕ) : Type 0 where
  pub part : (p : ℕ) → has_bit left p ≡ true → may_in dom s p ≡ true
  pub all : (π : Plan) → Valid j (may_in dom) π → has_bit left (π s) ≡ true

pub untried_start : {j : Job} {s : ℕ} {dom : List ℕ} → s < j.steps → Untried j s dom (get_or dom s 0)
untried_start {s = s} l = record { part = λ p h. h; all = λ π v. v.authorised s l }

pub untried_none : {j : Job} {s : ℕ} {dom : List ℕ} {left : ℕ} → Untried j s dom left → left ≡ 0 → (ordered : Bool) → Trial ordered j dom (Ok None)
unfolding Trial
untried_none {s = s} {left = left} u e ordered (π, v) = true-false (u.all π v) (zero_empty left e (π s))

-- p is tried next, of the people of `left`; in order, the steps before s have one person at most
pub record NextPerson (ordered : Bool) (j : Job) (s : ℕ) (dom : List ℕ) (left p left' : ℕ) : Type 0 where
  pub sized : length dom ≡ 12
  pub few : j.steps ≤ 12
  pub below : s < j.steps
  pub untried : Untried j s dom left
  pub person : p < 64
  pub taken : FirstAndRest left p left'
  pub alone : ordered ≡ true → Before s dom

module _ {ordered : Bool} {j : Job} {s : ℕ} {dom : List ℕ} {left p left' : ℕ} (c : NextPerson ordered j s dom left p left') where
  low : s < 12
  low = omega (arith, c.below, c.few)

  -- the plans with p at s have failed
  pub untried_next : {o : Option (List ℕ)} → o ≡ None → Trial ordered j (pinned dom s p) (Ok o) → Untried j s dom left'
  unfolding Trial
  untried_next is tried =
      let fails = subst (λ (x : Option (List ℕ)). Trial ordered j (pinned dom s p) (Ok x)) is tried in
      record {
        part = λ x h. c.untried.part x (taken_was c.taken x h);
        all = λ π v.
            by_cases (eqb (π s) p)
            (λ x. absurd (fails (π, pinned-valid dom c.sized s p low c.person j π v (eqb-true (π s) p x))))
            (λ x. removed_other c.taken.removed (π s) (eqb-false (π s) p x) ∙ c.untried.all π v);
      }

  -- a plan with p at s is a plan; in order the first of them is the first of all
  found_at : (plan' : List ℕ) → Trial ordered j (pinned dom s p) (Ok (Some plan')) → Trial ordered j dom (Ok (Some plan'))
  unfolding Trial
  found_at plan' (sized, w) = (
    sized,
    record {
      valid = record {
        within = w.valid.within;
        authorised = λ t l.
            by_cases (eqb t s)
            (λ x. rw (eqb-true t s x) (subst (λ (y : ℕ). may_in dom s y ≡ true) (sym at) (c.untried.part p c.taken.lowest.has)))
            (λ x. sym (pinned_other dom c.sized s p low c.person t (eqb-false t s x) (plan_in plan' t)) ∙ w.valid.authorised t l);
        eligible = w.valid.eligible;
      };
      first = none;
    },
  )
    where
      -- the plan has p at s
      at : plan_in plan' s ≡ p
      at = eqb-true (plan_in plan' s) p (sym (pinned_own dom c.sized s p low c.person (plan_in plan' s)) ∙ w.valid.authorised s c.below)

      same : (t : ℕ) → t < s → may_in dom t (plan_in plan' t) ≡ true
      same t l = sym (pinned_other dom c.sized s p low c.person t (omega arith) (plan_in plan' t)) ∙ w.valid.authorised t (omega (arith, c.below))

      none : ordered ≡ true → (σ : Plan) → Valid j (may_in dom) σ → Earlier j.steps σ (plan_in plan') → ⊥
      none wanted σ v e =
          by_cases (eqb (σ s) p)
          (λ x. w.first wanted σ (pinned-valid dom c.sized s p low c.person j σ v (eqb-true (σ s) p x)) e)
          (λ x.
          by_cases (eqb e.at s)
          (λ y.
          let z : σ s < p = subst (λ (k : ℕ). σ s < k) at (subst (λ (k : ℕ). σ k < plan_in plan' k) (eqb-true e.at s y) e.less) in
          true-false (c.untried.all σ v) (c.taken.lowest.before (σ s) z))
          (λ y.
          by_cases (ltb e.at s)
          (λ z.
          let l : e.at < s = ltb-true _ _ z in
          let q : σ e.at ≡ plan_in plan' e.at = c.alone wanted e.at _ _ l (v.authorised e.at e.below) (same e.at l) in
          let m : σ e.at < plan_in plan' e.at = e.less in
          omega arith)
          (λ z.
          let l : s ≤ e.at = ltb-false _ _ z in
          let d : e.at ≡ s → ⊥ = eqb-false e.at s y in
          eqb-false (σ s) p x (e.before s (omega arith) ∙ at))))

  pub untried_found : (plan' : List ℕ) {o : Option (List ℕ)} → o ≡ Some plan' → Trial ordered j (pinned dom s p) (Ok o) → Trial ordered j dom (Ok (Some plan'))
  untried_found plan' is tried = found_at plan' (subst (λ (x : Option (List ℕ)). Trial ordered j (pinned dom s p) (Ok x)) is tried)

pub pinned_sized : (dom : List ℕ) (s p : ℕ) → length dom ≡ 12 → length (pinned dom s p) ≡ 12
pinned_sized dom s p e = length-set dom s _ ∙ e
