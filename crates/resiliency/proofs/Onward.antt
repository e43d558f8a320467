-- Going through groups person by person: what a last member settles, and what one more person before the last does. Assumes nothing.
use mathlib.Core.List.{List, [], ◌∷◌, ◌++◌, append_assoc}
use mathlib.Core.Path.{◌≡◌, refl, sym, subst, ◌∙◌}
use Prim.Native.Nat.{ℕ, zero, suc, ◌+◌, ◌-◌, ◌≤◌, ◌<◌}
use native.Mathlib.Omega.{arith}
use lib.Bits.{bit_and}
use lib.ListN.{length, get_or}
use Rattle.std.specs.Prelude.{None, Some}
use Rattle.bits.proofs.Below.{below_suc}
use Rattle.workflow.specs.Problem.{Job, May}
use Rattle.workflow.specs.First.{plan_of, Earlier}
use Rattle.workflow.proofs.Lists.{length-snoc}
use Rattle.resiliency.specs.Away.{Breaks}
use Rattle.resiliency.specs.Group.{members_in, Sized, Suiting}
use Rattle.resiliency.specs.Known.{Known, EachSpared, Last}
use Rattle.resiliency.specs.Onward.{Onward, Stands, FirstFrom, Passed}
use Rattle.resiliency.specs.declared.group.Group as code
use Rattle.resiliency.proofs.Groups.{group_later}
use Rattle.resiliency.proofs.Lasts.{Masks, last_stands, last_breaks, each_stands}
use Rattle.resiliency.proofs.Members.{suiting_snoc, few_snoc}

module _ {people from k p : ℕ} {zs : List ℕ} where
  -- a person and some after
  pub onward_more : p < people → from ≤ p → Onward people (p + 1) k zs → Onward people from (suc k) (p ∷ zs)
  onward_more l m o =
      record {
        group = record { size = let s = o.group.size in omega arith; within = within; ordered = ordered };
        above = above;
      }
    where
      within : (i : ℕ) → i < suc k → get_or (p ∷ zs) i 0 < people
      within zero b = l
      within (suc i) b = o.group.within i (omega arith)

      ordered : (i : ℕ) → suc i < suc k → get_or (p ∷ zs) i 0 < get_or (p ∷ zs) (suc i) 0
      ordered zero b = let a = o.above 0 (omega arith) in omega arith
      ordered (suc i) b = o.group.ordered i (omega arith)

      above : (i : ℕ) → i < suc k → from ≤ get_or (p ∷ zs) i 0
      above zero b = m
      above (suc i) b = let a = o.above i (omega arith) in omega arith

  -- and back
  pub onward_tail : Onward people from (suc k) (p ∷ zs) → Onward people (p + 1) k zs
  onward_tail o =
      record {
        group = record {
          size = let s : suc (length zs) ≡ suc k = o.group.size in omega arith;
          within = λ i b. o.group.within (suc i) (omega arith);
          ordered = λ i b. o.group.ordered (suc i) (omega arith);
        };
        above = λ i b. let a : p < get_or zs i 0 = group_later people (suc k) (p ∷ zs) o.group 0 (suc i) (omega arith) (omega arith) in omega arith;
      }

-- each last member is spared by one of the kept plans
pub last_spared : (j : Job) (may : May) (xs : List ℕ) (from : ℕ) {words plans : List ℕ} {word : ℕ} → Known j may words plans
    → ((k : ℕ) → k < length xs → get_or xs k 0 < 64) → Suiting words xs word → EachSpared j.people from word plans → FirstFrom j may xs from 1 None
last_spared j may xs from k few s e [] o = absurd (let z : 0 ≡ 1 = o.group.size in omega arith)
last_spared j may xs from k few s e (p ∷ []) o = each_stands xs k few s e p (o.above 0 (omega arith)) (o.group.within 0 (omega arith))
last_spared j may xs from k few s e (p ∷ q ∷ zs) o = absurd (let z : suc (suc (length zs)) ≡ 1 = o.group.size in omega arith)

module _ (j : Job) (may : May) (xs : List ℕ) (from : ℕ) where
  -- ---- the last member

  pub last_all : {away : ℕ} {words plans weight : List ℕ} → Masks away xs → Last j may away from words plans weight j.people
      → FirstFrom j may xs from 1 None
  last_all m l [] o = absurd (let s : 0 ≡ 1 = o.group.size in omega arith)
  last_all m l (p ∷ []) o = last_stands xs m l p (o.above 0 (omega arith)) (o.group.within 0 (omega arith))
  last_all m l (p ∷ q ∷ zs) o = absurd (let s : suc (suc (length zs)) ≡ 1 = o.group.size in omega arith)

  pub last_first : {away c : ℕ} {words plans weight : List ℕ} (g : code.Group) → Masks away xs → Last j may away from words plans weight c → c < j.people
      → Sized g → g.size ≡ length xs + 1 → members_in g ≡ xs ++ c ∷ [] → FirstFrom j may xs from 1 (Some g)
  last_first {c = c} g m l b s n e = (
    s,
    n,
    c ∷ [],
    e,
    record {
      onward = record {
        group = record { size = refl; within = λ i h. first i h; ordered = λ i h. absurd (omega arith) };
        above = λ i h. from_first i h;
      };
      breaks = last_breaks xs m l b;
      before = before;
    },
  )
    where
      first : (i : ℕ) → i < 1 → get_or (c ∷ []) i 0 < j.people
      first zero h = b
      first (suc i) h = absurd (omega arith)

      from_first : (i : ℕ) → i < 1 → from ≤ get_or (c ∷ []) i 0
      from_first zero h = l.after
      from_first (suc i) h = absurd (omega arith)

      earlier : (p i : ℕ) → i < 1 → plan_of (p ∷ []) i < plan_of (c ∷ []) i → p < c
      earlier p zero h d = d
      earlier p (suc i) h d = absurd (omega arith)

      before : (ys : List ℕ) → Onward j.people from 1 ys → Earlier 1 (plan_of ys) (plan_of (c ∷ [])) → Stands j may (xs ++ ys)
      before [] o d = absurd (let s : 0 ≡ 1 = o.group.size in omega arith)
      before (p ∷ []) o d = last_stands xs m l p (o.above 0 (omega arith)) (earlier p d.at d.below d.less)
      before (p ∷ q ∷ zs) o d = absurd (let s : suc (suc (length zs)) ≡ 1 = o.group.size in omega arith)

  -- ---- one person more before the last

  module _ (k : ℕ) where
    pub passed_none : Passed j may xs from k from
    passed_none q a b zs o = absurd (omega arith)

    pub passed_more : (p : ℕ) → Passed j may xs from k p → FirstFrom j may (xs ++ p ∷ []) (p + 1) k None → Passed j may xs from k (p + 1)
    passed_more p h n q a b zs o =
        let z : q < suc p = omega arith in
        below_suc p q z (λ c. h q a c zs o)
        (λ e. subst (λ (x : ℕ). Stands j may ((xs ++ x ∷ []) ++ zs)) (sym e) (n zs (subst (λ (x : ℕ). Onward j.people (x + 1) k zs) e o)))

    pub passed_all : (p : ℕ) → j.people ≤ p → Passed j may xs from k p → FirstFrom j may xs from (suc k) None
    passed_all p l h [] o = absurd (let s : 0 ≡ suc k = o.group.size in omega arith)
    passed_all p l h (q ∷ zs) o =
        let b = o.group.within 0 (omega arith) in
        subst (Stands j may) (append_assoc xs (q ∷ []) zs) (h q (o.above 0 (omega arith)) (omega arith) zs (onward_tail o))

    pub passed_first : (p : ℕ) (g : code.Group) → from ≤ p → p < j.people → Passed j may xs from k p
        → FirstFrom j may (xs ++ p ∷ []) (p + 1) k (Some g) → FirstFrom j may xs from (suc k) (Some g)
    passed_first p g a b h f = (
      f.0,
      (let n = f.1 in let s = length-snoc xs p in omega arith),
      p ∷ f.2,
      f.3 ∙ append_assoc xs (p ∷ []) f.2,
      record {
        onward = onward_more b a f.4.onward;
        breaks = subst (Breaks j may) (append_assoc xs (p ∷ []) f.2) f.4.breaks;
        before = before;
      },
    )
      where
        later : (q : ℕ) (ys : List ℕ) → Onward j.people from (suc k) (q ∷ ys) → (i : ℕ) → i < suc k
            → plan_of (q ∷ ys) i < plan_of (p ∷ f.2) i → ((t : ℕ) → t < i → plan_of (q ∷ ys) t ≡ plan_of (p ∷ f.2) t) → Stands j may ((xs ++ q ∷ []) ++ ys)
        later q ys o zero c l e = h q (o.above 0 (omega arith)) l ys (onward_tail o)
        later q ys o (suc i) c l e =
            let z : q ≡ p = e 0 (omega arith) in
            subst (λ (x : ℕ). Stands j may ((xs ++ x ∷ []) ++ ys)) (sym z)
            (f.4.before ys (subst (λ (x : ℕ). Onward j.people (x + 1) k ys) z (onward_tail o))
            (record { at = i; below = omega arith; less = l; before = λ t m. e (suc t) (omega arith) }))

        before : (ys : List ℕ) → Onward j.people from (suc k) ys → Earlier (suc k) (plan_of ys) (plan_of (p ∷ f.2)) → Stands j may (xs ++ ys)
        before [] o d = absurd (let s : 0 ≡ suc k = o.group.size in omega arith)
        before (q ∷ ys) o d = subst (Stands j may) (append_assoc xs (q ∷ []) ys) (later q ys o d.at d.below d.less d.before)

  -- ---- as a turn has them: the group with person p, and one person fewer to come

  module _ (more : ℕ) where
    pub turn_none : (p : ℕ) {next : List ℕ} → next ≡ xs ++ p ∷ [] → Passed j may xs from (more - 1) p
        → FirstFrom j may next (p + 1) (more - 1) None → Passed j may xs from (more - 1) (p + 1)
    turn_none p e h n =
        passed_more (more - 1) p h (subst (λ (ys : List ℕ). FirstFrom j may ys (p + 1) (more - 1) None) e n)

    -- and where the next is the last member
    pub turn_spared : (p : ℕ) {words plans : List ℕ} {word : ℕ} → more ≡ 2 → p < 64 → Known j may words plans
        → ((k : ℕ) → k < length xs → get_or xs k 0 < 64) → Suiting words xs word → EachSpared j.people (p + 1) (bit_and word (get_or words p 0)) plans
        → Passed j may xs from (more - 1) p → Passed j may xs from (more - 1) (p + 1)
    turn_spared p e l k few s n h =
        let one : 1 ≡ more - 1 = omega arith in
        turn_none p refl h
        (subst (λ (m : ℕ). FirstFrom j may (xs ++ p ∷ []) (p + 1) m None) one
        (last_spared j may (xs ++ p ∷ []) (p + 1) k (few_snoc xs p few l) (suiting_snoc _ xs p _ s) n))

    pub turn_found : (p : ℕ) {next : List ℕ} (g : code.Group) → next ≡ xs ++ p ∷ [] → from ≤ p → p < j.people → 1 ≤ more
        → Passed j may xs from (more - 1) p → FirstFrom j may next (p + 1) (more - 1) (Some g) → FirstFrom j may xs from more (Some g)
    turn_found p g e a b m h f =
        let k : suc (more - 1) ≡ more = omega arith in
        subst (λ (n : ℕ). FirstFrom j may xs from n (Some g)) k
        (passed_first (more - 1) p g a b h (subst (λ (ys : List ℕ). FirstFrom j may ys (p + 1) (more - 1) (Some g)) e f))

    pub turns_end : (p : ℕ) → j.people ≤ p → 1 ≤ more → Passed j may xs from (more - 1) p → FirstFrom j may xs from more None
    turns_end p l m h =
        let k : suc (more - 1) ≡ more = omega arith in
        subst (λ (n : ℕ). FirstFrom j may xs from n None) k (passed_all (more - 1) p l h)
