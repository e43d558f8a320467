-- Groups as sets: the members of a list, how many they are, and the group of any set. Assumes nothing.
use mathlib.Core.Bool.{Bool, true, false, cond}
use mathlib.Core.List.{List, [], ◌∷◌, ◌++◌}
use mathlib.Core.Path.{◌≡◌, refl, sym, subst, ◌∙◌}
use Prim.Native.Nat.{ℕ, zero, suc, ◌<◌}
use native.Mathlib.Omega.{arith}
use native.Mathlib.Nat.{not-suc-le-zero}
use lib.ListN.{length, get_or}
use borrow.Author.Tests.{eq-eqb, ne_eqb}
use Rattle.bits.specs.Below.{count}
use Rattle.bits.proofs.Below.{by_cases, true-false, below_suc}
use Rattle.bits.proofs.Counting.{is_false, count_none, count_insert, count-true, count-false, count-zero}
use Rattle.workflow.proofs.Lists.{length-snoc, snoc_before, snoc_at}
use Rattle.bits.specs.Member.{member}
use Rattle.bits.proofs.Member.{member_place, member_has}
use Rattle.resiliency.specs.Away.{Group}

module _ (people k : ℕ) (xs : List ℕ) (g : Group people k xs) where
  -- a later place has a later person
  pub group_later : (i i' : ℕ) → i < i' → i' < k → get_or xs i 0 < get_or xs i' 0
  group_later i zero l b = absurd (not-suc-le-zero l)
  group_later i (suc i') l b =
      let o : get_or xs i' 0 < get_or xs (suc i') 0 = g.ordered i' b in
      below_suc i' i l
      (λ m. let r : get_or xs i 0 < get_or xs i' 0 = group_later i i' m (omega arith) in omega arith)
      (λ e. subst (λ (x : ℕ). get_or xs x 0 < get_or xs (suc i') 0) (sym e) o)

  -- the members are people of the job
  pub group_within : (p : ℕ) → member xs p ≡ true → p < people
  group_within p h = let w = member_place xs p h in subst (λ (x : ℕ). x < people) w.2 (g.within w.0 (omega (arith, w.1, g.size)))

-- the rest of a group
group_tail : (people k x : ℕ) (xs : List ℕ) → Group people (suc k) (x ∷ xs) → Group people k xs
group_tail people k x xs g =
    record {
      size = let e : suc (length xs) ≡ suc k = g.size in omega arith;
      within = λ i l. g.within (suc i) (omega arith);
      ordered = λ i l. g.ordered (suc i) (omega arith);
    }

-- a group of k has k members
pub group_count_lem : (people k : ℕ) (xs : List ℕ) → Group people k xs → count people (member xs) ≡ k
unfolding member
group_count_lem people k [] g = count_none people (member []) (λ p l. refl) ∙ g.size
group_count_lem people zero (x ∷ xs) g = let e : suc (length xs) ≡ 0 = g.size in absurd (omega arith)
group_count_lem people (suc k) (x ∷ xs) g =
    let t : Group people k xs = group_tail people k x xs g in
    let r : count people (member xs) ≡ k = group_count_lem people k xs t in
    let z : count people (member (x ∷ xs)) ≡ suc (count people (member xs))
    = count_insert people (member xs) (member (x ∷ xs)) x (g.within 0 (omega arith)) (fresh t)
    (rw (eq-eqb x x refl) refl)
    (λ p l d. rw (ne_eqb p x d) refl)
    in
    omega arith
  where
    fresh : Group people k xs → member xs x ≡ false
    fresh t =
        is_false (member xs x)
        (λ h. let w = member_place xs x h in
        let b : w.0 < length xs = w.1 in
        let e : length xs ≡ k = t.size in
        let o : x < get_or xs w.0 0 = group_later people (suc k) (x ∷ xs) g 0 (suc w.0) (omega arith) (omega arith) in
        omega (arith, w.2))

-- the people below n that are away, in crew order
unfoldable pub members_of : ℕ → (ℕ → Bool) → List ℕ
members_of zero away = []
members_of (suc n) away = cond (away n) (members_of n away ++ (n ∷ [])) (members_of n away)

-- they are a group that has everyone away
record Members (n : ℕ) (away : ℕ → Bool) (xs : List ℕ) : Type 0 where
  group : Group n (count n away) xs
  has : (p : ℕ) → p < n → away p ≡ true → member xs p ≡ true

members_skip : (n : ℕ) (away : ℕ → Bool) (xs : List ℕ) → Members n away xs → away n ≡ false → Members (suc n) away xs
members_skip n away xs m t =
    let e : count (suc n) away ≡ count n away = count-false n away t in
    record {
      group = rw e
          (record { size = m.group.size; within = λ i l. omega (arith, m.group.within i l); ordered = m.group.ordered });
      has = λ p l h. below_suc n p l (λ b. m.has p b h) (λ d. true-false h (subst (λ (x : ℕ). away x ≡ false) (sym d) t));
    }

members_more : (n : ℕ) (away : ℕ → Bool) (xs : List ℕ) → Members n away xs → away n ≡ true → Members (suc n) away (xs ++ (n ∷ []))
members_more n away xs m t =
    let e : count (suc n) away ≡ suc (length xs) = count-true n away t ∙ rw m.group.size refl in
    let s : length (xs ++ (n ∷ [])) ≡ suc (length xs) = length-snoc xs n in
    let c : length xs ≡ count n away = m.group.size in
    record {
      group = rw e
          (record {
            size = s;
            within = λ i l. below_suc (length xs) i l
                (λ b. rw (snoc_before xs n i b) (omega (arith, m.group.within i (omega arith))))
                (λ d. rw (d, snoc_at xs n) (omega arith));
            ordered = λ i l. below_suc (length xs) (suc i) l
                (λ b. rw (snoc_before xs n i (omega arith), snoc_before xs n (suc i) b) (m.group.ordered i (omega arith)))
                (λ d. rw (d, snoc_at xs n, snoc_before xs n i (omega arith)) (m.group.within i (omega arith)));
          });
      has = λ p l h. below_suc n p l
          (λ b. let w = member_place xs p (m.has p b h) in
          member_has (xs ++ (n ∷ [])) w.0 p (omega (arith, w.1)) (snoc_before xs n w.0 w.1 ∙ w.2))
          (λ d. member_has (xs ++ (n ∷ [])) (length xs) p (omega arith) (snoc_at xs n ∙ sym d));
    }

members : (n : ℕ) (away : ℕ → Bool) → Members n away (members_of n away)
unfolding members_of
members zero away =
    record {
      group = rw (count-zero away)
          (record { size = refl; within = λ i l. absurd (not-suc-le-zero l); ordered = λ i l. absurd (not-suc-le-zero l) });
      has = λ p l h. absurd (not-suc-le-zero l);
    }
members (suc n) away =
    let m : Members n away (members_of n away) = members n away in
    by_cases (away n) (λ t. rw t (members_more n away (members_of n away) m t)) (λ t. rw t (members_skip n away (members_of n away) m t))

-- any set of people is a group of as many as it has
pub members_group : (n : ℕ) (away : ℕ → Bool) → Group n (count n away) (members_of n away)
members_group n away = (members n away).group

-- that holds all of them
pub members_has : (n : ℕ) (away : ℕ → Bool) (p : ℕ) → p < n → away p ≡ true → member (members_of n away) p ≡ true
members_has n away = (members n away).has
