-- A valid plan gives an assignment for each lower limit: the steps that open a class have their class, the others the extra classes.
-- Assumes nothing.
use mathlib.Core.Bool.{Bool, true, false, not, cond, ◌&&◌, ◌||◌}
use mathlib.Core.List.{List}
use mathlib.Core.Path.{◌≡◌, refl, sym, subst, ap, ◌∙◌}
use Prim.Native.Nat.{ℕ, zero, suc, ◌+◌, ◌*◌, ◌-◌, ◌^◌, ◌≤◌, ◌<◌}
use native.Mathlib.Omega.{arith}
use native.Mathlib.Nat.{not-suc-le-zero}
use lib.Bits.{bit_or, bit_xor}
use lib.Count.{ones}
use lib.Dec.{eqb, ltb}
use lib.ListN.{get_or, set, replicate, length-set, length-replicate}
use lib.Seq.{get_or-set_same, get_or-set_other}
use borrow.Author.Tests.{eqb-true, eqb-false, eq-eqb, ne_eqb, lt-ltb, not-true}
use Rattle.bits.specs.Below.{count}
use Rattle.bits.specs.Word.{has_bit, bits_set}
use Rattle.bits.specs.Set.{unlike, Added, Removed, Lowest}
use Rattle.bits.proofs.Below.{by_cases, true-false, and_left, and_right}
use Rattle.bits.proofs.Counting.{and_of, is_false, count-true, count-false, count-zero}
use Rattle.bits.proofs.Masks.{or_left, or_right}
use Rattle.bits.proofs.Ones.{ones_bits}
use Rattle.bits.proofs.SetLaws.{empty_lacks, or-bit, xor_bit, added_has, added_keeps, added_other, removed_was, removed_differs}
use Rattle.workflow.specs.Problem.{opens, distinct}
use Rattle.workflow.proofs.Counts.{opens_scope, opens_new}
use Rattle.matching.specs.Assignment.{Assignment, Covers, in_mask, suits}
use Rattle.pattern.specs.Rule.{level_in, least_in, scope_in}
use Rattle.relax.proofs.Bounding.{count_before}
use Rattle.search.specs.Limits.{Gathering, Extra, Edges, Manned, ReachesLeast, Limits}
use Rattle.search.proofs.Unmet.{assignment_of, Unmet}

-- ---- the classes of a scope

pub or_has_left : (a b v : ℕ) → has_bit a v ≡ true → has_bit (bit_or a b) v ≡ true
or_has_left a b v h = or-bit a b v ∙ or_left (has_bit a v) (has_bit b v) h

pub or_has_right : (a b v : ℕ) → has_bit b v ≡ true → has_bit (bit_or a b) v ≡ true
or_has_right a b v h = or-bit a b v ∙ or_right (has_bit a v) (has_bit b v) h

module _ (reach : List ℕ) (q scope : ℕ) where
  pub gathering_none : Gathering 0 reach q scope 0
  gathering_none = record { has = λ s v l. absurd (not-suc-le-zero l) }

  -- a step outside the scope
  pub gathering_past : (n all : ℕ) → has_bit scope n ≡ false → Gathering n reach q scope all → Gathering (n + 1) reach q scope all
  gathering_past n all f w =
      record {
        has = λ s v l i h.
            by_cases (eqb s n)
            (λ e. true-false (subst (λ (x : ℕ). has_bit scope x ≡ true) (eqb-true s n e) i) f)
            (λ e. let d : s ≡ n → ⊥ = eqb-false s n e in w.has s v (omega arith) i h);
      }

  pub gathering_more : (n all : ℕ) → Gathering n reach q scope all → Gathering (n + 1) reach q scope (bit_or all (get_or reach (q * 12 + n) 0))
  gathering_more n all w =
      record {
        has = λ s v l i h.
            by_cases (eqb s n)
            (λ e. or_has_right all (get_or reach (q * 12 + n) 0) v (subst (λ (x : ℕ). has_bit (get_or reach (q * 12 + x) 0) v ≡ true) (eqb-true s n e) h))
            (λ e. let d : s ≡ n → ⊥ = eqb-false s n e in or_has_left all (get_or reach (q * 12 + n) 0) v (w.has s v (omega arith) i h));
      }

  pub gathering_all : (steps n all : ℕ) → steps ≤ n → Gathering n reach q scope all → Gathering steps reach q scope all
  gathering_all steps n all l w = record { has = λ s v m. w.has s v (omega arith) }

-- ---- classes to spare

-- the classes taken, and those that are free
pub record Taking (all n free mask : ℕ) : Type 0 where
  pub extra : Extra all n mask
  pub outside : (v : ℕ) → has_bit free v ≡ true → has_bit all v ≡ false
  pub untaken : (v : ℕ) → has_bit free v ≡ true → has_bit mask v ≡ false

pub taking_none : (all full : ℕ) → Taking all 0 (bit_xor (bit_or all full) all) 0
taking_none all full =
    record {
      extra = record {
        member = λ k. 0;
        below = λ k l. absurd (not-suc-le-zero l);
        has = λ k l. absurd (not-suc-le-zero l);
        fresh = λ k l. absurd (not-suc-le-zero l);
        apart = λ k m l. absurd (not-suc-le-zero l);
      };
      outside = λ v h. lacks (has_bit all v) (has_bit full v) (sym (xor_bit (bit_or all full) all v ∙ ap (λ (b : Bool). unlike b (has_bit all v)) (or-bit all full v)) ∙ h);
      untaken = λ v h. empty_lacks v;
    }
  where
    lacks : (a b : Bool) → unlike (a || b) a ≡ true → a ≡ false
    lacks true b h = sym h
    lacks false b h = refl

-- the members so far, and c after them
append : (ℕ → ℕ) → ℕ → ℕ → ℕ → ℕ
append m n c k = cond (eqb k n) c (m k)

append_last : (m : ℕ → ℕ) (n c k : ℕ) → k ≡ n → append m n c k ≡ c
unfolding append
append_last m n c k e = rw (eq-eqb k n e) refl

append_other : (m : ℕ → ℕ) (n c k : ℕ) → (k ≡ n → ⊥) → append m n c k ≡ m k
unfolding append
append_other m n c k d = rw (ne_eqb k n d) refl

module _ {all n free mask c free' mask' : ℕ} (w : Taking all n free mask) (c-below : c < 64) (low : Lowest free c) (gone : Removed free c free')
    (more : Added mask c mask') where
  abbrev so_far : ℕ → ℕ
  so_far = w.extra.member

  each : (P : ℕ → Type 0) → P c → ((k : ℕ) → k < n → P (so_far k)) → (k : ℕ) → k < n + 1 → P (append so_far n c k)
  each P last before k l =
      by_cases (eqb k n)
      (λ e. subst P (sym (append_last so_far n c k (eqb-true k n e))) last)
      (λ e. let d : k ≡ n → ⊥ = eqb-false k n e in subst P (sym (append_other so_far n c k d)) (before k (omega arith)))

  new : (k : ℕ) → k < n → so_far k ≡ c → ⊥
  new k l e = true-false (subst (λ (x : ℕ). has_bit mask x ≡ true) e (w.extra.has k l)) (w.untaken c low.has)

  apart : (k l : ℕ) → k < n + 1 → l < n + 1 → append so_far n c k ≡ append so_far n c l → k ≡ l
  apart k l a b e =
      by_cases (eqb k n)
      (λ x. by_cases (eqb l n)
      (λ y. eqb-true k n x ∙ sym (eqb-true l n y))
      (λ y. let d : l ≡ n → ⊥ = eqb-false l n y in
      absurd (new l (omega arith) (sym (append_other so_far n c l d) ∙ sym e ∙ append_last so_far n c k (eqb-true k n x)))))
      (λ x. let d : k ≡ n → ⊥ = eqb-false k n x in by_cases (eqb l n)
      (λ y. absurd (new k (omega arith) (sym (append_other so_far n c k d) ∙ e ∙ append_last so_far n c l (eqb-true l n y))))
      (λ y. let f : l ≡ n → ⊥ = eqb-false l n y in
      w.extra.apart k l (omega arith) (omega arith) (sym (append_other so_far n c k d) ∙ e ∙ append_other so_far n c l f)))

  pub taking_more : Taking all (n + 1) free' mask'
  taking_more =
      record {
        extra = record {
          member = append so_far n c;
          below = each (λ (x : ℕ). x < 64) c-below w.extra.below;
          has = each (λ (x : ℕ). has_bit mask' x ≡ true) (added_has more) (λ k l. added_keeps more (so_far k) (w.extra.has k l));
          fresh = each (λ (x : ℕ). has_bit all x ≡ false) (w.outside c low.has) w.extra.fresh;
          apart = apart;
        };
        outside = λ v h. w.outside v (removed_was gone v h);
        untaken = λ v h. added_other more v (removed_differs gone v h) ∙ w.untaken v (removed_was gone v h);
      }

pub taken : {all n free mask : ℕ} (spare : ℕ) → n ≤ spare → spare ≤ n → Taking all n free mask → Extra all spare mask
taken {all} {n} {free} {mask} spare l h w = let e : n ≡ spare = omega arith in subst (λ (x : ℕ). Extra all x mask) e w.extra

-- ---- the edges

module _ (reach : List ℕ) (q extra : ℕ) where
  pub edges_more : (n : ℕ) (edges : List ℕ) → n < 12 → Edges n reach q extra edges
      → Edges (n + 1) reach q extra (set edges n (bit_or (get_or reach (q * 12 + n) 0) extra))
  edges_more n edges l w =
      record {
        sized = length-set edges n row ∙ w.sized;
        own = λ s v m h.
            by_cases (eqb s n)
            (λ e. last s v (eqb-true s n e)
            (or_has_left (get_or reach (q * 12 + n) 0) extra v (subst (λ (x : ℕ). has_bit (get_or reach (q * 12 + x) 0) v ≡ true) (eqb-true s n e) h)))
            (λ e. let d : s ≡ n → ⊥ = eqb-false s n e in other s v d (w.own s v (omega arith) h));
        shared = λ s v m h.
            by_cases (eqb s n)
            (λ e. last s v (eqb-true s n e) (or_has_right (get_or reach (q * 12 + n) 0) extra v h))
            (λ e. let d : s ≡ n → ⊥ = eqb-false s n e in other s v d (w.shared s v (omega arith) h));
      }
    where
      row : ℕ
      row = bit_or (get_or reach (q * 12 + n) 0) extra

      last : (s v : ℕ) → s ≡ n → has_bit row v ≡ true → has_bit (get_or (set edges n row) s 0) v ≡ true
      last s v e h =
          subst (λ (x : ℕ). has_bit (get_or (set edges n row) x 0) v ≡ true) (sym e)
          (ap (λ (x : ℕ). has_bit x v) (get_or-set_same edges n row 0 (omega (arith, w.sized))) ∙ h)

      other : (s v : ℕ) → (s ≡ n → ⊥) → has_bit (get_or edges s 0) v ≡ true → has_bit (get_or (set edges n row) s 0) v ≡ true
      other s v d h = ap (λ (x : ℕ). has_bit x v) (get_or-set_other edges n s row 0 d) ∙ h

  pub edges_all : (steps n : ℕ) (edges : List ℕ) → steps ≤ n → Edges n reach q extra edges → Edges steps reach q extra edges
  edges_all steps n edges l w =
      record { sized = w.sized; own = λ s v m. w.own s v (omega arith); shared = λ s v m. w.shared s v (omega arith) }

-- ---- counts

-- what h has without f
less : (ℕ → Bool) → (ℕ → Bool) → ℕ → Bool
less h f k = h k && not (f k)

less_not : (h f : ℕ → Bool) (k : ℕ) → f k ≡ true → less h f k ≡ false
unfolding less
less_not h f k t = is_false _ (λ u. true-false t (not-true (f k) (and_right (h k) _ u)))

less_out : (h f : ℕ → Bool) (k : ℕ) → h k ≡ false → less h f k ≡ false
unfolding less
less_out h f k t = is_false _ (λ u. true-false (and_left (h k) _ u) t)

less_of : (h f : ℕ → Bool) (k : ℕ) → h k ≡ true → f k ≡ false → less h f k ≡ true
unfolding less
less_of h f k t u = and_of (h k) (not (f k)) t (rw u refl)

count_less : (n : ℕ) (h f : ℕ → Bool) → ((k : ℕ) → f k ≡ true → h k ≡ true) → count n h ≡ count n f + count n (less h f)
count_less zero h f part = let a = count-zero h in let b = count-zero f in let d = count-zero (less h f) in omega arith
count_less (suc n) h f part =
    let r : count n h ≡ count n f + count n (less h f) = count_less n h f part in
    by_cases (f n)
    (λ t. omega (arith, count-true n h (part n t), count-true n f t, count-false n (less h f) (less_not h f n t)))
    (λ t. by_cases (h n)
    (λ u. omega (arith, count-true n h u, count-false n f t, count-true n (less h f) (less_of h f n u t)))
    (λ u. omega (arith, count-false n h u, count-false n f t, count-false n (less h f) (less_out h f n u))))

-- ---- the assignment

-- steps that open a class have it, and the others the extra ones in turn
spreading : (ℕ → Bool) → (ℕ → ℕ) → (ℕ → ℕ) → ℕ → ℕ
spreading scope c member s = cond (opens scope c s) (c s) (member (count s (less scope (opens scope c))))

module _ (scope : ℕ → Bool) (c member : ℕ → ℕ) (s : ℕ) where
  spreading_own : opens scope c s ≡ true → spreading scope c member s ≡ c s
  unfolding spreading
  spreading_own h = rw h refl

  spreading_extra : opens scope c s ≡ false → spreading scope c member s ≡ member (count s (less scope (opens scope c)))
  unfolding spreading
  spreading_extra h = rw h refl

module _ {steps : ℕ} {reach : List ℕ} {q limit scope all mask : ℕ} {edges : List ℕ} (gathered : Gathering steps reach q scope all)
    (extra : Extra all (bits_set steps scope - limit) mask) (w : Edges steps reach q mask edges) (c : ℕ → ℕ) (manned : Manned steps reach q scope c)
    (enough : limit ≤ distinct steps (has_bit scope) c) where
  abbrev idle : ℕ → Bool
  idle = less (has_bit scope) (opens (has_bit scope) c)

  rank : (s : ℕ) → s < steps → idle s ≡ true → count s idle < bits_set steps scope - limit
  unfolding distinct
  rank s l h =
      let a : count s idle < count steps idle = count_before s steps idle h l in
      let b : bits_set steps scope ≡ count steps (opens (has_bit scope) c) + count steps idle
      = count_less steps (has_bit scope) (opens (has_bit scope) c) (opens_scope (has_bit scope) c)
      in
      let d : limit ≤ count steps (opens (has_bit scope) c) = enough in
      omega arith

  idle_of : (s : ℕ) → has_bit scope s ≡ true → opens (has_bit scope) c s ≡ false → idle s ≡ true
  idle_of s i h = less_of (has_bit scope) (opens (has_bit scope) c) s i h

  abbrev f : ℕ → ℕ
  f = spreading (has_bit scope) c extra.member

  suited : (s : ℕ) → s < steps → has_bit scope s ≡ true → suits edges s (f s) ≡ true
  suited s l i =
      by_cases (opens (has_bit scope) c s)
      (λ t. subst (λ (x : ℕ). suits edges s x ≡ true) (sym (spreading_own (has_bit scope) c extra.member s t))
      (and_of (ltb (c s) 64) _ (lt-ltb (c s) 64 (manned s l i).0) (w.own s (c s) l (manned s l i).1)))
      (λ t. let r : count s idle < bits_set steps scope - limit = rank s l (idle_of s i t) in
      subst (λ (x : ℕ). suits edges s x ≡ true) (sym (spreading_extra (has_bit scope) c extra.member s t))
      (and_of (ltb (extra.member (count s idle)) 64) _ (lt-ltb (extra.member (count s idle)) 64 (extra.below (count s idle) r))
      (w.shared s (extra.member (count s idle)) l (extra.has (count s idle) r))))

  -- a class opened is no extra one
  own_extra : (s t : ℕ) → s < steps → t < steps → has_bit scope s ≡ true → has_bit scope t ≡ true → opens (has_bit scope) c s ≡ true
      → opens (has_bit scope) c t ≡ false → f s ≡ f t → ⊥
  own_extra s t l m i k a b e =
      let d : c s ≡ extra.member (count t idle) = sym (spreading_own (has_bit scope) c extra.member s a) ∙ e ∙ spreading_extra (has_bit scope) c extra.member t b in
      true-false (gathered.has s (c s) l i (manned s l i).1)
      (ap (has_bit all) d ∙ extra.fresh (count t idle) (rank t m (idle_of t k b)))

  -- two steps, the first before the second
  ordered : (s t : ℕ) → s < t → t < steps → has_bit scope s ≡ true → has_bit scope t ≡ true → f s ≡ f t → ⊥
  ordered s t o m i k e =
      by_cases (opens (has_bit scope) c s)
      (λ a. by_cases (opens (has_bit scope) c t)
      (λ b. opens_new (has_bit scope) c t b s o i
      (sym (spreading_own (has_bit scope) c extra.member s a) ∙ e ∙ spreading_own (has_bit scope) c extra.member t b))
      (λ b. own_extra s t (omega arith) m i k a b e))
      (λ a. by_cases (opens (has_bit scope) c t)
      (λ b. own_extra t s m (omega arith) k i b a (sym e))
      (λ b.
      let x : count s idle < count t idle = count_before s t idle (idle_of s i a) o in
      let y : count t idle < bits_set steps scope - limit = rank t m (idle_of t k b) in
      let z : count s idle ≡ count t idle
      = extra.apart (count s idle) (count t idle) (omega arith) y
      (sym (spreading_extra (has_bit scope) c extra.member s a) ∙ e ∙ spreading_extra (has_bit scope) c extra.member t b)
      in
      omega arith))

  assignment : scope < 2 ^ steps → Assignment (in_mask scope) (suits edges) f
  assignment small = assignment_of steps scope edges f small suited ordered

module _ (steps : ℕ) (few : steps ≤ 12) (reach : List ℕ) (r : ℕ) (small : scope_in r < 2 ^ steps) where
  pub reaching : {all : ℕ} (mask : ℕ) {edges : List ℕ} {found : Bool} {at : ℕ → ℕ} → Gathering steps reach (level_in r - 1) (scope_in r) all
      → Extra all (ones (scope_in r) - least_in r) mask → Edges steps reach (level_in r - 1) mask edges
      → Covers (in_mask (scope_in r)) (suits edges) found at → ReachesLeast steps reach r found
  reaching {all} mask {edges} {found} {at} g x w o =
      record {
        short = λ e c manned l.
            let ex : Extra all (bits_set steps (scope_in r) - least_in r) mask
            = subst (λ (n : ℕ). Extra all (n - least_in r) mask) (ones_bits steps (scope_in r) small) x
            in
            o.complete e (spreading (has_bit (scope_in r)) c ex.member) (assignment g ex w c manned l small);
      }

  pub reaching_unknown : ReachesLeast steps reach r true
  reaching_unknown = record { short = λ e. true-false refl e }

-- ---- the rules

module _ {steps rules : ℕ} {rule reach : List ℕ} where
  pub limits_unmet : (r : Bool) → Limits steps rules rule reach r → not r ≡ true → Unmet steps rules rule reach
  limits_unmet r w f =
      let u = w.unreached (not-true r f) in
      record { which = u.which; below = u.below; none = λ c manned met. u.short.short refl c manned met.least }
