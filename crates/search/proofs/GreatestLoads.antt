-- A valid plan gives an assignment for each limit on the load: a step has the place of its class whose number is how many steps of the class
-- come before it. Assumes nothing.
use mathlib.Core.Bool.{Bool, true, not, ◌&&◌}
use mathlib.Core.List.{List}
use mathlib.Core.Path.{◌≡◌, refl, sym, subst, ap, ◌∙◌}
use Prim.Native.Nat.{ℕ, zero, suc, ◌+◌, ◌*◌, ◌/◌, ◌%◌, ◌^◌, ◌≤◌, ◌<◌}
use native.Mathlib.Omega.{arith}
use native.Mathlib.Nat.{not-suc-le-zero, suc-mul, mul-one, mul-le-mul_right, mul-div-le, le-div_iff_mul-le}
use lib.Bits.{bit_or, shifted_half}
use lib.Dec.{eqb, ltb}
use lib.ListN.{get_or, set, replicate, length-set, length-replicate}
use lib.Seq.{get_or-set_same, get_or-set_other}
use borrow.Author.Tests.{eqb-true, eqb-false, eq-eqb, ltb-true, ltb-false, lt-ltb, not-true}
use Rattle.bits.specs.Below.{count}
use Rattle.bits.specs.Word.{has_bit}
use Rattle.bits.specs.Set.{Mask}
use Rattle.bits.proofs.Below.{by_cases, true-false}
use Rattle.bits.proofs.Counting.{and_of}
use Rattle.bits.proofs.Masks.{mask_in}
use Rattle.bits.proofs.SetLaws.{has_suc, mod-bit}
use Rattle.workflow.specs.Problem.{load_of}
use Rattle.workflow.proofs.Loads.{load_le_largest}
use Rattle.matching.specs.Assignment.{Assignment, Covers, in_mask, suits}
use Rattle.relax.proofs.Bounding.{count_before}
use Rattle.search.specs.Limits.{Gathering, Manned}
use Rattle.search.specs.Loads.{Repeated, Places, KeepsLoad, Loads}
use Rattle.search.proofs.LowerLimits.{or_has_left, or_has_right}
use Rattle.search.proofs.Unmet.{assignment_of, Unmet}

-- ---- the places of some classes

-- a set moved up by a
shifted_bit : (m a v : ℕ) → has_bit (m * 2 ^ a) (a + v) ≡ has_bit m v
shifted_bit m zero v =
    let e : 0 + v ≡ v = omega arith in ap (has_bit (m * 1)) e ∙ ap (λ (x : ℕ). has_bit x v) (mul-one m)
shifted_bit m (suc a) v =
    let e : suc a + v ≡ suc (a + v) = omega arith in
    ap (has_bit (m * 2 ^ suc a)) e ∙ has_suc (m * 2 ^ suc a) (a + v) ∙ ap (λ (x : ℕ). has_bit x (a + v)) (shifted_half m a) ∙ shifted_bit m a v

-- the same, as a machine word computes it
shifted_has : (m a v : ℕ) → a + v < 64 → has_bit m v ≡ true → has_bit (m * 2 ^ a % 2 ^ 64) (a + v) ≡ true
shifted_has m a v l h = mod-bit 64 (m * 2 ^ a) (a + v) ∙ and_of (ltb (a + v) 64) _ (lt-ltb (a + v) 64 l) (shifted_bit m a v ∙ h)

-- place k of a class is one of so many times the width
pub place_below : (k width times v : ℕ) → k < times → v < width → k * width + v < times * width
place_below k width times v l b = omega (arith, mul-le-mul_right width l, suc-mul k width)

module _ (m width : ℕ) where
  pub repeated_more : (times k all : ℕ) → times * width ≤ 64 → k < times → Repeated m width k all → Repeated m width (k + 1) (bit_or all (m * 2 ^ (k * width) % 2 ^ 64))
  repeated_more times k all room l w =
      record {
        has = λ i v b d h.
            by_cases (eqb i k)
            (λ e. or_has_right all (m * 2 ^ (k * width) % 2 ^ 64) (i * width + v)
            (subst (λ (x : ℕ). has_bit (m * 2 ^ (k * width) % 2 ^ 64) (x * width + v) ≡ true) (sym (eqb-true i k e))
            (shifted_has m (k * width) v (omega (arith, place_below k width times v l d)) h)))
            (λ e. let n : i ≡ k → ⊥ = eqb-false i k e in or_has_left all (m * 2 ^ (k * width) % 2 ^ 64) (i * width + v) (w.has i v (omega arith) d h));
      }

  pub repeated_all : (times k all : ℕ) → times ≤ k → Repeated m width k all → Repeated m width times all
  repeated_all times k all l w = record { has = λ i v b. w.has i v (omega arith) }

module _ (reach : List ℕ) (q width load : ℕ) where
  pub places_more : (n row : ℕ) (edges : List ℕ) → n < 12 → Places n reach q width load edges → Repeated (get_or reach (q * 12 + n) 0) width load row
      → Places (n + 1) reach q width load (set edges n row)
  places_more n row edges l w r =
      record {
        sized = length-set edges n row ∙ w.sized;
        each = λ s b.
            by_cases (eqb s n)
            (λ e. rw (eqb-true s n e, get_or-set_same edges n row 0 (omega (arith, w.sized))) r)
            (λ e. let d : s ≡ n → ⊥ = eqb-false s n e in rw (get_or-set_other edges n s row 0 d) (w.each s (omega arith)));
      }

  pub places_all : (steps n : ℕ) (edges : List ℕ) → steps ≤ n → Places n reach q width load edges → Places steps reach q width load edges
  places_all steps n edges l w = record { sized = w.sized; each = λ s b. w.each s (omega arith) }

-- ---- the assignment

-- the number of a place tells which it is, and of which class
pub place_apart : (width k l u v : ℕ) → u < width → v < width → k * width + u ≡ l * width + v → (k ≡ l) × (u ≡ v)
place_apart width k l u v a b e =
    by_cases (ltb k l)
    (λ t. absurd (omega (arith, place_below k width l u (ltb-true k l t) a)))
    (λ t. by_cases (ltb l k)
    (λ f. absurd (omega (arith, place_below l width k v (ltb-true l k f) b)))
    (λ f.
    let n : k ≡ l = omega (arith, ltb-false k l t, ltb-false l k f) in
    let z : k * width ≡ l * width = ap (λ (x : ℕ). x * width) n in
    (n, omega arith)))

-- the class of a step has a number below the width
pub class_below : {steps : ℕ} {reach : List ℕ} {q scope all : ℕ} (width : ℕ) (c : ℕ → ℕ) → Gathering steps reach q scope all
    → ((v : ℕ) → has_bit all v ≡ true → v < width) → Manned steps reach q scope c → (s : ℕ) → s < steps → has_bit scope s ≡ true → c s < width
class_below width c gathered narrow manned s l i = narrow (c s) (gathered.has s (c s) l i (manned s l i).1)

-- a step has as many places in its class as the class holds steps
module _ (steps scope width : ℕ) (edges : List ℕ) (c : ℕ → ℕ) (low : (s : ℕ) → s < steps → has_bit scope s ≡ true → c s < width)
    (seats : (s k : ℕ) → s < steps → has_bit scope s ≡ true → k < load_of steps (has_bit scope) c (c s) → suits edges s (k * width + c s) ≡ true) where
  -- the steps of the scope that class v has
  abbrev held : ℕ → ℕ → Bool
  held v t = has_bit scope t && eqb (c t) v

  -- how many steps of a step's class come before it
  pub rank : ℕ → ℕ
  rank s = count s (held (c s))

  own : (s : ℕ) → has_bit scope s ≡ true → held (c s) s ≡ true
  own s i = and_of (has_bit scope s) _ i (eq-eqb (c s) (c s) refl)

  rank_below : (s : ℕ) → s < steps → has_bit scope s ≡ true → rank s < load_of steps (has_bit scope) c (c s)
  unfolding rank load_of
  rank_below s l i = count_before s steps (held (c s)) (own s i) l

  rank_rises : (s t : ℕ) → s < t → has_bit scope s ≡ true → c s ≡ c t → rank s < rank t
  unfolding rank
  rank_rises s t o i e = rw (sym e) (count_before s t (held (c s)) (own s i) o)

  abbrev place : ℕ → ℕ
  place s = rank s * width + c s

  ordered : (s t : ℕ) → s < t → t < steps → has_bit scope s ≡ true → has_bit scope t ≡ true → place s ≡ place t → ⊥
  ordered s t o l i k e =
      let p = place_apart width (rank s) (rank t) (c s) (c t) (low s (omega arith) i) (low t l k) e in
      omega (arith, p.0, rank_rises s t o i p.1)

  pub placing : scope < 2 ^ steps → Assignment (in_mask scope) (suits edges) place
  placing small = assignment_of steps scope edges place small (λ s l i. seats s (rank s) l i (rank_below s l i)) ordered

-- classes that do not add to the numbers below the width
pub none_above : (all low width : ℕ) → Mask (λ i. ltb i width) low → bit_or all low ≡ low → (v : ℕ) → has_bit all v ≡ true → v < width
none_above all low width m e v h =
    ltb-true v width (mask_in m v (ap (λ (x : ℕ). has_bit x v) (sym e) ∙ or_has_left all low v h))

-- so many times the width are the places, and there is one at least
pub width_room : (load : ℕ) → 1 ≤ load → load ≤ 64 → (1 ≤ 64 / load) × (load * (64 / load) ≤ 64)
width_room load l h = ((le-div_iff_mul-le {k = load} {x = 1} {y = 64} l).1 (omega arith), mul-div-le 64 load)

-- ---- a rule

module _ (steps : ℕ) (reach : List ℕ) (q scope load : ℕ) where
  -- a place of a step's class below the load suits it
  pub seated : {width : ℕ} (edges : List ℕ) → load * width ≤ 64 → Places steps reach q width load edges → (c : ℕ → ℕ) (s k : ℕ) → s < steps → c s < width
      → has_bit (get_or reach (q * 12 + s) 0) (c s) ≡ true → k < load → suits edges s (k * width + c s) ≡ true
  seated {width} edges room w c s k l b h r =
      and_of (ltb (k * width + c s) 64) _ (lt-ltb (k * width + c s) 64 (omega (arith, place_below k width load (c s) r b))) ((w.each s l).has k (c s) r b h)

  pub keeping : {all width : ℕ} {edges : List ℕ} {found : Bool} {at : ℕ → ℕ} → scope < 2 ^ steps → Gathering steps reach q scope all
      → ((v : ℕ) → has_bit all v ≡ true → v < width) → load * width ≤ 64 → Places steps reach q width load edges
      → Covers (in_mask scope) (suits edges) found at → KeepsLoad steps reach q scope load found
  keeping {all} {width} {edges} small g n room w o =
      record {
        heavy = λ e c manned light.
            let low = class_below width c g n manned in
            o.complete e _
            (placing steps scope width edges c low
            (λ s k l i b. seated edges room w c s k l (low s l i) (manned s l i).1 (omega (arith, load_le_largest steps (has_bit scope) c (c s)))) small);
      }

  pub keeping_unknown : KeepsLoad steps reach q scope load true
  keeping_unknown = record { heavy = λ e. true-false refl e }

-- ---- the rules

module _ {steps rules : ℕ} {rule reach : List ℕ} where
  pub loads_unmet : (r : Bool) → Loads steps rules rule reach r → not r ≡ true → Unmet steps rules rule reach
  loads_unmet r w f =
      let u = w.overloaded (not-true r f) in
      record { which = u.which; below = u.below; none = λ c manned met. u.heavy.heavy refl c manned met.load }
