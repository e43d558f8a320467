-- The classes that the open steps of a rule can add: each is that of one of the people kept as first of their class, so the rule's count
-- is at most the classes that are had and those people. Assumes nothing.
use mathlib.Core.Bool.{Bool, true, false, not}
use mathlib.Core.List.{List}
use mathlib.Core.Path.{◌≡◌, refl, sym, subst, ap, ◌∙◌}
use Prim.Native.Nat.{ℕ, ◌+◌, ◌≤◌, ◌<◌}
use native.Mathlib.Omega.{arith}
use lib.Bits.{bit_and, bit_or, bit_xor}
use lib.Count.{ones}
use lib.Dec.{eqb}
use lib.ListN.{get_or}
use borrow.Author.Tests.{eqb-true, eqb-false}
use Rattle.bits.specs.Below.{count}
use Rattle.bits.specs.Word.{has_bit}
use Rattle.bits.specs.Set.{Added, FirstAndRest}
use Rattle.bits.proofs.Below.{by_cases, true-false}
use Rattle.bits.proofs.Counting.{and_of, is_false, count_split}
use Rattle.bits.proofs.Ones.{ones_bits}
use Rattle.bits.proofs.SetLaws.{and-bit, or-bit, empty_lacks, added_has, added_keeps, added_other, removed_other}
use Rattle.workflow.specs.Problem.{Plan, distinct}
use Rattle.workflow.proofs.Counts.{distinct-le_scope}
use Rattle.workflow.proofs.Occurs.{occurs, occurs_of, occurs_at, distinct_occurs}
use Rattle.pattern.specs.Tables.{may_in}
use Rattle.eligible.specs.Classes.{Grouped}
use Rattle.narrow.specs.Domains.{Takes}
use Rattle.narrow.specs.Fixing.{settled, Fixing}
use Rattle.narrow.specs.Spreading.{AllOf, Firsts, Spread}
use Rattle.bits.proofs.Masks.{xor_all, bits_below, or_left, or_right}
use Rattle.narrow.proofs.Reach.{of_crowd}
use Rattle.narrow.proofs.Settling.{settled_of, bound_of}

-- ---- all that some sets have

module _ {steps : ℕ} {sets : List ℕ} where
  pub all_none : AllOf steps sets steps 0
  all_none = record { has = λ s p h k. true-false h k }

  pub all_more : {left found s left' : ℕ} → AllOf steps sets left found → FirstAndRest left s left' → AllOf steps sets left' (bit_or found (get_or sets s 0))
  all_more {found = found} {s = s} w t =
      record {
        has = λ u p h k i.
            or-bit found (get_or sets s 0) p
            ∙ by_cases (eqb u s)
            (λ x. or_right (has_bit found p) _ (subst (λ (y : ℕ). may_in sets y p ≡ true) (eqb-true u s x) i))
            (λ x. or_left (has_bit found p) _ (w.has u p h (sym (removed_other t.removed u (eqb-false u s x)) ∙ k) i));
      }

  pub all_done : {left found : ℕ} → AllOf steps sets left found → left ≡ 0 → AllOf steps sets 0 found
  all_done {found = found} w e = subst (λ (x : ℕ). AllOf steps sets x found) e w

-- ---- one person for each class

module _ {people : ℕ} {c : ℕ → ℕ} {domain : ℕ} where
  pub firsts_none : Firsts people c domain domain 0
  firsts_none = record { few = λ p h. true-false h (empty_lacks p); each = λ p l h k. true-false h k }

  pub firsts_more : Grouped people c → {left p rest found found' mask : ℕ} → mask ≡ c p → Firsts people c domain left found → p < 64
      → FirstAndRest left p rest → Added found p found' → Firsts people c domain (bit_and rest (bit_xor mask 18446744073709551615)) found'
  firsts_more g {left} {p} {rest} {found} {found'} e w b t more =
      subst (λ (m : ℕ). Firsts people c domain (bit_and rest (bit_xor m 18446744073709551615)) found') (sym e)
      (record {
        few = λ u h.
            by_cases (eqb u p)
            (λ x. subst (λ (y : ℕ). y < 64) (sym (eqb-true u p x)) b)
            (λ x. w.few u (sym (added_other more u (eqb-false u p x)) ∙ h));
        each = λ u l h k.
            by_cases (has_bit left u)
            (λ x. let o = of_crowd g t u l x k in (p, b, added_has more, sym o.1))
            (λ x. let o = w.each u l h x in (o.0, o.1, added_keeps more o.0 o.2, o.3));
      })

  pub firsts_all : {left found : ℕ} → left ≡ 0 → Firsts people c domain left found → Firsts people c domain 0 found
  firsts_all {found = found} z w = subst (λ (x : ℕ). Firsts people c domain x found) z w

-- ---- their number

pub ones-all : (x : ℕ) → ((p : ℕ) → has_bit x p ≡ true → p < 64) → ones x ≡ count 64 (has_bit x)
ones-all x h = ones_bits 64 x (bits_below 64 x h)

pub spread_of : {people : ℕ} {c : ℕ → ℕ} {steps used : ℕ} {dom : List ℕ} {all found : ℕ} → Grouped people c → AllOf steps dom 0 all
    → Firsts people c (bit_and all (bit_xor used 18446744073709551615)) 0 found → Spread people c steps used dom (ones found)
spread_of {used = used} {all = all} {found = found} g a w =
    record {
      some = found;
      its_number = ones-all found w.few;
      each = λ s p h l t n.
          w.each p l
          (and-bit all (bit_xor used 18446744073709551615) p
          ∙ and_of (has_bit all p) _ (a.has s p h (empty_lacks s) t) (xor_all used p (omega (arith, g.few)) ∙ ap not n))
          (empty_lacks p);
    }

-- where each class of the scope is one of the part's or one of somebody of r, it has at most as many more as r has people
classes_to : (n m : ℕ) (scope part : ℕ → Bool) (cl c : ℕ → ℕ) (r : ℕ → Bool)
    → ((s : ℕ) → s < n → scope s ≡ true → occurs n part cl (cl s) ≡ false → occurs m r c (cl s) ≡ true)
    → distinct n scope cl ≤ distinct n part cl + count m r
classes_to n m scope part cl c r h =
    let a = bound_of n cl in
    let b = bound_of m c in
    let x : distinct n scope cl ≡ count (a.0 + b.0) (occurs n scope cl) = distinct_occurs scope cl n (a.0 + b.0) (λ s l i. omega (arith, a.1 s l)) in
    let y : distinct n part cl ≡ count (a.0 + b.0) (occurs n part cl) = distinct_occurs part cl n (a.0 + b.0) (λ s l i. omega (arith, a.1 s l)) in
    let z : distinct m r c ≡ count (a.0 + b.0) (occurs m r c) = distinct_occurs r c m (a.0 + b.0) (λ s l i. omega (arith, b.1 s l)) in
    let t : count (a.0 + b.0) (occurs n scope cl) ≤ count (a.0 + b.0) (occurs n part cl) + count (a.0 + b.0) (occurs m r c)
    = count_split (a.0 + b.0) (occurs n scope cl) (occurs n part cl) (occurs m r c)
    (λ v l o u. let k = occurs_at scope cl n v o in
    subst (λ (e : ℕ). occurs m r c e ≡ true) k.3
    (h k.0 k.1 k.2 (subst (λ (e : ℕ). occurs n part cl e ≡ false) (sym k.3) u)))
    in
    omega (arith, distinct-le_scope m r c)

-- the classes of a rule in a plan of the domains: those that are had, and those that the open steps can add
pub count_spread : {steps people : ℕ} {c : ℕ → ℕ} {scope : ℕ} {dom : List ℕ} {used groups wide number : ℕ} → Fixing steps people c scope dom used groups wide
    → Spread people c wide used dom number → (π : Plan) → Takes steps people dom π
    → distinct steps (has_bit scope) (λ u. c (π u)) ≤ groups + number
count_spread {steps} {people} {c} {scope} {dom} {used} {groups} {wide} {number} f w π takes =
    let a : groups ≡ distinct steps (settled scope wide 0) (λ u. c (π u)) = f.number π takes in
    let b : distinct steps (has_bit scope) (λ u. c (π u)) ≤ distinct steps (settled scope wide 0) (λ u. c (π u)) + count 64 (has_bit w.some)
    = classes_to steps 64 (has_bit scope) (settled scope wide 0) (λ u. c (π u)) c (has_bit w.some) brings in
    let e : number ≡ count 64 (has_bit w.some) = w.its_number in
    omega arith
  where
    -- a step whose class no settled step has is open, and its person is not of the classes used
    brings : (s : ℕ) → s < steps → has_bit scope s ≡ true → occurs steps (settled scope wide 0) (λ u. c (π u)) (c (π s)) ≡ false
        → occurs 64 (has_bit w.some) c (c (π s)) ≡ true
    brings s l h n =
        let new : (u : ℕ) → u < steps → settled scope wide 0 u ≡ true → c (π u) ≡ c (π s) → ⊥
        = λ u m i e. true-false (occurs_of (settled scope wide 0) (λ x. c (π x)) steps (c (π s)) u m i e) n in
        let is_open : has_bit wide s ≡ true
        = by_cases (has_bit wide s) (λ t. t) (λ t. absurd (new s l (settled_of scope wide 0 s h t (empty_lacks s)) refl)) in
        let out : has_bit used (π s) ≡ false
        = is_false _ (λ t. let o = (f.used_by π takes).people_of (π s) (takes.within s l) t in new o.0 o.1 o.2 (sym o.3)) in
        let q = w.each s (π s) is_open (takes.within s l) (takes.among s l) out in
        occurs_of (has_bit w.some) c 64 (c (π s)) q.0 q.1 q.2 q.3
