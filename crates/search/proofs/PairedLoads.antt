-- A valid plan gives an assignment for two limits on the load at nested levels: a class of the coarser level holds as many steps as the
-- classes of the finer level inside it hold together. Assumes nothing.
use mathlib.Core.Bool.{Bool, true, not, ◌&&◌}
use mathlib.Core.List.{List}
use Rattle.std.specs.Prelude.{None, length}
use mathlib.Core.Path.{◌≡◌, refl, sym, subst, ◌∙◌}
use Prim.Native.Nat.{ℕ, zero, suc, ◌+◌, ◌*◌, ◌-◌, ◌/◌, ◌%◌, ◌^◌, ◌≤◌, ◌<◌}
use native.Mathlib.Omega.{arith}
use native.Mathlib.Nat.{not-suc-le-zero, le_trans, mul-le-mul_right, pow-suc, mod-lt, div-add-mod'}
use lib.Bits.{bit_and}
use lib.Count.{ones}
use lib.Dec.{eqb, ltb, lit<}
use lib.ListN.{get_or, set, replicate, length-set, length-replicate}
use lib.Seq.{get_or-set_same, get_or-set_other}
use borrow.Author.Tests.{eqb-true, eqb-false, ltb-true, not-true}
use Rattle.bits.specs.Word.{has_bit}
use Rattle.bits.specs.Set.{Added}
use Rattle.bits.proofs.Below.{by_cases, true-false, and_left, and_right}
use Rattle.bits.proofs.Counting.{and_of, count_mono}
use Rattle.bits.proofs.Masks.{bits_below}
use Rattle.bits.proofs.Ones.{ones_bits}
use Rattle.bits.proofs.SetLaws.{has_below, and-bit, and-bit_left, and-bit_right, added_has, added_keeps}
use Rattle.workflow.specs.Problem.{Valid, distinct, load_of, largest_load}
use Rattle.workflow.proofs.Loads.{load_le_largest, load_scope_mono, count_load}
use Rattle.workflow.proofs.Occurs.{occurs, occurs_at, distinct_occurs}
use Rattle.matching.specs.Assignment.{Covers, in_mask, suits}
use Rattle.pattern.specs.declared.Size.{Size}
use Rattle.pattern.specs.Given.{Ruled}
use Rattle.pattern.specs.Rule.{level_in, load_in, scope_in}
use Rattle.pattern.specs.Tables.{number_in, may_in, job_with}
use Rattle.realize.specs.Parts.{Offers}
use Rattle.search.specs.Existence.{Existence}
use Rattle.search.specs.Limits.{Gathering, Manned}
use Rattle.search.specs.Loads.{Places}
use Rattle.search.specs.PairedLoads.{Inside, Room, Kept, Together, KeepsBoth, KeepsBothOf, OverloadedPair, Pairs}
use Rattle.search.proofs.GreatestLoads.{place_apart, class_below, placing, seated}
use Rattle.search.proofs.Unmet.{manned}

-- ---- the classes inside a class

module _ (class : List ℕ) (coarse fine : ℕ) where
  -- a person more
  pub inside_more : (n row : ℕ) (within : List ℕ) → Inside n class coarse fine within
      → Added (get_or within (number_in class coarse n) 0) (number_in class fine n) row → Inside (n + 1) class coarse fine (set within (number_in class coarse n) row)
  inside_more n row within w more =
      record {
        sized = length-set within (number_in class coarse n) row ∙ w.sized;
        has = λ p l.
            by_cases (eqb p n)
            (λ e. rw (eqb-true p n e, get_or-set_same within (number_in class coarse n) row 0 (omega (arith, w.sized))) (added_has more))
            (λ e. let d : p ≡ n → ⊥ = eqb-false p n e in earlier p (w.has p (omega arith)));
      }
    where
      earlier : (p : ℕ) → has_bit (get_or within (number_in class coarse p) 0) (number_in class fine p) ≡ true
          → has_bit (get_or (set within (number_in class coarse n) row) (number_in class coarse p) 0) (number_in class fine p) ≡ true
      earlier p h =
          by_cases (eqb (number_in class coarse p) (number_in class coarse n))
          (λ e.
          let z : number_in class coarse p ≡ number_in class coarse n = eqb-true (number_in class coarse p) (number_in class coarse n) e in
          subst (λ (x : ℕ). has_bit (get_or (set within (number_in class coarse n) row) x 0) (number_in class fine p) ≡ true) (sym z)
          (rw (get_or-set_same within (number_in class coarse n) row 0 (omega (arith, w.sized)))
          (added_keeps more (number_in class fine p) (subst (λ (x : ℕ). has_bit (get_or within x 0) (number_in class fine p) ≡ true) z h))))
          (λ e.
          let d : number_in class coarse p ≡ number_in class coarse n → ⊥ = eqb-false (number_in class coarse p) (number_in class coarse n) e in
          rw (get_or-set_other within (number_in class coarse n) (number_in class coarse p) row 0 d) h)

  pub inside-all : (people n : ℕ) (within : List ℕ) → people ≤ n → Inside n class coarse fine within → Inside people class coarse fine within
  inside-all people n within l w = record { sized = w.sized; has = λ p b. w.has p (omega arith) }

-- ---- the room

module _ (within : List ℕ) (all load width : ℕ) where
  -- a place that its class does not have
  pub room_past : (n room : ℕ) → ones (bit_and (get_or within (n % width) 0) all) * load ≤ n / width → Room n within all load width room
      → Room (n + 1) within all load width room
  room_past n room f w =
      record {
        has = λ x l h.
            by_cases (eqb x n)
            (λ e. let z : n / width < ones (bit_and (get_or within (n % width) 0) all) * load
            = subst (λ (y : ℕ). y / width < ones (bit_and (get_or within (y % width) 0) all) * load) (eqb-true x n e) h in
            absurd (omega arith))
            (λ e. let d : x ≡ n → ⊥ = eqb-false x n e in w.has x (omega arith) h);
      }

  pub room_more : (n : ℕ) {room room' : ℕ} → Room n within all load width room → Added room n room' → Room (n + 1) within all load width room'
  room_more n {room} {room'} w more =
      record {
        has = λ x l h.
            by_cases (eqb x n)
            (λ e. subst (λ (y : ℕ). has_bit room' y ≡ true) (sym (eqb-true x n e)) (added_has more))
            (λ e. let d : x ≡ n → ⊥ = eqb-false x n e in added_keeps more x (w.has x (omega arith) h));
      }

  pub room_all : (m n room : ℕ) → m ≤ n → Room n within all load width room → Room m within all load width room
  room_all m n room l w = record { has = λ x b. w.has x (omega arith) }

  -- place k of class v
  pub room_place : (room k v : ℕ) → Room 64 within all load width room → v < width → k * width + v < 64 → k < ones (bit_and (get_or within v 0) all) * load
      → has_bit room (k * width + v) ≡ true
  room_place room k v w b l h =
      let x = k * width + v in
      let e = place_apart width (x / width) k (x % width) v (mod-lt x (omega arith)) b (div-add-mod' x width) in
      w.has x l (rw (e.0, e.1) h)

-- ---- the places kept

module _ (edges : List ℕ) (room : ℕ) where
  pub kept_each : (kept : List ℕ) → length kept ≡ 12 → ((s : ℕ) → s < 12 → get_or kept s 0 ≡ bit_and (get_or edges s 0) room) → Kept 12 edges room kept
  kept_each kept e each =
      record { sized = e; has = λ s x l h i. rw (each s l) (and-bit (get_or edges s 0) room x ∙ and_of _ _ h i) }

  pub kept_all : (steps n : ℕ) (kept : List ℕ) → steps ≤ n → Kept n edges room kept → Kept steps edges room kept
  kept_all steps n kept l w = record { sized = w.sized; has = λ s x b. w.has s x (omega arith) }

-- ---- what a class holds

lt-pow : (n : ℕ) → n < 2 ^ n
lt-pow zero = lit< tt
lt-pow (suc n) = let h : n < 2 ^ n = lt-pow n in let e : 2 ^ suc n ≡ 2 ^ n * 2 = pow-suc 2 n in omega arith

-- different classes in a mask are at most its elements
pub distinct-ones : (n : ℕ) (scope : ℕ → Bool) (d : ℕ → ℕ) (mask : ℕ) → ((s : ℕ) → s < n → scope s ≡ true → (d s < 64) × (has_bit mask (d s) ≡ true))
    → distinct n scope d ≤ ones mask
distinct-ones n scope d mask h =
    let m = mask + 64 in
    let a = distinct_occurs scope d n m (λ s l i. omega (arith, (h s l i).0)) in
    let b = count_mono m (occurs n scope d) (has_bit mask)
    (λ v l o. let w = occurs_at scope d n v o in subst (λ (x : ℕ). has_bit mask x ≡ true) w.3 (h w.0 w.1 w.2).1) in
    let e = ones_bits m mask (omega (arith, lt-pow m)) in
    omega arith

module _ {steps people : ℕ} {class reach : List ℕ} {coarse fine scope : ℕ} {within : List ℕ} {all : ℕ} (inner : Inside people class coarse fine within)
    (gathered : Gathering steps reach fine scope all) (c d : ℕ → ℕ) (manned : Manned steps reach fine scope d)
    (joint : Together steps people class coarse fine scope c d) (load : ℕ) (light : largest_load steps (has_bit scope) d ≤ load) where
  -- the steps of the scope that class v has
  abbrev held : ℕ → ℕ → Bool
  held v t = has_bit scope t && eqb (c t) v

  -- the class of such a step at the finer level is inside class v
  inner_has : (v s : ℕ) → s < steps → held v s ≡ true → has_bit (bit_and (get_or within v 0) all) (d s) ≡ true
  inner_has v s l h =
      let i = and_left (has_bit scope s) _ h in
      let p = joint s l i in
      let e : number_in class coarse p.0 ≡ v = sym p.2 ∙ eqb-true (c s) v (and_right (has_bit scope s) _ h) in
      let b : has_bit (get_or within v 0) (d s) ≡ true
      = subst (λ (x : ℕ). has_bit (get_or within v 0) x ≡ true) (sym p.3)
      (subst (λ (x : ℕ). has_bit (get_or within x 0) (number_in class fine p.0) ≡ true) e (inner.has p.0 p.1)) in
      and-bit (get_or within v 0) all (d s) ∙ and_of _ _ b (gathered.has s (d s) l i (manned s l i).1)

  -- so class v holds no more than the classes inside it may hold together
  pub load_inside : (v : ℕ) → load_of steps (has_bit scope) c v ≤ ones (bit_and (get_or within v 0) all) * load
  unfolding load_of
  load_inside v =
      let few = distinct-ones steps (held v) d (bit_and (get_or within v 0) all)
      (λ s l h. ((manned s l (and_left (has_bit scope s) _ h)).0, inner_has v s l h)) in
      let narrower = load_scope_mono steps d (held v) (has_bit scope) (λ s l h. and_left (has_bit scope s) _ h) in
      let most = count_load steps (held v) d load (omega arith) in
      omega (arith, mul-le-mul_right load few)

-- ---- two rules

module _ (steps people : ℕ) (class reach : List ℕ) (coarse fine scope high low : ℕ) where
  pub keeping_both : {all width finer room : ℕ} {within edges kept : List ℕ} {found : Bool} {at : ℕ → ℕ} → scope < 2 ^ steps → Gathering steps reach coarse scope all
      → ((v : ℕ) → has_bit all v ≡ true → v < width) → high * width ≤ 64 → Inside people class coarse fine within → Gathering steps reach fine scope finer
      → Room 64 within finer low width room → Places steps reach coarse width high edges → Kept steps edges room kept
      → Covers (in_mask scope) (suits kept) found at → KeepsBoth steps people class reach coarse fine scope high low found
  keeping_both {all} {width} {finer} {room} {within} {edges} {kept} small g n fit inner f r w k o =
      record {
        heavy = λ e c d manned fine-manned joint light fine-light.
            let below = class_below width c g n manned in
            o.complete e _
            (placing steps scope width kept c below
            (λ s i l h b.
            let seat = seated steps reach coarse scope high edges fit w c s i l (below s l h) (manned s l h).1 (omega (arith, load_le_largest steps (has_bit scope) c (c s))) in
            let inner-load = load_inside inner f c d fine-manned joint low fine-light (c s) in
            let x = i * width + c s in
            let small-place = and_left (ltb x 64) _ seat in
            and_of (ltb x 64) _ small-place
            (k.has s x l (and_right (ltb x 64) _ seat)
            (room_place within finer low width room i (c s) r (below s l h) (ltb-true x 64 small-place) (omega arith)))) small);
      }

-- the same of two packed rules, by what they say
module _ (steps people : ℕ) (class reach : List ℕ) (r t : ℕ) where
  pub both_of : {a b s u high low : ℕ} (found : Bool) → a ≡ level_in r → b ≡ level_in t → s ≡ scope_in r → u ≡ scope_in t → high ≡ load_in r → low ≡ load_in t
      → KeepsBoth steps people class reach (a - 1) (b - 1) (bit_and s u) high low found → KeepsBothOf steps people class reach r t found
  both_of found e f g k m n w = rw (sym e, sym f, sym g, sym k, sym m, sym n) w

  pub both_unknown : KeepsBothOf steps people class reach r t true
  both_unknown = record { heavy = λ e. true-false refl e }

-- the steps that two rules name are steps
pub both_small : (steps a b : ℕ) → a < 2 ^ steps → bit_and a b < 2 ^ steps
both_small steps a b l = bits_below steps (bit_and a b) (λ j h. has_below steps a j l (and-bit_left a b j h))

-- ---- no plan

module _ {size : Size} {class : ℕ → ℕ → ℕ} {rule : List ℕ} (ruled : Ruled size rule)
    (small : (q p : ℕ) → 1 ≤ q → q ≤ size.levels → p < size.people → class q p < 64)
    (may : List ℕ) {reach : List ℕ} (offers : Offers (job_with size class rule) may reach)
    (table : List ℕ) (numbered : (q p : ℕ) → q < size.levels → p < size.people → class (suc q) p ≡ number_in table q p) where
  -- the number of a person's class in the table
  number_at : (q p : ℕ) → 1 ≤ q → q ≤ size.levels → p < size.people → class q p ≡ number_in table (q - 1) p
  number_at q p from to l =
      let e : suc (q - 1) ≡ q = omega arith in subst (λ (x : ℕ). class x p ≡ number_in table (q - 1) p) e (numbered (q - 1) p (omega arith) l)

  -- a valid plan would keep to the loads of both rules
  none_overloaded : OverloadedPair size.steps size.people size.rules table rule reach → (π : ℕ → ℕ)
      → Valid (job_with size class rule) (may_in may) π → ⊥
  none_overloaded u π ok =
      let w = u.partner in
      let r = get_or rule u.which 0 in
      let t = get_or rule w.which 0 in
      let a = ruled.rule_ok u.which u.below in
      let b = ruled.rule_ok w.which w.below in
      let scope = bit_and (scope_in r) (scope_in t) in
      let c : ℕ → ℕ = λ s. class (level_in r) (π s) in
      let d : ℕ → ℕ = λ s. class (level_in t) (π s) in
      let over = load_scope_mono size.steps c (has_bit scope) (has_bit (scope_in r)) (λ s l h. and-bit_left (scope_in r) (scope_in t) s h) in
      let under = load_scope_mono size.steps d (has_bit scope) (has_bit (scope_in t)) (λ s l h. and-bit_right (scope_in r) (scope_in t) s h) in
      w.heavy.heavy refl c d (manned ruled small may offers π ok (level_in r) scope a.from a.to) (manned ruled small may offers π ok (level_in t) scope b.from b.to)
      (λ s l h. (π s, ok.within s l, number_at (level_in r) (π s) a.from a.to (ok.within s l), number_at (level_in t) (π s) b.from b.to (ok.within s l)))
      (le_trans over (ok.eligible u.which u.below).load) (le_trans under (ok.eligible w.which w.below).load)

  pub existence_overloaded : (b : Bool) → Pairs size.steps size.people size.rules table rule reach b → not b ≡ true
      → Existence (job_with size class rule) (may_in may) None
  existence_overloaded b w f = λ x. none_overloaded (w.overloaded (not-true b f)) x.0 x.1
