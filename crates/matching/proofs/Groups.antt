-- The groups of a mask, one after the other: those passed have classes, and one that is stuck leaves no assignment. Assumes nothing.
use mathlib.Core.Bool.{Bool, true, false, not, ◌&&◌}
use mathlib.Core.Path.{◌≡◌, refl, sym, ap, ◌∙◌, subst}
use mathlib.Core.List.{List}
use Prim.Native.Nat.{ℕ, ◌-◌, ◌%◌, ◌≤◌, ◌<◌, ◌^◌}
use native.Mathlib.Omega.{arith}
use lib.Dec.{ltb}
use lib.ListN.{get_or, replicate, get_or-replicate, get_or-eq_default}
use borrow.Author.Tests.{ltb-true, ltb-false, lt-ltb, not-true, not-false}
use Rattle.bits.specs.Word.{has_bit}
use Rattle.bits.specs.Set.{FirstAndRest}
use Rattle.bits.proofs.Below.{by_cases, true-false, and_left, and_right}
use Rattle.bits.proofs.Masks.{taken_was}
use Rattle.bits.proofs.SetLaws.{full_has, mod-bit, zero_empty, removed_lacks, removed_other}
use Rattle.matching.specs.Assignment.{Assignment, Covers, in_mask, suits, class_at}
use Rattle.matching.specs.State.{Placed, Unserved, Blocked, Stuck, Placement, Partial}
use Rattle.matching.proofs.Hall.{Inside, none_closed}
use Rattle.matching.proofs.Laws.{equal_or_not}

suits_below : (edges : List ℕ) (g c : ℕ) → suits edges g c ≡ true → c < 64
suits_below edges g c h = ltb-true c 64 (and_left (ltb c 64) (has_bit (get_or edges g 0) c) h)

-- no group has a class at first
abbrev start : List ℕ
start = replicate {A = ℕ} 12 64

start_idle : (g : ℕ) → class_at start g ≡ 64
start_idle g =
    by_cases (ltb g 12) (λ t. get_or-replicate 12 g 64 64 (ltb-true g 12 t))
    (λ t. get_or-eq_default start 64 (ltb-false g 12 t))

pub partial_none : (edges : List ℕ) (groups free : ℕ) → Partial edges groups start free (groups % 2 ^ 12)
partial_none edges groups free = record {
  held = record {
    sized = refl;
    most = λ g. let e : class_at start g ≡ 64 = start_idle g in omega arith;
    along = λ g p. nobody g p;
    apart = λ g h p e. nobody g p;
    taken = λ g p. nobody g p;
  };
  part = λ g h. sym (mod-bit 12 groups g) ∙ h;
  placed = λ g m h. true-false (mod-bit 12 groups g ∙ m) h;
  only = λ g p. nobody g p;
}
  where
    nobody : {P : Type 0} (g : ℕ) → Placed start g → P
    nobody g p = let e : class_at start g ≡ 64 = start_idle g in absurd (omega arith)

-- g is the next group
module _ {edges : List ℕ} {groups : ℕ} {at : List ℕ} {free rest rest' g : ℕ} (p : Partial edges groups at free rest)
    (first : FirstAndRest rest g rest') where
  known : in_mask groups g ≡ true
  known = p.part g first.lowest.has

  idle : class_at at g ≡ 64
  idle =
      let m : class_at at g ≤ 64 = p.held.most g in
      let n : Placed at g → ⊥ = λ h. true-false first.lowest.has (p.only g h).1 in omega arith

  module _ {at' : List ℕ} {free' was now : ℕ} {b : Bool} (a : Placement edges at at' free free' was now g b) where
    -- it has got a class
    pub next_placed : not b ≡ false → Partial edges groups at' free' rest'
    next_placed d =
        let w = a.success (not-false b d) in
        record {
          held = w.held;
          part = λ k h. p.part k (taken_was first k h);
          placed = λ k m h. equal_or_not k g
              (λ q. subst (λ (x : ℕ). Placed at' x) (sym q) w.placed)
              (λ n. w.kept k (p.placed k m (sym (removed_other first.removed k n) ∙ h)));
          only = λ k h. equal_or_not k g
              (λ q. (subst (λ (x : ℕ). in_mask groups x ≡ true) (sym q) known, subst (λ (x : ℕ). has_bit rest' x ≡ false) (sym q) (removed_lacks first.removed)))
              (λ n. let o = p.only k (w.only k h n) in (o.0, removed_other first.removed k n ∙ o.1));
        }

    -- it is stuck, and no class was seen at first
    next_stuck : was ≡ 2 ^ 64 - 1 → not b ≡ true → (f : ℕ → ℕ) → Assignment (in_mask groups) (suits edges) f → ⊥
    next_stuck all d f s =
        none_closed (in_mask groups) (suits edges) f (class_at at) s seen g
        (λ c u. seen_below c u) known (covered g known k.own) (λ c u. inside c u (blocked c u))
      where
        k : Stuck edges at at' free free' was now g
        k = a.failure (not-true b d)

        seen : ℕ → Bool
        seen c = ltb c 64 && not (has_bit now c)

        seen_below : (c : ℕ) → seen c ≡ true → c < 64
        seen_below c t = ltb-true c 64 (and_left (ltb c 64) (not (has_bit now c)) t)

        -- a group all of whose classes are seen has its class there
        covered : (h : ℕ) → in_mask groups h ≡ true → ((c : ℕ) → suits edges h c ≡ true → has_bit now c ≡ false) → seen (f h) ≡ true
        covered h m own = rw (lt-ltb (f h) 64 (suits_below edges h (f h) (s.along h m)), own (f h) (s.along h m)) refl

        blocked : (c : ℕ) → seen c ≡ true → Blocked edges at now c
        blocked c t =
            k.tried.blocked c (subst (λ (x : ℕ). has_bit x c ≡ true) (sym all) (full_has 64 c (seen_below c t))) (not-true (has_bit now c) (and_right (ltb c 64) (not (has_bit now c)) t))

        inside : (c : ℕ) → seen c ≡ true → Blocked edges at now c → Inside (in_mask groups) (suits edges) f (class_at at) s seen g c
        inside c t k =
            let m : c < 64 = seen_below c t in
            let q : class_at at k.who ≡ c = k.has in
            let o : (in_mask groups k.who ≡ true) × (has_bit rest k.who ≡ false) = p.only k.who (omega arith) in
            record {
              who = k.who;
              has = k.has;
              known = o.0;
              inside = covered k.who o.0 k.all;
              other = λ u. let i : class_at at g ≡ 64 = idle in let v : class_at at k.who ≡ class_at at g = ap (class_at at) u in omega arith;
            }

    pub next_none : was ≡ 2 ^ 64 - 1 → not b ≡ true → {f : ℕ → ℕ} → Covers (in_mask groups) (suits edges) false f
    next_none all d = record { sound = λ u. true-false u refl; complete = λ u. next_stuck all d }

-- every group has got a class
pub partial_all : {edges : List ℕ} {groups : ℕ} {at : List ℕ} {free rest : ℕ} → Partial edges groups at free rest → rest ≡ 0
    → Covers (in_mask groups) (suits edges) true (class_at at)
partial_all {rest = rest} p e = record {
  sound = λ t. record {
    along = λ k m. p.held.along k (p.placed k m (zero_empty rest e k));
    apart = λ k h m n q. p.held.apart k h (p.placed k m (zero_empty rest e k)) q;
  };
  complete = λ t. true-false refl t;
}
