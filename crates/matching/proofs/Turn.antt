-- One turn of a search for a class for group g: a class is taken that was not seen, and its holder, if it has one, is given another
-- or is stuck. Assumes nothing.
use mathlib.Core.Bool.{Bool, true, false}
use mathlib.Core.Path.{◌≡◌, refl, sym, subst, subst₂}
use mathlib.Core.List.{List}
use Rattle.std.specs.Prelude.{Some, None}
use Prim.Native.Nat.{ℕ, ◌+◌, ◌*◌, ◌≤◌, ◌<◌, ◌^◌}
use native.Mathlib.Omega.{arith}
use lib.Bits.{bit_and}
use lib.Dec.{ltb}
use lib.ListN.{get_or, set}
use borrow.Author.Tests.{lt-ltb}
use Rattle.bits.specs.Word.{has_bit}
use Rattle.bits.specs.Set.{Removed, Lowest}
use Rattle.bits.proofs.Below.{true-false, and_right}
use Rattle.bits.proofs.SetLaws.{and-bit_left, and-bit_right, and_apart, part_le, removed_less}
use Rattle.matching.specs.Assignment.{suits}
use Rattle.matching.specs.State.{Holder, Unserved, AllBlocked, Grown, Crowded, Stuck, Searching, Placement}
use Rattle.matching.proofs.Laws.{grown_free, grown_unheld}
use Rattle.matching.proofs.Displace.{Displacing, displaced, displaced_ready, displaced_grown, restored, blocked_more}

-- the classes that suit g, as a mask
abbrev pub mask : List ℕ → ℕ → ℕ
mask edges g = get_or edges g 0

suits_of : (edges : List ℕ) (g c : ℕ) → c < 64 → has_bit (mask edges g) c ≡ true → suits edges g c ≡ true
suits_of edges g c l h = rw (lt-ltb c 64 l) h

suits-bit : (edges : List ℕ) (g c : ℕ) → suits edges g c ≡ true → has_bit (mask edges g) c ≡ true
suits-bit edges g c h = and_right (ltb c 64) (has_bit (mask edges g) c) h

won : {edges at at' : List ℕ} {free free' was now g : ℕ} → Grown edges at at' free' g → Placement edges at at' free free' was now g true
won w = record { success = λ e. w; failure = λ e. true-false refl e }

-- a free class is given
pub turn_free : {edges at : List ℕ} {free free' was g class : ℕ} → Unserved edges at free g
    → (class < 64) × Lowest (bit_and (mask edges g) free) class → Removed free class free'
    → Placement edges at (set at g class) free free' was was g true
turn_free {edges} {at} {free} {free'} {was} {g} {class} r (l, low) gone =
    won (grown_free r l (suits_of edges g class l (and-bit_left (mask edges g) free class low.has))
    (and-bit_right (mask edges g) free class low.has) gone)

-- no class of g's is free
pub turn_crowded : {edges at : List ℕ} {free g : ℕ} → Unserved edges at free g → bit_and (mask edges g) free ≡ 0 → Crowded edges at free g
turn_crowded {edges} {at} {free} {g} r e = record { ready = r; spent = λ c t. and_apart (mask edges g) free c e (suits-bit edges g c t) }

-- no class of g's is left: the search has failed
pub turn_last : {edges at at' : List ℕ} {free free' was now g : ℕ} → Searching edges at at' free free' was now g
    → bit_and (mask edges g) now ≡ 0 → Placement edges at at' free free' was now g false
turn_last {edges} {at} {at'} {free} {free'} {was} {now} {g} s e = record {
  success = λ f. true-false f refl;
  failure = λ f. record {
    same = s.same;
    unspent = s.unspent;
    tried = subst (λ (x : List ℕ). AllBlocked edges x was now) s.same s.tried;
    own = λ c t. and_apart (mask edges g) now c e (suits-bit edges g c t);
  };
}

-- what is known once a class is taken
pub record Turn (edges at₀ at : List ℕ) (free₀ free was now now' g class : ℕ) : Type 0 where
  pub search : Searching edges at₀ at free₀ free was now g
  pub fits : now < 2 ^ 64
  pub low : (class < 64) × Lowest (bit_and (mask edges g) now) class
  pub gone : Removed now class now'

pub turn_of : {edges at₀ at : List ℕ} {free₀ free was now now' g class : ℕ} → Searching edges at₀ at free₀ free was now g → now < 2 ^ 64
    → (class < 64) × Lowest (bit_and (mask edges g) now) class → Removed now class now'
    → Turn edges at₀ at free₀ free was now now' g class
turn_of s f l r = record { search = s; fits = f; low = l; gone = r }

module _ {edges at₀ at : List ℕ} {free₀ free was now now' g class : ℕ} (t : Turn edges at₀ at free₀ free was now now' g class) where
  suit : suits edges g class ≡ true
  suit = suits_of edges g class t.low.0 (and-bit_left (mask edges g) now class t.low.1.has)

  unseen : has_bit now class ≡ true
  unseen = and-bit_right (mask edges g) now class t.low.1.has

  displacing : {h : ℕ} → Holder at class (Some h) → Displacing edges at free g h class
  displacing m = record { ready = t.search.crowded.ready; small = t.low.0; below = m.0; has = m.1 }

  since : {at' : List ℕ} {free' now'' : ℕ} → Grown edges at at' free' g → Placement edges at₀ at' free₀ free' was now'' g true
  since {at'} {free'} w = won (subst (λ (x : List ℕ). Grown edges x at' free' g) t.search.same w)

  -- nobody has the class
  pub turn_unheld : Holder at class None → Placement edges at₀ (set at g class) free₀ free was now' g true
  turn_unheld o = since (grown_unheld t.search.crowded.ready t.low.0 suit (t.search.crowded.spent class suit) o)

  -- the holder is to get another
  pub turn_ready : {h : ℕ} → Holder at class (Some h) → Unserved edges (displaced at g h class) free h
  turn_ready m = displaced_ready (displacing m) suit

  pub turn_below : {n : ℕ} → 2 * was ≡ n → 2 * now' + 1 < n
  turn_below e =
      let p : now' < now = removed_less unseen t.gone in
      let q : now ≤ was = part_le now was t.search.tried.shrunk in omega arith

  module _ {at' : List ℕ} {free' now'' h : ℕ} {b : Bool} (a : Placement edges (displaced at g h class) at' free free' now' now'' h b) where
    -- it has got one
    pub turn_won : Holder at class (Some h) → b ≡ true → Placement edges at₀ at' free₀ free' was now'' g true
    turn_won m e = since (displaced_grown (displacing m) (a.success e))

    -- it is stuck
    pub turn_lost : Holder at class (Some h) → b ≡ false → Searching edges at₀ (set (set at' h class) g 64) free₀ free' was now'' g
    turn_lost m f =
        let k : Stuck edges (displaced at g h class) at' free free' now' now'' h = a.failure f in
        let s : Searching edges at₀ at free₀ free was now g = t.search in
        subst₂ (λ (x : List ℕ) (y : ℕ). Searching edges at₀ x free₀ y was now'' g)
        (sym (restored (displacing m) k.same)) (sym k.unspent) record {
          same = s.same;
          unspent = s.unspent;
          crowded = s.crowded;
          tried = blocked_more (displacing m) t.fits s.tried unseen t.gone k.tried k.own;
        }

    pub turn_less : b ≡ false → now'' < now
    turn_less f =
        let p : now' < now = removed_less unseen t.gone in
        let q : now'' ≤ now' = part_le now'' now' (a.failure f).tried.shrunk in omega arith
