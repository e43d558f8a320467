-- What one index of a chain leads to: the end, a fault, or the next card. Assumes nothing.
use mathlib.Core.Bool.{Bool, true, false}
use mathlib.Core.List.{List, [], ◌∷◌, ◌++◌}
use mathlib.Core.Path.{◌≡◌, refl}
use Prim.Native.Nat.{ℕ, zero, suc, ◌<◌, ◌≤◌}
use native.Mathlib.Omega.{arith}
use lib.Dec.{eqb, eqb-suc-zero}
use borrow.Author.Tests.{ne_eqb, eq-eqb, le-leb, lt-leb}
use Rattle.bits.proofs.Below.{true-false}
use Rattle.card.specs.Refusals.{index_fault}
use Rattle.chain.specs.Walk.{listed, refused, Chain, walk, fault_at, first_fault}

module _ (k : Chain) (acc : List ℕ) (h : ℕ) where
  pub walk_end : (room : ℕ) → walk k room acc h 0 ≡ listed acc
  unfolding walk
  walk_end zero = refl
  walk_end (suc room) = refl

  module _ (i : ℕ) (n : i ≡ 0 → ⊥) where
    pub walk_index : (room : ℕ) → k.cards ≤ i → walk k room acc h i ≡ refused index_fault h
    unfolding walk
    walk_index zero l = rw (ne_eqb _ _ n, le-leb _ _ l)
    walk_index (suc room) l = rw (ne_eqb _ _ n, le-leb _ _ l)

    pub walk_fault : (room : ℕ) (full : Bool) → eqb room 0 ≡ full → i < k.cards → (fault_at k full acc i ≡ 0 → ⊥)
        → walk k room acc h i ≡ refused (fault_at k full acc i) i
    unfolding walk
    walk_fault zero true e l f = rw (ne_eqb _ _ n, lt-leb _ _ l, ne_eqb _ _ f)
    walk_fault zero false e l f = true-false refl e
    walk_fault (suc room) true e l f = true-false e (eqb-suc-zero room)
    walk_fault (suc room) false e l f = rw (ne_eqb _ _ n, lt-leb _ _ l, ne_eqb _ _ f)

    pub walk_next : (room : ℕ) → i < k.cards → fault_at k false acc i ≡ 0 → walk k (suc room) acc h i ≡ walk k room (acc ++ i ∷ []) i (k.next i)
    unfolding walk
    walk_next room l f = rw (ne_eqb _ _ n, lt-leb _ _ l, eq-eqb _ _ f)

-- a card without a fault leaves room on the chain
pub fault_full : (reached full other bad : Bool) → first_fault reached full other bad ≡ 0 → full ≡ false
unfolding first_fault
fault_full true full other bad e = absurd (omega arith)
fault_full false true other bad e = absurd (omega arith)
fault_full false false other bad e = refl
