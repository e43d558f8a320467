-- Two chains whose cards are alike are walked alike. Assumes nothing.
use mathlib.Core.Bool.{Bool, true, false, not, cond, ◌||◌}
use mathlib.Core.List.{List, [], ◌∷◌, ◌++◌}
use mathlib.Core.Path.{◌≡◌, refl, sym, ◌∙◌, ap}
use Prim.Native.Nat.{ℕ, zero, suc, ◌<◌}
use native.Mathlib.Omega.{arith}
use lib.Dec.{eqb, leb}
use borrow.Author.Tests.{eqb-false}
use Rattle.bits.specs.Member.{member}
use Rattle.bits.proofs.Below.{by_cases}
use Rattle.card.specs.Refusals.{index_fault}
use Rattle.chain.specs.Walk.{Walked, listed, refused, Chain, first_fault, fault_at, meet, walk}

-- the chains of two files with as many cards: every card but the header is of the same kind, in the same order and with the same next one
pub record AlikeChains (k k' : Chain) : Type 0 where
  pub cards : k.cards ≡ k'.cards
  pub mine : (c : ℕ) → 0 < c → k.mine c ≡ k'.mine c
  pub fields : (c : ℕ) → 0 < c → k.fields c ≡ k'.fields c
  pub next : (c : ℕ) → 0 < c → k.next c ≡ k'.next c
  pub before : (c : ℕ) → k.before c ≡ k'.before c

-- what index i on card h leads to where it does not end the chain: of the number of cards, the fault of card i and the rest
abbrev onward : ℕ → ℕ → ℕ → ℕ → Walked → Walked
onward h i n f rest = cond (leb n i) (refused index_fault h) (cond (eqb f 0) rest (refused f i))

module _ {k k' : Chain} (a : AlikeChains k k') where
  fault_alike : (full : Bool) (acc : List ℕ) (i : ℕ) → 0 < i → fault_at k full acc i ≡ fault_at k' full acc i
  fault_alike full acc i l = λ t. first_fault (a.before i t || member acc i) full (not (a.mine i l t)) (not (a.fields i l t))

  meet_alike : (full : Bool) (acc : List ℕ) (h i : ℕ) (rest rest' : Walked) → (0 < i → rest ≡ rest') → meet k full acc h i rest ≡ meet k' full acc h i rest'
  meet_alike full acc h i rest rest' e =
      by_cases (eqb i 0)
      (λ z. ap (λ (b : Bool). cond b (listed acc) (onward h i k.cards (fault_at k full acc i) rest)) z
      ∙ sym (ap (λ (b : Bool). cond b (listed acc) (onward h i k'.cards (fault_at k' full acc i) rest')) z))
      (λ z.
      let l : 0 < i = let n = eqb-false i 0 z in omega arith in
      λ t. cond (eqb i 0) (listed acc) (onward h i (a.cards t) (fault_alike full acc i l t) (e l t)))

  pub walk_alike : (room : ℕ) (acc : List ℕ) (h i : ℕ) → walk k room acc h i ≡ walk k' room acc h i
  unfolding walk
  walk_alike zero acc h i = meet_alike true acc h i (listed acc) (listed acc) (λ l. refl)
  walk_alike (suc room) acc h i =
      meet_alike false acc h i (walk k room (acc ++ i ∷ []) i (k.next i)) (walk k' room (acc ++ i ∷ []) i (k'.next i))
      (λ l. walk_alike room (acc ++ i ∷ []) i (k.next i) ∙ ap (walk k' room (acc ++ i ∷ []) i) (a.next i l))
