-- What walking a chain of cards finds, over any cards: the chain's cards in order, or one refusal with the card concerned.
-- Assumes nothing.
use Rattle.std.specs.Prelude.{Bool, true, false, not, cond, ◌||◌, List, [], ◌∷◌, ◌++◌, ℕ, zero, suc, eqb, leb}
use Rattle.bits.specs.Member.{member}
use Rattle.card.specs.Refusals.{index_fault, reached_fault, kind_fault, field_fault, count_fault}

pub data Walked : Type 0 where
  listed : List ℕ → Walked
  refused : ℕ → ℕ → Walked

-- A chain as its walk sees it.
pub record Chain : Type 0 where
  -- how many cards the file has
  pub cards : ℕ
  -- the card is of the chain's kind
  pub mine : ℕ → Bool
  -- the card's fields are in order
  pub fields : ℕ → Bool
  -- the index of the card after it
  pub next : ℕ → ℕ
  -- the card was reached on an earlier chain
  pub before : ℕ → Bool

-- "At each card 5 (for the index leading to it), 6, 9, 7, 8": the four that are the card's own, 0 for none
unfoldable pub first_fault : Bool → Bool → Bool → Bool → ℕ
first_fault reached full other bad =
    cond reached reached_fault (cond full count_fault (cond other kind_fault (cond bad field_fault 0)))

-- the fault of card i where the chain has taken the cards acc, and room for no more where full says so
abbrev pub fault_at : Chain → Bool → List ℕ → ℕ → ℕ
fault_at k full acc i = first_fault (k.before i || member acc i) full (not (k.mine i)) (not (k.fields i))

-- what index i on card h leads to: the chain's end, a refusal, or the rest of the chain
abbrev pub meet : Chain → Bool → List ℕ → ℕ → ℕ → Walked → Walked
meet k full acc h i rest =
    cond (eqb i 0) (listed acc)
    (cond (leb k.cards i) (refused index_fault h)
    (cond (eqb (fault_at k full acc i) 0) rest (refused (fault_at k full acc i) i)))

-- The walk from index i, which card h holds: room is how many cards the chain may still take, acc those that it has taken. With no room
-- left every card is a fault, so the walk does not go on.
unfoldable pub walk : Chain → ℕ → List ℕ → ℕ → ℕ → Walked
walk k zero acc h i = meet k true acc h i (listed acc)
walk k (suc room) acc h i = meet k false acc h i (walk k room (acc ++ i ∷ []) i (k.next i))
