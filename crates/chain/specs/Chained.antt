-- What a list of cards is when it is a whole chain, and where and why a chain's walk stops otherwise. Assumes nothing.
use Rattle.std.specs.Prelude.{true, false, ◌||◌, List, [], ◌∷◌, ◌++◌, ◌≡◌, ℕ, ◌+◌, ◌<◌, ◌≤◌, length, get_or}
use Rattle.bits.specs.Member.{member}
use Rattle.card.specs.Refusals.{index_fault, reached_fault, kind_fault, field_fault, count_fault}
use Rattle.chain.specs.Walk.{Chain}

-- l is the chain from index first on, of at most most cards: index 0 ends it, and `get_or l j 0` is card j of the chain, and 0 past its end
pub record Chained (k : Chain) (most first : ℕ) (l : List ℕ) : Type 0 where
  pub short : length l ≤ most
  -- the first index leads to the first card, each card to the next one, and the last card to the end
  pub starts : get_or l 0 0 ≡ first
  pub linked : (j : ℕ) → j < length l → get_or l (j + 1) 0 ≡ k.next (get_or l j 0)
  -- each card is one of the file, and not the header
  pub some : (j : ℕ) → j < length l → 0 < get_or l j 0
  pub inside : (j : ℕ) → j < length l → get_or l j 0 < k.cards
  -- no card is there twice or on an earlier chain
  pub apart : (i j : ℕ) → i < j → j < length l → get_or l i 0 ≡ get_or l j 0 → ⊥
  pub fresh : (j : ℕ) → j < length l → k.before (get_or l j 0) ≡ false
  -- each is of the chain's kind, with its fields in order
  pub mine : (j : ℕ) → j < length l → k.mine (get_or l j 0) ≡ true
  pub fields : (j : ℕ) → j < length l → k.fields (get_or l j 0) ≡ true

-- acc has the cards of the chain so far, and index i comes next
pub record Upto (k : Chain) (first : ℕ) (acc : List ℕ) (i : ℕ) : Type 0 where
  pub starts : get_or (acc ++ i ∷ []) 0 0 ≡ first
  pub linked : (j : ℕ) → j < length acc → get_or (acc ++ i ∷ []) (j + 1) 0 ≡ k.next (get_or acc j 0)
  pub some : (j : ℕ) → j < length acc → 0 < get_or acc j 0
  pub inside : (j : ℕ) → j < length acc → get_or acc j 0 < k.cards
  pub apart : (j : ℕ) → j < length acc → (i : ℕ) → i < j → get_or acc i 0 ≡ get_or acc j 0 → ⊥
  pub fresh : (j : ℕ) → j < length acc → k.before (get_or acc j 0) ≡ false
  pub mine : (j : ℕ) → j < length acc → k.mine (get_or acc j 0) ≡ true
  pub fields : (j : ℕ) → j < length acc → k.fields (get_or acc j 0) ≡ true

-- the card that holds the index after these cards: the last of them, and the header where there is none
abbrev pub holder_in : List ℕ → ℕ
holder_in acc = get_or (0 ∷ acc) (length acc) 0

-- why the walk stops at index i, after the cards acc, with refusal f and card c
pub data StopsAt (k : Chain) (most : ℕ) (acc : List ℕ) (i f c : ℕ) : Type 0 where
  at_index : f ≡ index_fault → c ≡ holder_in acc → k.cards ≤ i → StopsAt k most acc i f c
  at_reached : f ≡ reached_fault → c ≡ i → i < k.cards → (k.before i || member acc i) ≡ true → StopsAt k most acc i f c
  at_count : f ≡ count_fault → c ≡ i → i < k.cards → length acc ≡ most → k.before i ≡ false → member acc i ≡ false → StopsAt k most acc i f c
  at_kind : f ≡ kind_fault → c ≡ i → i < k.cards → k.mine i ≡ false → StopsAt k most acc i f c
  at_fields : f ≡ field_fault → c ≡ i → i < k.cards → k.mine i ≡ true → k.fields i ≡ false → StopsAt k most acc i f c

-- a walk from index first on, for at most most cards, stops with refusal f and card c
pub record Stopped (k : Chain) (most first f c : ℕ) : Type 0 where
  pub taken : List ℕ
  pub index : ℕ
  pub some : 0 < index
  pub upto : Upto k first taken index
  pub why : StopsAt k most taken index f c
