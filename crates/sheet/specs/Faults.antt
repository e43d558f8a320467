-- What each refusal 3 to 12 says of a sheet and of the card that it names, in the words of paper 01: by what the cards hold and where their
-- indices lead. Nothing here walks, marks or tests in an order. Assumes nothing.
use Rattle.std.specs.Prelude.{true, List, ◌⊎◌, ◌≡◌, ℕ, zero, suc, ◌/◌, ◌%◌, ◌<◌, ◌≤◌, length}
use Rattle.bits.specs.Word.{has_bit}
use Rattle.card.specs.Layout.{card_byte, card_word, kind_of, next_of, header_kind, person_kind, step_kind, rule_kind_lem}
use Rattle.card.specs.Fields.{version_of, levels_byte, class_levels, levels_in, first_person, first_step_lem, first_rule, tag_of, class_of, permitted_of, skipped_of, rule_kind_of, level_of, limit_of, scope_of, scope_size}
use Rattle.card.specs.Refusals.{length_fault, header_fault, index_fault, reached_fault, kind_fault, field_fault, count_fault, tag_fault, class_fault, loose_fault}

-- "the number of cards in the file", "the length / 16"
abbrev pub cards_in : List ℕ → ℕ
cards_in s = length s / 16

-- ---- the chains, by their indices

-- "people, steps, rules chain"
pub data ChainName : Type 0 where
  peopleChain stepsChain rulesChain : ChainName

-- the place of a chain among the three
abbrev pub rank : ChainName → ℕ
rank peopleChain = 0
rank stepsChain = 1
rank rulesChain = 2

-- "bytes 4-5, 6-7 and 8-9 are the first person, step and rule"
abbrev pub first_index : List ℕ → ChainName → ℕ
first_index s peopleChain = first_person s
first_index s stepsChain = first_step_lem s
first_index s rulesChain = first_rule s

-- "2 person, 3 step, 4 rule"
abbrev pub kind_along : ChainName → ℕ
kind_along peopleChain = person_kind
kind_along stepsChain = step_kind
kind_along rulesChain = rule_kind_lem

-- "64 people, 12 steps or 64 rules"
abbrev pub most_along : ChainName → ℕ
most_along peopleChain = 64
most_along stepsChain = 12
most_along rulesChain = 64

-- the indices of a chain, counted from 0: the header holds the first, and each card the one after its own. "Bytes 2 and 3 are the index of
-- the next card on the chain"
unfoldable pub index_at : List ℕ → ChainName → ℕ → ℕ
index_at s k zero = first_index s k
index_at s k (suc j) = next_of s (index_at s k j)

-- the card that holds index j of a chain
abbrev pub holder_at : List ℕ → ChainName → ℕ → ℕ
holder_at s k zero = 0
holder_at s k (suc j) = index_at s k j

-- the first j indices of a chain lead to cards: none is zero, which "ends it", and each is below the number of cards
abbrev pub LeadsUpTo : List ℕ → ChainName → ℕ → Type 0
LeadsUpTo s k j = (i : ℕ) → i < j → (0 < index_at s k i) × (index_at s k i < cards_in s)

-- the chain comes to card c by its index j
pub record ComesTo (s : List ℕ) (k : ChainName) (j c : ℕ) : Type 0 where
  pub index : index_at s k j ≡ c
  pub leads : LeadsUpTo s k (suc j)

-- the chain has n cards and ends there
pub record EndsAfter (s : List ℕ) (k : ChainName) (n : ℕ) : Type 0 where
  pub leads : LeadsUpTo s k n
  pub ends : index_at s k n ≡ 0

-- index i of one chain comes before index j of the same or of another
abbrev pub IndexBefore : ChainName → ℕ → ChainName → ℕ → Type 0
IndexBefore k i l j = (rank k < rank l) ⊎ ((k ≡ l) × (i < j))

-- ---- the cards as they should be

-- "Header, card 0: byte 1 is 1, next is 0; .. bytes 10-11 the number of cards in the file." "Bytes not named below are zero." "In a version 2
-- sheet (header byte 1 is 2) header byte 12 gives the number of class levels above the person, 1 to 3"
pub record HeaderInOrder (s : List ℕ) : Type 0 where
  pub kind : kind_of s 0 ≡ header_kind
  pub version : ((version_of s ≡ 1) × (levels_byte s ≡ 0)) ⊎ ((version_of s ≡ 2) × (1 ≤ levels_byte s) × (levels_byte s ≤ 3))
  pub next : next_of s 0 ≡ 0
  pub cards : card_word s 0 10 ≡ cards_in s
  pub unnamed : (b : ℕ) → 13 ≤ b → b < 16 → card_byte s 0 b ≡ 0

-- "Tag, shop and bench are not zero. The permitted set may be empty." "A person's permitted bits 12 to 15 are tested on the card; bits not
-- below the number of steps .. when the step chain has ended with at least one step" "bytes 8-9, 10-11 and 14-15 of a person card, not zero
-- where used, zero where not"
pub record PersonInOrder (s : List ℕ) (c : ℕ) : Type 0 where
  pub tag : 0 < tag_of s c
  pub used : (q : ℕ) → 1 ≤ q → q ≤ class_levels s → 0 < class_of s q c
  pub unused : (q : ℕ) → class_levels s < q → q ≤ 3 → class_of s q c ≡ 0
  pub permitted : (b : ℕ) → has_bit (permitted_of s c) b ≡ true → b < 12
  pub steps : (n : ℕ) → EndsAfter s stepsChain n → 0 < n → (b : ℕ) → has_bit (permitted_of s c) b ≡ true → b < n
  pub second : card_byte s c 1 ≡ 0

-- "Step: bytes 4-7 tag, not zero." "Byte 1 of a step card may be 1, skipped."
pub record StepInOrder (s : List ℕ) (c : ℕ) : Type 0 where
  pub tag : 0 < tag_of s c
  pub skipped : (skipped_of s c ≡ 0) ⊎ (skipped_of s c ≡ 1)
  pub unnamed : (b : ℕ) → 8 ≤ b → b < 16 → card_byte s c b ≡ 0

-- the limit that a kind of rule may have with so many steps in scope
abbrev pub LimitInOrder : ℕ → ℕ → ℕ → Type 0
LimitInOrder zero limit size = ⊥
-- "Kind 1, same: two steps in scope, limit 0"
LimitInOrder (suc zero) limit size = (size ≡ 2) × (limit ≡ 0)
-- "Kind 2, different: two steps in scope, limit 0"
LimitInOrder (suc (suc zero)) limit size = (size ≡ 2) × (limit ≡ 0)
-- "Kind 3, at most: two or more steps, limit 1 to the number of steps in scope"
LimitInOrder (suc (suc (suc zero))) limit size = (2 ≤ size) × (1 ≤ limit) × (limit ≤ size)
-- "Kind 4, at least: as kind 3"
LimitInOrder (suc (suc (suc (suc zero)))) limit size = (2 ≤ size) × (1 ≤ limit) × (limit ≤ size)
-- "Rule kind 5 ..: two or more steps, limit 1 to that number"
LimitInOrder (suc (suc (suc (suc (suc zero))))) limit size = (2 ≤ size) × (1 ≤ limit) × (limit ≤ size)
LimitInOrder (suc (suc (suc (suc (suc (suc n)))))) limit size = ⊥

-- "Rule: byte 1 rule kind 1 to 4; byte 4 level 1 to 3; byte 5 limit; bytes 6-7 scope, bit j for step j; bits not below the number of steps are
-- zero, or this card gets 8." "Rule kind 5, in both versions". "The person is the level after the last, and the highest a rule may name"
pub record RuleInOrder (s : List ℕ) (c : ℕ) : Type 0 where
  pub limit : LimitInOrder (rule_kind_of s c) (limit_of s c) (scope_size (scope_of s c))
  pub level_from : 1 ≤ level_of s c
  pub level_to : level_of s c ≤ levels_in s
  pub scope : (n : ℕ) → EndsAfter s stepsChain n → (b : ℕ) → has_bit (scope_of s c) b ≡ true → b < n
  pub unnamed : (b : ℕ) → 8 ≤ b → b < 16 → card_byte s c b ≡ 0

-- a card of a chain
abbrev pub InOrder : List ℕ → ChainName → ℕ → Type 0
InOrder s peopleChain c = PersonInOrder s c
InOrder s stepsChain c = StepInOrder s c
InOrder s rulesChain c = RuleInOrder s c

-- ---- the faults

-- "3: length zero, no multiple of 16, or above 2,256. Card 0."
pub record WrongLength (s : List ℕ) (c : ℕ) : Type 0 where
  pub card : c ≡ 0
  pub wrong : (length s ≡ 0) ⊎ ((length s % 16 ≡ 0 → ⊥) ⊎ (2256 < length s))

-- "4: header not as above; card number not the length / 16. Card 0."
pub record WrongHeader (s : List ℕ) (c : ℕ) : Type 0 where
  pub card : c ≡ 0
  pub wrong : HeaderInOrder s → ⊥

-- "5: an index not below the number of cards. The card that holds it."
pub record IndexTooHigh (s : List ℕ) (c : ℕ) : Type 0 where
  pub chain : ChainName
  pub number : ℕ
  pub leads : LeadsUpTo s chain number
  pub some : 0 < index_at s chain number
  pub high : cards_in s ≤ index_at s chain number
  pub card : c ≡ holder_at s chain number

-- an index before index j of the chain leads to card c
pub record Reached (s : List ℕ) (k : ChainName) (j c : ℕ) : Type 0 where
  pub chain : ChainName
  pub number : ℕ
  pub came : ComesTo s chain number c
  pub earlier : IndexBefore chain number k j

-- "6: a chain comes to a card already reached. That card."
pub record ReachedBefore (s : List ℕ) (c : ℕ) : Type 0 where
  pub chain : ChainName
  pub number : ℕ
  pub comes : ComesTo s chain number c
  pub reached : Reached s chain number c
  -- the first such card of the chain
  pub first : (i : ℕ) → i < number → Reached s chain i (index_at s chain i) → ⊥

-- "7: a card of another kind than its chain. That card."
pub record OtherKind (s : List ℕ) (c : ℕ) : Type 0 where
  pub chain : ChainName
  pub number : ℕ
  pub comes : ComesTo s chain number c
  pub other : kind_of s c ≡ kind_along chain → ⊥

-- "8: a field outside its values, or an unnamed byte of a person, step or rule card that is not zero. That card."
pub record WrongField (s : List ℕ) (c : ℕ) : Type 0 where
  pub chain : ChainName
  pub number : ℕ
  pub comes : ComesTo s chain number c
  pub kind : kind_of s c ≡ kind_along chain
  pub wrong : InOrder s chain c → ⊥

-- "9: no people or no steps (card 0)"
pub record NoneAlong (s : List ℕ) (c : ℕ) : Type 0 where
  pub card : c ≡ 0
  pub none : (first_person s ≡ 0) ⊎ (first_step_lem s ≡ 0)

-- "or more than 64 people, 12 steps or 64 rules (the first card too many)": so many people, steps or rules come before it on the chain, and none of
-- them, nor the card, was reached before
pub record TooMany (s : List ℕ) (c : ℕ) : Type 0 where
  pub chain : ChainName
  pub comes : ComesTo s chain (most_along chain) c
  pub kinds : (i : ℕ) → i < most_along chain → kind_of s (index_at s chain i) ≡ kind_along chain
  pub new : (i : ℕ) → i ≤ most_along chain → Reached s chain i (index_at s chain i) → ⊥

-- the chain comes to card c by its index j, and came to another card before that clashes with it; both are of the chain's kind
pub record Clashes (s : List ℕ) (k : ChainName) (clash : ℕ → ℕ → Type 0) (j c : ℕ) : Type 0 where
  pub comes : ComesTo s k j c
  pub kind : kind_of s c ≡ kind_along k
  pub earlier_number : ℕ
  pub earlier_card : ℕ
  pub earlier : earlier_number < j
  pub came : ComesTo s k earlier_number earlier_card
  pub earlier_kind : kind_of s earlier_card ≡ kind_along k
  pub another : earlier_card ≡ c → ⊥
  pub clashing : clash earlier_card c

-- c is the first such card along the chain
pub record FirstClashing (s : List ℕ) (k : ChainName) (clash : ℕ → ℕ → Type 0) (c : ℕ) : Type 0 where
  pub number : ℕ
  pub clashes : Clashes s k clash number c
  pub first : (j d : ℕ) → j < number → Clashes s k clash j d → ⊥

-- "10: a tag on two people or on two steps. The first card along the chain whose tag stood earlier on it."
abbrev pub SameTags : List ℕ → ℕ → ℕ → Type 0
SameTags s a c = tag_of s a ≡ tag_of s c

abbrev pub TagTwice : List ℕ → ℕ → Type 0
TagTwice s c = FirstClashing s peopleChain (SameTags s) c ⊎ FirstClashing s stepsChain (SameTags s) c

-- "11: a bench in two shops. The first person whose bench stood earlier with another shop." "Refusal 11 covers any class lying in two classes
-- of the level above (the first person in crew order to show it)": two people share a class of some class level, and not that above it
pub record SameClassOtherAbove (s : List ℕ) (a c : ℕ) : Type 0 where
  pub above : ℕ
  pub from : 1 ≤ above
  pub below : suc above ≤ class_levels s
  pub same : class_of s (suc above) a ≡ class_of s (suc above) c
  pub other : class_of s above a ≡ class_of s above c → ⊥

abbrev pub ClassInTwo : List ℕ → ℕ → Type 0
ClassInTwo s c = FirstClashing s peopleChain (SameClassOtherAbove s) c

-- "12: a card on no chain. The lowest."
pub record OnNoChain (s : List ℕ) (c : ℕ) : Type 0 where
  pub some : 0 < c
  pub inside : c < cards_in s
  pub none : (k : ChainName) (j : ℕ) → ComesTo s k j c → ⊥
  pub lowest : (d : ℕ) → 0 < d → d < c → (k : ChainName) × (j : ℕ) × ComesTo s k j d

-- the sheet has the fault of refusal f at card c
pub data Fault (s : List ℕ) (f c : ℕ) : Type 0 where
  wrong_length : f ≡ length_fault → WrongLength s c → Fault s f c
  wrong_header : f ≡ header_fault → WrongHeader s c → Fault s f c
  index_too_high : f ≡ index_fault → IndexTooHigh s c → Fault s f c
  reached_before : f ≡ reached_fault → ReachedBefore s c → Fault s f c
  other_kind : f ≡ kind_fault → OtherKind s c → Fault s f c
  wrong_field : f ≡ field_fault → WrongField s c → Fault s f c
  none_along : f ≡ count_fault → NoneAlong s c → Fault s f c
  too_many : f ≡ count_fault → TooMany s c → Fault s f c
  tag_twice : f ≡ tag_fault → TagTwice s c → Fault s f c
  class_in_two : f ≡ class_fault → ClassInTwo s c → Fault s f c
  on_no_chain : f ≡ loose_fault → OnNoChain s c → Fault s f c
