-- Reading a sheet, in the order of the papers: length, header, people chain, steps chain, late permitted bits, rules chain, tags, classes,
-- loose cards. "The first found is given." Assumes nothing.
use Rattle.std.specs.Prelude.{Bool, false, not, cond, ◌&&◌, ◌||◌, List, [], ℕ, suc, ◌-◌, ◌/◌, ◌%◌, eqb, leb, ltb, length, get_or}
use Rattle.bits.specs.Below.{any, first}
use Rattle.bits.specs.Member.{member}
use Rattle.card.specs.Layout.{person_kind, step_kind, rule_kind_lem}
use Rattle.card.specs.Fields.{header_ok, class_levels, first_person, first_step_lem, first_rule, tag_of, class_of, permitted_of, nonzero, only_below_lem}
use Rattle.card.specs.Refusals.{length_fault, header_fault, field_fault, count_fault, tag_fault, class_fault, loose_fault}
use Rattle.chain.specs.Walk.{Walked, listed, refused, walk}
use Rattle.chain.specs.Answer.{chain_of}

-- "1 to 64 people, 1 to 12 steps, 0 to 64 rules, so at most 141 cards or 2,256 bytes."
abbrev pub most_people : ℕ
most_people = 64

abbrev pub most_steps : ℕ
most_steps = 12

abbrev pub most_rules : ℕ
most_rules = 64

abbrev pub most_bytes : ℕ
most_bytes = 2256

-- what reading gives: the cards of the people, steps and rules, each along its chain, or a refusal and its card
pub data Read : Type 0 where
  job : List ℕ → List ℕ → List ℕ → Read
  fault : ℕ → ℕ → Read

-- go on with a chain's cards
abbrev pub along : Walked → (List ℕ → Read) → Read
along (listed l) next = next l
along (refused f c) next = fault f c

-- refuse where the test says so
abbrev pub unless : Bool → ℕ → ℕ → Read → Read
unless t f c next = cond t (fault f c) next

abbrev pub length_ok : ℕ → Bool
length_ok n = nonzero n && eqb (n % 16) 0 && leb n most_bytes

abbrev pub is_empty : List ℕ → Bool
is_empty l = eqb (length l) 0

-- the number of the first of n that clashes with an earlier one, and n where none does
unfoldable pub first_clash : ℕ → (ℕ → ℕ → Bool) → ℕ
first_clash n clash = first n (λ k. any k (λ j. clash j k))

abbrev pub same_tag : List ℕ → List ℕ → ℕ → ℕ → Bool
same_tag s l j k = eqb (tag_of s (get_or l j 0)) (tag_of s (get_or l k 0))

abbrev pub same_class_lem : List ℕ → List ℕ → ℕ → ℕ → ℕ → Bool
same_class_lem s l q j k = eqb (class_of s q (get_or l j 0)) (class_of s q (get_or l k 0))

-- "any class lying in two classes of the level above", over all levels together: at some class level but the first, one class with two above
abbrev pub class_moved : List ℕ → List ℕ → ℕ → ℕ → Bool
class_moved s l j k = any (class_levels s - 1) (λ q. same_class_lem s l (suc (suc q)) j k && not (same_class_lem s l (suc q) j k))

-- "bits not below the number of steps are tested under 8 when the step chain has ended with at least one step, in crew order, before the
-- rules chain": the number of the first person with such a bit
unfoldable pub first_late : List ℕ → ℕ → List ℕ → ℕ
first_late s steps people = first (length people) (λ k. not (only_below_lem steps (permitted_of s (get_or people k 0))))

-- the lowest card of n that is on no chain
unfoldable pub first_loose : ℕ → (ℕ → Bool) → ℕ
first_loose n reached = first n (λ c. not (eqb c 0 || reached c))

-- the card is on one of two chains, on one of three
abbrev pub on_two : List ℕ → List ℕ → ℕ → Bool
on_two people steps c = member people c || member steps c

abbrev pub on_three : List ℕ → List ℕ → List ℕ → ℕ → Bool
on_three people steps rules c = on_two people steps c || member rules c

-- refuse at the card of l whose number i is, where it is the number of one
abbrev pub unless_at : List ℕ → ℕ → ℕ → Read → Read
unless_at l i f next = unless (ltb i (length l)) f (get_or l i 0) next

-- "Then 10 (people, then steps), 11, 12": the sheet s of n cards, with the chains that were read
unfoldable pub checked : List ℕ → ℕ → List ℕ → List ℕ → List ℕ → Read
checked s n people steps rules =
    unless_at people (first_clash (length people) (same_tag s people)) tag_fault
    (unless_at steps (first_clash (length steps) (same_tag s steps)) tag_fault
    (unless_at people (first_clash (length people) (class_moved s people)) class_fault
    (let c : ℕ = first_loose n (on_three people steps rules) in
    unless (ltb c n) loose_fault c (job people steps rules))))

-- the walks of a sheet s of n cards: along the people chain, the steps chain when the people are known, and the rules chain when there
-- are count steps
abbrev pub people_walk : List ℕ → ℕ → Walked
people_walk s n = walk (chain_of s n person_kind 0 (λ c. false)) most_people [] 0 (first_person s)

abbrev pub steps_walk : List ℕ → ℕ → List ℕ → Walked
steps_walk s n people = walk (chain_of s n step_kind 0 (member people)) most_steps [] 0 (first_step_lem s)

abbrev pub rules_walk : List ℕ → ℕ → List ℕ → List ℕ → ℕ → Walked
rules_walk s n people steps count = walk (chain_of s n rule_kind_lem count (on_two people steps)) most_rules [] 0 (first_rule s)

-- what follows the steps chain. "'None' is tested when a chain ends."
unfoldable pub steps_read : List ℕ → ℕ → List ℕ → List ℕ → Read
steps_read s n people steps =
    unless (is_empty steps) count_fault 0
    (unless_at people (first_late s (length steps) people) field_fault
    (along (rules_walk s n people steps (length steps)) (λ rules. checked s n people steps rules)))

-- what follows the people chain
unfoldable pub people_read : List ℕ → ℕ → List ℕ → Read
people_read s n people =
    unless (is_empty people) count_fault 0
    (along (steps_walk s n people) (λ steps. steps_read s n people steps))

-- "Order: 2, 3, 4; people, steps, rules chain."
unfoldable pub read_people : List ℕ → ℕ → Read
read_people s n = along (people_walk s n) (λ people. people_read s n people)

unfoldable pub read_sheet : List ℕ → Read
read_sheet s =
    unless (not (length_ok (length s))) length_fault 0
    (unless (not (header_ok s (length s / 16))) header_fault 0
    (read_people s (length s / 16)))
