-- The refusals by their numbers, in the paper's words. 1 and 2 are the calling program's, 3 to 12 those of whoever wrote the sheet,
-- 13 that of the job itself, 14 to 16 those of a signing. Assumes nothing.
use Rattle.std.specs.Prelude.{cond, ℕ, eqb}
use Rattle.card.specs.declared.refusal.Fault.{Fault}
use Rattle.card.specs.declared.refusal.Refusal.{Refusal}
use Rattle.card.specs.declared.refusal.Fault.TheVariants.{Short, Cap, Length, Header, Index, Reached, Kind, Field, Count, Tag, Class, Loose, Plan, Unknown, Signed, Ungranted}

-- "1: answer buffer too short (8 × steps for a crew, 16 for spare). Card 0."
abbrev pub short_fault : ℕ
short_fault = 1

-- "2: cap above 3. Card 0."
abbrev pub cap_fault : ℕ
cap_fault = 2

-- "3: length zero, no multiple of 16, or above 2,256. Card 0."
abbrev pub length_fault : ℕ
length_fault = 3

-- "4: header not as above; card number not the length / 16. Card 0."
abbrev pub header_fault : ℕ
header_fault = 4

-- "5: an index not below the number of cards. The card that holds it."
abbrev pub index_fault : ℕ
index_fault = 5

-- "6: a chain comes to a card already reached. That card."
abbrev pub reached_fault : ℕ
reached_fault = 6

-- "7: a card of another kind than its chain. That card."
abbrev pub kind_fault : ℕ
kind_fault = 7

-- "8: a field outside its values, or an unnamed byte of a person, step or rule card that is not zero. That card."
abbrev pub field_fault : ℕ
field_fault = 8

-- "9: no people or no steps (card 0), or more than 64 people, 12 steps or 64 rules (the first card too many)."
abbrev pub count_fault : ℕ
count_fault = 9

-- "10: a tag on two people or on two steps. The first card along the chain whose tag stood earlier on it."
abbrev pub tag_fault : ℕ
tag_fault = 10

-- "11: a bench in two shops. The first person whose bench stood earlier with another shop." "Refusal 11 covers any class lying in two
-- classes of the level above (the first person in crew order to show it)"
abbrev pub class_fault : ℕ
class_fault = 11

-- "12: a card on no chain. The lowest."
abbrev pub loose_fault : ℕ
loose_fault = 12

-- "13: no valid plan with everyone present. Card 0."
abbrev pub plan_fault : ℕ
plan_fault = 13

-- "It refuses with 14 an unknown step or person": from 14 on the card is 0
abbrev pub unknown_fault : ℕ
unknown_fault = 14

-- "with 15 a signed step"
abbrev pub signed_fault : ℕ
signed_fault = 15

-- "with 16 any other signing not granted"
abbrev pub ungranted_fault : ℕ
ungranted_fault = 16

-- the number of a fault
unfoldable pub fault_number : Fault → ℕ
fault_number Short = short_fault
fault_number Cap = cap_fault
fault_number Length = length_fault
fault_number Header = header_fault
fault_number Index = index_fault
fault_number Reached = reached_fault
fault_number Kind = kind_fault
fault_number Field = field_fault
fault_number Count = count_fault
fault_number Tag = tag_fault
fault_number Class = class_fault
fault_number Loose = loose_fault
fault_number Plan = plan_fault
fault_number Unknown = unknown_fault
fault_number Signed = signed_fault
fault_number Ungranted = ungranted_fault

-- the fault of a number; any other number counts as the last one
unfoldable pub fault_numbered : ℕ → Fault
fault_numbered n =
    cond (eqb n short_fault) Short
    (cond (eqb n cap_fault) Cap
    (cond (eqb n length_fault) Length
    (cond (eqb n header_fault) Header
    (cond (eqb n index_fault) Index
    (cond (eqb n reached_fault) Reached
    (cond (eqb n kind_fault) Kind
    (cond (eqb n field_fault) Field
    (cond (eqb n count_fault) Count
    (cond (eqb n tag_fault) Tag
    (cond (eqb n class_fault) Class
    (cond (eqb n loose_fault) Loose
    (cond (eqb n plan_fault) Plan
    (cond (eqb n unknown_fault) Unknown
    (cond (eqb n signed_fault) Signed Ungranted))))))))))))))

-- the refusal of a number and a card
abbrev pub refusal_numbered : ℕ → ℕ → Refusal
refusal_numbered f c = record { fault = fault_numbered f; card = c }
