-- The fields of a header, a person, a step and a rule card, and what they may be. "Bytes not named below are zero." Assumes nothing.
use Rattle.std.specs.Prelude.{Bool, not, cond, ◌&&◌, ◌||◌, List, ℕ, zero, suc, ◌+◌, ◌/◌, ◌^◌, eqb, leb, ltb}
use Rattle.bits.specs.Sizes.{most_class_levels}
use Rattle.bits.specs.Word.{bits_set}
use Rattle.card.specs.Layout.{card_byte, card_word, card_long, kind_of, next_of, header_kind, person_kind, step_kind}

-- x is at least a and at most b
abbrev pub within : ℕ → ℕ → ℕ → Bool
within a b x = leb a x && leb x b

abbrev pub nonzero : ℕ → Bool
nonzero x = not (eqb x 0)

-- the set x, a bit for each step, has no bit from n on
abbrev pub only_below_lem : ℕ → ℕ → Bool
only_below_lem n x = eqb (x / 2 ^ n) 0

-- "Header, card 0: byte 1 is 1, next is 0; bytes 4-5, 6-7 and 8-9 are the first person, step and rule, zero for an empty chain; bytes
-- 10-11 the number of cards in the file." "In a version 2 sheet (header byte 1 is 2) header byte 12 gives the number of class levels above
-- the person, 1 to 3"
abbrev pub version_of : List ℕ → ℕ
version_of s = card_byte s 0 1

abbrev pub levels_byte : List ℕ → ℕ
levels_byte s = card_byte s 0 12

abbrev pub first_person : List ℕ → ℕ
first_person s = card_word s 0 4

abbrev pub first_step_lem : List ℕ → ℕ
first_step_lem s = card_word s 0 6

abbrev pub first_rule : List ℕ → ℕ
first_rule s = card_word s 0 8

-- the version, and byte 12 as it has it: a version 1 sheet does not name it
unfoldable pub form_ok : ℕ → ℕ → Bool
form_ok version levels = (eqb version 1 && eqb levels 0) || (eqb version 2 && within 1 most_class_levels levels)

-- the header of a file of n cards
unfoldable pub header_ok : List ℕ → ℕ → Bool
header_ok s n =
    eqb (kind_of s 0) header_kind
    && form_ok (version_of s) (levels_byte s)
    && eqb (next_of s 0) 0
    && eqb (card_word s 0 10) n
    && eqb (card_byte s 0 13) 0
    && eqb (card_word s 0 14) 0

-- the class levels above the person: in a version 1 sheet shop and bench
unfoldable pub class_levels : List ℕ → ℕ
class_levels s = cond (eqb (version_of s) 2) (levels_byte s) 2

-- "The person is the level after the last": so many levels in all
abbrev pub levels_in : List ℕ → ℕ
levels_in s = class_levels s + 1

-- "Person: bytes 4-7 tag; 8-9 shop; 10-11 bench; 12-13 the steps permitted, bit j for step j."
abbrev pub tag_of : List ℕ → ℕ → ℕ
tag_of s c = card_long s c 4

abbrev pub permitted_of : List ℕ → ℕ → ℕ
permitted_of s c = card_word s c 12

-- the class levels: "bytes 8-9, 10-11 and 14-15 of a person card", by level from 1
abbrev pub class_place : ℕ → ℕ
class_place zero = 8
class_place (suc zero) = 8
class_place (suc (suc zero)) = 10
class_place (suc (suc (suc q))) = 14

-- the class of a person card at a class level
abbrev pub class_of : List ℕ → ℕ → ℕ → ℕ
class_of s q c = card_word s c (class_place q)

-- "not zero where used, zero where not": of how many class levels there are, the level and the field
unfoldable pub class_field_ok : ℕ → ℕ → ℕ → Bool
class_field_ok levels q class = (leb q levels && nonzero class) || (ltb levels q && eqb class 0)

-- "Tag, shop and bench are not zero." "A person's permitted bits 12 to 15 are tested on the card."
unfoldable pub person_ok : List ℕ → ℕ → Bool
person_ok s c =
    eqb (card_byte s c 1) 0
    && nonzero (tag_of s c)
    && only_below_lem 12 (permitted_of s c)
    && class_field_ok (class_levels s) 1 (class_of s 1 c)
    && class_field_ok (class_levels s) 2 (class_of s 2 c)
    && class_field_ok (class_levels s) 3 (class_of s 3 c)

-- "Byte 1 of a step card may be 1, skipped."
abbrev pub skipped_of : List ℕ → ℕ → ℕ
skipped_of s c = card_byte s c 1

-- "Step: bytes 4-7 tag, not zero."
unfoldable pub step_ok : List ℕ → ℕ → Bool
step_ok s c =
    leb (skipped_of s c) 1
    && nonzero (tag_of s c)
    && eqb (card_long s c 8) 0
    && eqb (card_long s c 12) 0

-- "Rule: byte 1 rule kind 1 to 4; byte 4 level 1 to 3; byte 5 limit; bytes 6-7 scope, bit j for step j"; "Rule kind 5, in both versions". "The person is the level after the
-- last, and the highest a rule may name"
abbrev pub rule_kind_of : List ℕ → ℕ → ℕ
rule_kind_of s c = card_byte s c 1

abbrev pub level_of : List ℕ → ℕ → ℕ
level_of s c = card_byte s c 4

abbrev pub limit_of : List ℕ → ℕ → ℕ
limit_of s c = card_byte s c 5

abbrev pub scope_of : List ℕ → ℕ → ℕ
scope_of s c = card_word s c 6

-- how many steps are in a scope
abbrev pub scope_size : ℕ → ℕ
scope_size scope = bits_set 16 scope

-- "Kind 1, same: two steps in scope, limit 0. Kind 2, different: two steps in scope, limit 0. Kind 3, at most: two or more steps, limit 1
-- to the number of steps in scope. Kind 4, at least: as kind 3." "Rule kind 5 ..: two or more steps, limit 1 to that number."
unfoldable pub limit_ok : ℕ → ℕ → ℕ → Bool
limit_ok kind limit size =
    (within 1 2 kind && eqb size 2 && eqb limit 0)
    || (within 3 5 kind && leb 2 size && within 1 size limit)

-- "bits not below the number of steps are zero, or this card gets 8": steps is how many the step chain has
unfoldable pub rule_ok : List ℕ → ℕ → ℕ → Bool
rule_ok s steps c =
    limit_ok (rule_kind_of s c) (limit_of s c) (scope_size (scope_of s c))
    && within 1 (levels_in s) (level_of s c)
    && only_below_lem steps (scope_of s c)
    && eqb (card_long s c 8) 0
    && eqb (card_long s c 12) 0

-- the fields of a card on the chain of a kind; steps matters for rules alone
unfoldable pub fields_ok : List ℕ → ℕ → ℕ → ℕ → Bool
fields_ok s steps kind c =
    cond (eqb kind person_kind) (person_ok s c) (cond (eqb kind step_kind) (step_ok s c) (rule_ok s steps c))
