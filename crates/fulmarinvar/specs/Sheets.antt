-- Cards written out, the starred sheets to try of paper 01, and sheets with skipped steps, with other levels and with a limit on the load. Assumes nothing.
use Rattle.std.specs.Prelude.{List, [], ◌∷◌, ◌++◌, ℕ, ◌/◌, ◌%◌}

-- fields of two and four bytes, low byte first
abbrev pub word : ℕ → List ℕ
word x = x % 256 ∷ x / 256 ∷ []

abbrev pub long : ℕ → List ℕ
long x = word (x % 65536) ++ word (x / 65536)

-- the version and byte 12; the first person, step and rule, and the number of cards
abbrev pub header_of : ℕ → ℕ → ℕ → ℕ → ℕ → ℕ → List ℕ
header_of version levels p s r n = 1 ∷ version ∷ 0 ∷ 0 ∷ word p ++ word s ++ word r ++ word n ++ levels ∷ 0 ∷ word 0

abbrev pub header : ℕ → ℕ → ℕ → ℕ → List ℕ
header = header_of 1 0

-- next, tag, the classes of levels 1, 2 and 3, permitted
abbrev pub person_of : ℕ → ℕ → ℕ → ℕ → ℕ → ℕ → List ℕ
person_of next tag first second third permitted = 2 ∷ 0 ∷ word next ++ long tag ++ word first ++ word second ++ word permitted ++ word third

-- next, tag, shop, bench, permitted
abbrev pub person : ℕ → ℕ → ℕ → ℕ → ℕ → List ℕ
person next tag shop bench permitted = person_of next tag shop bench 0 permitted

-- mark, 1 for skipped; next, tag
abbrev pub step : ℕ → ℕ → ℕ → List ℕ
step mark next tag = 3 ∷ mark ∷ word next ++ long tag ++ long 0 ++ long 0

-- next, kind, level, limit, scope
abbrev pub rule : ℕ → ℕ → ℕ → ℕ → ℕ → List ℕ
rule next kind level limit scope = 4 ∷ kind ∷ word next ++ level ∷ limit ∷ word scope ++ long 0 ++ long 0

-- "Sheet W: people (tag, shop, bench, permitted) 101,1,1,7; 102,1,1,7; 103,1,2,4; 104,2,3,4. Steps 10, 20, 30. Rules (kind, level, limit,
-- scope) 1,2,0,3; 1,1,0,6; 2,3,0,6. Cards lie in that order, 11 in all." Here the marks of the steps are open, what 103 is permitted, and the cards from
-- the second rule on.
abbrev pub marked_w : ℕ → ℕ → ℕ → ℕ → ℕ → List ℕ → List ℕ
marked_w mark₁ mark₂ mark₃ cards permitted rest =
    header 1 5 8 cards
    ++ person 2 101 1 1 7
    ++ person 3 102 1 1 7
    ++ person 4 103 1 2 permitted
    ++ person 0 104 2 3 4
    ++ step mark₁ 6 10
    ++ step mark₂ 7 20
    ++ step mark₃ 0 30
    ++ rule 9 1 2 0 3
    ++ rest

abbrev pub like_w : ℕ → ℕ → List ℕ → List ℕ
like_w = marked_w 0 0 0

abbrev pub sheet_w : List ℕ
sheet_w = like_w 11 4 (rule 10 1 1 0 6 ++ rule 0 2 3 0 6)

-- "W, person 103 permitted nothing"
abbrev pub sheet3 : List ℕ
sheet3 = like_w 11 0 (rule 10 1 1 0 6 ++ rule 0 2 3 0 6)

-- W and a rule, of kind, level, limit, scope, with its second step marked
abbrev pub skipping_with : ℕ → ℕ → ℕ → ℕ → ℕ → List ℕ
skipping_with mark kind level limit scope = marked_w 0 mark 0 12 4 (rule 10 1 1 0 6 ++ rule 11 2 3 0 6 ++ rule 0 kind level limit scope)

-- "W and a rule"
abbrev pub sheet_with : ℕ → ℕ → ℕ → ℕ → List ℕ
sheet_with = skipping_with 0

-- "One person, one step": of what the person is permitted
abbrev pub sheet_one : ℕ → List ℕ
sheet_one permitted = header 1 2 0 3 ++ person 0 101 1 1 permitted ++ step 0 0 10

-- "W without its last rule, the rule before it now ending the chain, card number 10"
abbrev pub sheet9 : List ℕ
sheet9 = like_w 10 4 (rule 0 1 1 0 6)

-- W with its second step skipped, and with all
abbrev pub sheet_skipping : ℕ → ℕ → ℕ → List ℕ
sheet_skipping mark₁ mark₂ mark₃ = marked_w mark₁ mark₂ mark₃ 11 4 (rule 10 1 1 0 6 ++ rule 0 2 3 0 6)

-- W as a version 2 sheet with two class levels: its header differs in two bytes
abbrev pub sheet_w2 : List ℕ
sheet_w2 =
    header_of 2 2 1 5 8 11
    ++ person 2 101 1 1 7
    ++ person 3 102 1 1 7
    ++ person 4 103 1 2 4
    ++ person 0 104 2 3 4
    ++ step 0 6 10
    ++ step 0 7 20
    ++ step 0 0 30
    ++ rule 9 1 2 0 3
    ++ rule 10 1 1 0 6
    ++ rule 0 2 3 0 6

-- "One house has shops only": W's people in their shops; 10 and 20 in one shop, 20 and 30 by different people, level 2 being the person
abbrev pub sheet_shops : List ℕ
sheet_shops =
    header_of 2 1 1 5 8 10
    ++ person_of 2 101 1 0 0 7
    ++ person_of 3 102 1 0 0 7
    ++ person_of 4 103 1 0 0 4
    ++ person_of 0 104 2 0 0 4
    ++ step 0 6 10
    ++ step 0 7 20
    ++ step 0 0 30
    ++ rule 9 1 1 0 3
    ++ rule 0 2 2 0 6

-- "another has pairs within benches": W's people each in a pair, of byte 12 and the pair of 103; 10 and 20 at one bench, 20 and 30 by different pairs, 10 and 20
-- by different people, level 4 being the person
abbrev pub sheet_pairs : ℕ → ℕ → List ℕ
sheet_pairs levels pair =
    header_of 2 levels 1 5 8 11
    ++ person_of 2 101 1 1 1 7
    ++ person_of 3 102 1 1 2 7
    ++ person_of 4 103 1 2 pair 4
    ++ person_of 0 104 2 3 4 4
    ++ step 0 6 10
    ++ step 0 7 20
    ++ step 0 0 30
    ++ rule 9 1 2 0 3
    ++ rule 10 2 3 0 6
    ++ rule 0 2 4 0 3
