-- The starred sheets to try of paper 01, W with skipped steps, sheets with other levels and W with a limit on the load, in one table with one statement. Assumes nothing.
use Rattle.std.specs.Prelude.{List, [], ◌∷◌, ◌++◌, ◌≡◌, ℕ, ◌+◌, replicate}
use Rattle.answer.specs.Bytes.{Outcome, refused, written}
use Rattle.answer.specs.Crew.{crew_answer}
use Rattle.resiliency.specs.Spare.{spare_answer}
use Rattle.fulmarinvar.specs.ByTrial.{plans_tried_of}
use Rattle.fulmarinvar.specs.FirstEdition.{crew_first, spare_first}
use Rattle.fulmarinvar.specs.RuleCounts.{RuleLine, rule_lines}
use Rattle.fulmarinvar.specs.Sheets.{sheet_w, sheet3, sheet9, sheet_with, skipping_with, sheet_one, sheet_skipping, sheet_w2, sheet_shops, sheet_pairs}

-- what the spare call gives with a cap
pub record SpareTrial : Type 0 where
  pub cap : ℕ
  pub spare : Outcome

-- a sheet, the bytes that its crew needs, what the crew call gives, by either engine, how many plans are tried by the one that tries every plan, the
-- lines of its rules for that crew, and the spare call
pub record SheetTrial : Type 0 where
  pub sheet : List ℕ
  pub size : ℕ
  pub crew : Outcome
  pub tried : ℕ
  pub lines : List RuleLine
  pub spares : List SpareTrial

-- a buffer that was used before: what is left as it was is seen
abbrev pub used : ℕ → List ℕ
used n = replicate n 170

-- the statement of every row, on buffers three bytes longer than needed
abbrev pub SparesHold : List ℕ → List SpareTrial → Type 0
SparesHold sheet [] = Unit {0}
SparesHold sheet (t ∷ ts) = (spare_answer t.cap sheet (used 19) ≡ t.spare) × SparesHold sheet ts

abbrev pub Holds : SheetTrial → Type 0
Holds t = (crew_answer t.sheet (used (t.size + 3)) ≡ t.crew) × (plans_tried_of t.sheet ≡ t.tried) × (rule_lines t.sheet ≡ t.lines) × SparesHold t.sheet t.spares

abbrev pub All : List SheetTrial → Type 0
All [] = Unit {0}
All (t ∷ ts) = Holds t × All ts

-- a crew of these tags, a count with these three tags, each with the later bytes as they were; no plan, with every byte as it was
abbrev pub tags : List ℕ → Outcome
tags xs = record { number = 0; bytes = written xs ++ used 3 }

abbrev pub counted : ℕ → ℕ → List ℕ → SpareTrial
counted cap t away = record { cap = cap; spare = record { number = 0; bytes = (t ∷ 0 ∷ 0 ∷ 0 ∷ []) ++ written away ++ used 3 } }

abbrev pub no_plan : ℕ → Outcome
no_plan n = refused 13 0 (used n)

abbrev pub no_count : ℕ → SpareTrial
no_count cap = record { cap = cap; spare = no_plan 19 }

abbrev pub crew_w : Outcome
crew_w = tags (10 ∷ 101 ∷ 20 ∷ 101 ∷ 30 ∷ 102 ∷ [])

-- "`RULE`" and these figures: "For W: `RULE 1 2 0 1`, `RULE 1 1 0 1`, `RULE 2 3 0 2`."
abbrev pub figures : ℕ → ℕ → ℕ → ℕ → RuleLine
figures kind level limit figure = record { kind = kind; level = level; limit = limit; figure = figure }

abbrev pub lines_w : List RuleLine
lines_w = figures 1 2 0 1 ∷ figures 1 1 0 1 ∷ figures 2 3 0 2 ∷ []

-- a sheet that cannot be read, with every byte as it was
abbrev pub unreadable : ℕ → ℕ → ℕ → Outcome
unreadable refusal card n = refused refusal card (used n)

-- sheets 1 and 2, which are W with two caps, 3 to 9, and W with its second step skipped, then with all; of version 2 W, shops only, and pairs within benches; then
-- a pair on two benches, and four class levels; W with no more than two steps at a bench, the same with its second step skipped, with one step at a bench, which no
-- plan meets, and with a rule of kind 6
abbrev pub trials : List SheetTrial
trials =
    record { sheet = sheet_w; size = 24; crew = crew_w; tried = 2; lines = lines_w; spares = counted 2 1 (101 ∷ 102 ∷ 0 ∷ []) ∷ counted 0 0 (0 ∷ 0 ∷ 0 ∷ []) ∷ [] }
    ∷ record { sheet = sheet3; size = 24; crew = crew_w; tried = 2; lines = lines_w; spares = counted 2 0 (101 ∷ 0 ∷ 0 ∷ []) ∷ [] }
    ∷ record { sheet = sheet_with 2 1 0 6; size = 24; crew = no_plan 27; tried = 64; lines = []; spares = no_count 2 ∷ [] }
    ∷ record { sheet = sheet_with 4 3 3 7; size = 24; crew = tags (10 ∷ 101 ∷ 20 ∷ 102 ∷ 30 ∷ 103 ∷ []); tried = 7; lines = lines_w ++ (figures 4 3 3 3 ∷ []); spares = counted 2 0 (101 ∷ 0 ∷ 0 ∷ []) ∷ [] }
    ∷ record { sheet = sheet_with 3 3 1 7; size = 24; crew = no_plan 27; tried = 64; lines = []; spares = no_count 2 ∷ [] }
    ∷ record { sheet = sheet_one 1; size = 8; crew = tags (10 ∷ 101 ∷ []); tried = 1; lines = []; spares = counted 3 0 (101 ∷ 0 ∷ 0 ∷ []) ∷ [] }
    ∷ record { sheet = sheet_one 0; size = 8; crew = no_plan 11; tried = 1; lines = []; spares = no_count 3 ∷ [] }
    ∷ record { sheet = sheet9; size = 24; crew = tags (10 ∷ 101 ∷ 20 ∷ 101 ∷ 30 ∷ 101 ∷ []); tried = 1; lines = figures 1 2 0 1 ∷ figures 1 1 0 1 ∷ []; spares = counted 2 1 (101 ∷ 102 ∷ 0 ∷ []) ∷ [] }
    ∷ record { sheet = sheet_skipping 0 1 0; size = 16; crew = tags (10 ∷ 101 ∷ 30 ∷ 101 ∷ []); tried = 1; lines = figures 1 2 0 1 ∷ figures 1 1 0 1 ∷ figures 2 3 0 1 ∷ []; spares = counted 2 1 (101 ∷ 102 ∷ 0 ∷ []) ∷ [] }
    ∷ record { sheet = sheet_skipping 1 1 1; size = 0; crew = tags []; tried = 1; lines = figures 1 2 0 0 ∷ figures 1 1 0 0 ∷ figures 2 3 0 0 ∷ []; spares = counted 2 2 (0 ∷ 0 ∷ 0 ∷ []) ∷ [] }
    ∷ record { sheet = sheet_w2; size = 24; crew = crew_w; tried = 2; lines = lines_w; spares = counted 2 1 (101 ∷ 102 ∷ 0 ∷ []) ∷ counted 0 0 (0 ∷ 0 ∷ 0 ∷ []) ∷ [] }
    ∷ record { sheet = sheet_shops; size = 24; crew = crew_w; tried = 2; lines = figures 1 1 0 1 ∷ figures 2 2 0 2 ∷ []; spares = counted 2 1 (101 ∷ 102 ∷ 0 ∷ []) ∷ [] }
    ∷ record { sheet = sheet_pairs 3 3; size = 24; crew = tags (10 ∷ 101 ∷ 20 ∷ 102 ∷ 30 ∷ 101 ∷ []); tried = 5; lines = figures 1 2 0 1 ∷ figures 2 3 0 2 ∷ figures 2 4 0 2 ∷ []; spares = counted 2 0 (101 ∷ 0 ∷ 0 ∷ []) ∷ [] }
    ∷ record { sheet = sheet_pairs 3 1; size = 24; crew = unreadable 11 3 27; tried = 0; lines = []; spares = record { cap = 2; spare = unreadable 11 3 19 } ∷ [] }
    ∷ record { sheet = sheet_pairs 4 3; size = 24; crew = unreadable 4 0 27; tried = 0; lines = []; spares = record { cap = 2; spare = unreadable 4 0 19 } ∷ [] }
    ∷ record { sheet = sheet_with 5 2 2 7; size = 24; crew = tags (10 ∷ 101 ∷ 20 ∷ 101 ∷ 30 ∷ 103 ∷ []); tried = 3; lines = lines_w ++ (figures 5 2 2 2 ∷ []); spares = counted 2 0 (103 ∷ 0 ∷ 0 ∷ []) ∷ [] }
    ∷ record { sheet = skipping_with 1 5 2 2 7; size = 16; crew = tags (10 ∷ 101 ∷ 30 ∷ 101 ∷ []); tried = 1; lines = figures 1 2 0 1 ∷ figures 1 1 0 1 ∷ figures 2 3 0 1 ∷ figures 5 2 2 2 ∷ []; spares = counted 2 1 (101 ∷ 102 ∷ 0 ∷ []) ∷ [] }
    ∷ record { sheet = sheet_with 5 2 1 7; size = 24; crew = no_plan 27; tried = 64; lines = []; spares = no_count 2 ∷ [] }
    ∷ record { sheet = sheet_with 6 2 2 7; size = 24; crew = unreadable 8 11 27; tried = 0; lines = []; spares = record { cap = 2; spare = unreadable 8 11 19 } ∷ [] }
    ∷ []

-- "A planner of the first edition answers 4 to new sheets": W of version 2, with what it answers
abbrev pub AnsweredBefore : Type 0
AnsweredBefore = (crew_first sheet_w2 (used 27) ≡ unreadable 4 0 27) × (spare_first 2 sheet_w2 (used 19) ≡ unreadable 4 0 19)
