-- Where the first person of the slot has the word, it is the first with it; otherwise all are gone through. Assumes nothing.
use Rattle.tables.proofs.Numbers.{leads}
use Rattle.tables.proofs.first_use.Goals as goal

pub returns-then-words-q : goal.returns-then-words-q
returns-then-words-q c =
    let e = c.first_there-q.ensures in
    (leads _ _ _ _ c.requires.1 e.0 c.if-words-q.true, e.1)
