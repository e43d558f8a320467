-- `backtrack::ends::finish` meets its contract. Assumes nothing.
use mathlib.Core.Bool.{not}
use mathlib.Core.Path.{ap, refl}
use borrow.Author.Tests.{not-true, not-false}
use Rattle.levels.specs.Tabled.{tabled_job}
use Rattle.backtrack.proofs.Extending.{trial_tired}
use Rattle.backtrack.proofs.Ending.{ended_found, ended_none}
use Rattle.backtrack.proofs.ends.finish.Goals as goal

pub returns-in_default : goal.returns-in_default
returns-in_default c = trial_tired _ _ _ _ refl

pub returns-then-not-meets_all : goal.returns-then-not-meets_all
returns-then-not-meets_all c =
    let m = c.meets_all in
    ended_none (tabled_job c.args.tables.now) _ _ c.requires.2 c.in-Some.ensures m.result m.ensures (not-true _ (ap not c.if-not-meets_all.true))

pub returns : goal.returns
returns c =
    let m = c.meets_all in
    ended_found (tabled_job c.args.tables.now) _ _ c.requires.2 c.in-Some.ensures m.result m.ensures (not-false _ (ap not c.if-not-meets_all.false))
