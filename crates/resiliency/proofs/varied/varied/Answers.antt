-- A plan among the others is one among all. Assumes nothing.
use borrow.Author.Rules.{rules}
use mathlib.Core.Path.{◌≡◌, subst}
use Rattle.std.specs.Prelude.{Some, Ok}
use Rattle.levels.specs.Tabled.{tabled_job}
use Rattle.backtrack.specs.Trial.{Trial}
use Rattle.resiliency.proofs.Varying.{existence_apart}
use Rattle.resiliency.proofs.varied.varied.Goals as goal

pub returns-in-Ok-Some : goal.returns-in-Ok-Some
returns-in-Ok-Some c =
    let p = c.requires in
    let j = tabled_job c.args.tables.now in
    let found : c.attempt-tried.result ≡ Ok (Some c.in-Ok-Some.plan) = search rules in (
      existence_apart _ j c.args.may.now c.fresh-others.result c.in-Ok-Some.plan p.0.tabled.given.ruled.few_steps c.fresh-others.ensures
          (subst (Trial _ j c.fresh-others.result) found c.attempt-tried.ensures),
      p.3,
    )
