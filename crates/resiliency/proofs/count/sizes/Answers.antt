-- Each size is gone through where the size before has no group. Assumes nothing.
use mathlib.Core.List.{List}
use mathlib.Core.Path.{subst}
use Prim.Native.Nat.{ℕ, ◌+◌}
use native.Mathlib.Omega.{arith}
use Rattle.std.specs.Prelude.{None, Some}
use Rattle.levels.specs.Tabled.{tabled_job}
use Rattle.pattern.specs.Tables.{may_in}
use Rattle.resiliency.specs.Onward.{FirstFrom}
use Rattle.resiliency.proofs.Sizes.{goes_first, goes_on, goes_found, goes_end}
use Rattle.resiliency.proofs.count.sizes.Goals as goal

pub loop-size-init : goal.loop-size-init
loop-size-init c = (c.requires.3, goes_first (tabled_job c.args.tables.now) (may_in c.args.may.now) c.args.cap)

pub returns-in-Some : goal.returns-in-Some
returns-in-Some c = (
  goes_found (tabled_job c.args.tables.now) (may_in c.args.may.now) c.args.cap c.loop-size.size c.in-Some.group (omega (arith, c.loop-size-test.true))
      c.loop-size.invariant.1
      (subst (λ (xs : List ℕ). FirstFrom (tabled_job c.args.tables.now) (may_in c.args.may.now) xs 0 (c.loop-size.size + 1) (Some c.in-Some.group)) c.none.ensures.1 c.in-Some.ensures.1),
  (c.in-Some.ensures.1.0, (let n = c.in-Some.ensures.1.1 in omega arith)),
)

pub loop-size-preserved : goal.loop-size-preserved
loop-size-preserved c = (
  c.first_group-found.ensures.0,
  goes_on (tabled_job c.args.tables.now) (may_in c.args.may.now) c.args.cap c.loop-size.size (omega (arith, c.loop-size-test.true)) c.loop-size.invariant.1
      (subst (λ (xs : List ℕ). FirstFrom (tabled_job c.args.tables.now) (may_in c.args.may.now) xs 0 (c.loop-size.size + 1) None) c.none.ensures.1 c.in_default.ensures.1),
)

pub returns : goal.returns
returns c = (goes_end (tabled_job c.args.tables.now) (may_in c.args.may.now) c.args.cap c.loop-size.size (omega (arith, c.loop-size-test.false, c.requires.2)) c.loop-size.invariant.1, tt)
