-- `eligible::groups::group_count` meets its contract: the labels are those of the placed steps of the scope. Assumes nothing.
use mathlib.Core.Path.{subst, sym}
use Prim.Native.Nat.{ℕ}
use lib.Bits.{bit_and}
use Rattle.eligible.specs.Labels.{LabelsReady}
use Rattle.eligible.proofs.Tests.{ready_part, groups-counted}
use Rattle.eligible.proofs.groups.group_count.Goals as goal
use Rattle.eligible.proofs.groups.group_count.Goals.{After-level}

-- the labels of the placed steps of the scope
ready : (c : After-level) → let a = c.args in LabelsReady (bit_and c.scope.result a.placed) c.level.result a.label.now
ready c =
    let a = c.args in
    ready_part c.scope.result (subst (λ (q : ℕ). LabelsReady a.placed q a.label.now) (sym c.level.ensures.0) c.requires)

pub returns : goal.returns
returns c =
    let a = c.args in (
      λ steps k. groups-counted a.rule a.placed c.scope.ensures steps k a.label.now c.level.ensures.0
          (λ m h. c.class_count.ensures.1 _ _ _ (c.labels_of-labels.ensures (ready c.before.before).labels m h)),
      c.class_count.ensures.0,
    )
