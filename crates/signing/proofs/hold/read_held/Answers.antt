-- The part that is read is the sheet held. Assumes nothing.
use mathlib.Core.Path.{◌∙◌, ap}
use Prim.Native.Nat.{ℕ}
use lib.ListN.{take}
use Rattle.remaining.specs.Remaining.{remaining_of}
use Rattle.signing.specs.State.{held}
use Rattle.signing.proofs.hold.read_held.Goals as goal

pub returns : goal.returns
unfolding held
returns c =
    c.read_job.ensures ∙ ap (λ (n : ℕ). remaining_of (take n c.args.job.now.sheet)) c.held_length-len.ensures
