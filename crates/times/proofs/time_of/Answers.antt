-- `times::time_of` meets its contract: each field is the definition's. Assumes nothing.
use mathlib.Core.Path.{◌∙◌, ap}
use Prim.Native.Nat.{◌/◌, ◌%◌}
use lib.IntN.{nat_abs}
use mir.Syntax.{w32}
use mir.ValLaws.{to_z-of_z}
use Rattle.times.specs.Time.{time_of}
use Rattle.times.proofs.Sign.{sign_is}
use Rattle.times.proofs.time_of.Goals as goal

pub returns : goal.returns
unfolding time_of
returns c =
    let e = c.unsigned_abs-size.ensures.value ∙ ap nat_abs (to_z-of_z w32 c.args.minutes c.ranges.minutes) in
    let f = sign_is c.args.minutes c.ranges.minutes in
    λ t. record { negative = f t; hours = e t / 60; minutes = e t % 60 }
