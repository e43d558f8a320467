-- "all as hours:minutes (-1:05, -0:05, 0:00)": a number of minutes as sign, hours and minutes. Assumes nothing.
use mathlib.Core.Bool.{Bool, true, false, cond}
use mathlib.Core.Path.{◌≡◌}
use Prim.Native.Nat.{ℕ, ◌+◌, ◌*◌, ◌/◌, ◌%◌, ◌<◌}
use lib.IntN.{ℤ, pos, negsuc, neg_ℤ, nat_abs}
use Rattle.times.specs.declared.Time.{Time}

-- below zero
abbrev pub is_negative : ℤ → Bool
is_negative (pos n) = false
is_negative (negsuc n) = true

-- the sign, and hours and minutes of the size
unfoldable pub time_of : ℤ → Time
time_of z = record { negative = is_negative z; hours = nat_abs z / 60; minutes = nat_abs z % 60 }

-- what a sign, hours and minutes say
abbrev pub minutes_of : Time → ℤ
minutes_of t = cond t.negative (neg_ℤ (pos (60 * t.hours + t.minutes))) (pos (60 * t.hours + t.minutes))

-- exact at every number: it reads back, the minutes are below 60, and zero has no sign
pub record Exact (z : ℤ) : Type 0 where
  pub back : minutes_of (time_of z) ≡ z
  pub minutes : (time_of z).minutes < 60
  pub sign : (time_of z).negative ≡ true → 0 < 60 * (time_of z).hours + (time_of z).minutes

abbrev pub EveryTime : Type 0
EveryTime = (z : ℤ) → Exact z

-- a number that is not negative
pub record Natural (z : ℤ) : Type 0 where
  pub size : ℕ
  pub same : z ≡ pos size
