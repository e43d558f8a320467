-- `narrow::revise::hopeless` meets its contract. Assumes nothing.
use mathlib.Core.Bool.{Bool, true, not}
use mathlib.Core.Logic.{inl, inr}
use mathlib.Core.Path.{◌≡◌, refl, sym, subst}
use Prim.Native.Nat.{ℕ}
use borrow.Author.Tests.{not-true}
use Rattle.bits.proofs.Below.{true-false}
use Rattle.bits.specs.Says.{Says}
use Rattle.bits.proofs.Says.{says_false}
use Rattle.pattern.specs.Eligible.{CanBeMet}
use Rattle.pattern.specs.Rule.{unpacked}
use Rattle.narrow.specs.Spreading.{Spread}
use Rattle.narrow.proofs.Settling.{at_level}
use mathlib.Core.Path.{ap}
use Rattle.narrow.proofs.revise.hopeless.Goals as goal

-- where the test says no, the rule cannot be met with this count and so many more
cannot : (r count : ℕ) {more more' : ℕ} → more ≡ more' → (a : Bool) → Says a (CanBeMet (unpacked r) count more) → not a ≡ true
    → CanBeMet (unpacked r) count more' → ⊥
cannot r count e a h t w = says_false a _ h (not-true a t) (subst (CanBeMet (unpacked r) count) (sym e) w)

pub returns-then-not-can_be_met : goal.returns-then-not-can_be_met
returns-then-not-can_be_met c =
    let a = c.args in
    λ e people g. inl (cannot a.r a.forced.count c.size-open.ensures.0 c.can_be_met.result c.can_be_met.ensures (ap not c.if-not-can_be_met.true))

pub returns-then-groups-least : goal.returns-then-groups-least
returns-then-groups-least c = λ e. true-false e refl

pub returns-then-groups-open-le2 : goal.returns-then-groups-open-le2
returns-then-groups-open-le2 c = λ e. true-false e refl

pub returns : goal.returns
returns c =
    let s = c.args in
    λ e people g. inr (record {
      number = c.spread-fresh.result;
      spread = at_level s.crowd.now (λ people c'. Spread people c' s.forced.wide s.forced.used s.dom.now c.spread-fresh.result)
          c.level.ensures.0 c.spread-fresh.ensures.1 people g;
      unmet = cannot s.r s.forced.count refl c.can_be_met-2.result c.can_be_met-2.ensures e;
    })
