use mathlib.Core.Bool.{Bool, true}
use mathlib.Core.Path.{◌≡◌}
use Prim.Native.Nat.{ℕ, ◌+◌, ◌*◌}
use lib.ListN.{get_or}
use Rattle.bits.specs.Set.{Sifted}
use Rattle.bits.specs.Word.{has_bit}
use Rattle.realize.proofs.parts.labelled.Given as goal

abbrev pub invariant-loop-s : goal.invariant-loop-s
invariant-loop-s g l =
    ((s : ℕ) → has_bit l.s-iterator.left s ≡ true → has_bit l.steps s ≡ true)
    × ((test : ℕ → ℕ → Bool) → ((s h : ℕ) (b : Bool) → goal.F-post g l.picks s h b → b ≡ test s h)
    → Sifted l.steps (λ s. test s (get_or l.label (l.q * 12 + s) 0)) l.s-iterator.left l.found)
