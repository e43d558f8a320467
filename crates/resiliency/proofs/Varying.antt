-- A plan among fewer people is a plan among all of them. Assumes nothing.
use mathlib.Core.Bool.{Bool, true, false, cond, ◌||◌}
use mathlib.Core.List.{List}
use Rattle.std.specs.Prelude.{Some, Ok}
use mathlib.Core.Path.{◌≡◌, refl, sym, ap, ◌∙◌}
use Prim.Native.Nat.{ℕ, ◌≤◌, ◌<◌}
use native.Mathlib.Omega.{arith}
use lib.Bits.{bit_or, bit_xor}
use lib.Dec.{eqb}
use Rattle.bits.proofs.Below.{by_cases}
use lib.ListN.{length, get_or}
use Rattle.bits.specs.Word.{has_bit}
use Rattle.bits.specs.Set.{unlike}
use Rattle.bits.proofs.SetLaws.{or-bit, xor_bit}
use Rattle.workflow.specs.Problem.{Job}
use Rattle.pattern.specs.Tables.{may_in, plan_in}
use Rattle.backtrack.specs.Trial.{Trial}
use Rattle.search.specs.Existence.{Existence}
use Rattle.resiliency.specs.Varied.{Fresh}

-- a mask without `used` is a part of it
pub fresh_part : (x used p : ℕ) → has_bit (bit_xor (bit_or x used) used) p ≡ true → has_bit x p ≡ true
fresh_part x used p h = go (has_bit x p) (has_bit used p) (sym (xor_bit (bit_or x used) used p ∙ ap (λ (b : Bool). unlike b (has_bit used p)) (or-bit x used p)) ∙ h)
  where
    go : (a b : Bool) → unlike (a || b) b ≡ true → a ≡ true
    go true b e = refl
    go false true e = e
    go false false e = e

-- what is left of a mask, or all of it where nothing is
abbrev pub left_or_all : ℕ → ℕ → ℕ
left_or_all used x = cond (eqb (bit_xor (bit_or x used) used) 0) x (bit_xor (bit_or x used) used)

pub left_part : (used x p : ℕ) → has_bit (left_or_all used x) p ≡ true → has_bit x p ≡ true
left_part used x p h =
    by_cases (eqb (bit_xor (bit_or x used) used) 0) (λ t. rw t at h) (λ t. fresh_part x used p (rw t at h))

-- each mask is left a part of itself
pub fresh_all : (may rest : List ℕ) → length rest ≡ 12 → (f : ℕ → ℕ) → ((s : ℕ) → s < 12 → get_or rest s 0 ≡ f (get_or may s 0))
    → ((x p : ℕ) → has_bit (f x) p ≡ true → has_bit x p ≡ true) → Fresh 12 may rest
fresh_all may rest l f e h =
    record { sized = l; part = λ s p b t. h (get_or may s 0) p (sym (ap (λ (x : ℕ). has_bit x p) (e s b)) ∙ t) }

-- a plan found among fewer people
pub existence_apart : (ordered : Bool) (j : Job) (may rest plan : List ℕ) → j.steps ≤ 12 → Fresh 12 may rest → Trial ordered j rest (Ok (Some plan))
    → Existence j (may_in may) (Some plan)
unfolding Trial
existence_apart ordered j may rest plan few w t = (
  t.0,
  record {
    within = t.1.valid.within;
    authorised = λ s l. w.part s (plan_in plan s) (omega arith) (t.1.valid.authorised s l);
    eligible = t.1.valid.eligible;
  },
)
