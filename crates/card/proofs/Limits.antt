-- What the test of a limit says. Assumes nothing.
use mathlib.Core.Bool.{Bool, true, ◌&&◌, ◌||◌}
use mathlib.Core.Path.{◌≡◌}
use Prim.Native.Nat.{ℕ, ◌≤◌}
use lib.Dec.{eqb, leb}
use borrow.Author.Tests.{eqb-true, leb-true}
use Rattle.bits.proofs.Below.{by_cases, and_left, and_right}
use Rattle.card.specs.Fields.{limit_ok}

-- the two forms of a limit that was tested
pub limit_cases : {P : Type 0} (kind limit size : ℕ) → limit_ok kind limit size ≡ true
    → (kind ≤ 2 → 1 ≤ kind → size ≡ 2 → limit ≡ 0 → P)
    → (3 ≤ kind → kind ≤ 5 → 2 ≤ size → 1 ≤ limit → limit ≤ size → P)
    → P
unfolding limit_ok
limit_cases {P} kind limit size h pair range =
    go (leb 1 kind) (leb kind 2) (eqb size 2) (eqb limit 0) (leb 3 kind) (leb kind 5) (leb 2 size) (leb 1 limit) (leb limit size) h
    (λ a b c d. pair (leb-true _ _ b) (leb-true _ _ a) (eqb-true _ _ c) (eqb-true _ _ d))
    (λ a b c d e. range (leb-true _ _ a) (leb-true _ _ b) (leb-true _ _ c) (leb-true _ _ d) (leb-true _ _ e))
  where
    go : (a b c d e f g i k : Bool) → (a && b && c && d) || (e && f && g && (i && k)) ≡ true
        → (a ≡ true → b ≡ true → c ≡ true → d ≡ true → P) → (e ≡ true → f ≡ true → g ≡ true → i ≡ true → k ≡ true → P) → P
    go a b c d e f g i k h x y =
        by_cases (a && b && c && d)
        (λ t. let u = and_left (a && b && c) d t in let v = and_left (a && b) c u in
        x (and_left a b v) (and_right a b v) (and_right (a && b) c u) (and_right (a && b && c) d t))
        (λ t. let w : e && f && g && (i && k) ≡ true = rw t at h in
        let u = and_left (e && f && g) (i && k) w in let v = and_right (e && f && g) (i && k) w in
        let l = and_left (e && f) g u in
        y (and_left e f l) (and_right e f l) (and_right (e && f) g u) (and_left i k v) (and_right i k v))
