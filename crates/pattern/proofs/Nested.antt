-- A job by what lies inside its classes. Assumes nothing.
use mathlib.Core.List.{List}
use mathlib.Core.Path.{◌≡◌, sym, ap, subst, ◌∙◌}
use Prim.Native.Nat.{ℕ, suc, ◌-◌, ◌≤◌, ◌<◌}
use native.Mathlib.Omega.{arith}
use Rattle.pattern.specs.declared.Size.{Size}
use Rattle.pattern.specs.Given.{Nest}
use Rattle.pattern.specs.Pattern.{Refining}
use Rattle.pattern.specs.Tables.{holder_in, risen, nested_in, nested_job}

-- after the last level stands the person
pub nested_last : (nest : List ℕ) (levels p : ℕ) → nested_in nest levels (suc levels) p ≡ p
unfolding risen
nested_last nest levels p =
    let e : suc levels - suc levels ≡ 0 = omega arith in
    ap (λ (k : ℕ). risen nest levels k p) e

-- a class of a level is the one in which the class of the next level lies
pub nested_up : (nest : List ℕ) (levels q p : ℕ) → q < levels → nested_in nest levels (suc q) p ≡ holder_in nest q (nested_in nest levels (suc (suc q)) p)
unfolding risen
nested_up nest levels q p l =
    let e : suc levels - suc q ≡ suc (suc levels - suc (suc q)) = omega arith in
    let f : levels - suc (suc levels - suc (suc q)) ≡ q = omega arith in
    ap (λ (k : ℕ). risen nest levels k p) e ∙ ap (λ (k : ℕ). holder_in nest k (nested_in nest levels (suc (suc q)) p)) f

pub nested_refining : (size : Size) (nest rule : List ℕ) → Refining (nested_job size nest rule)
nested_refining size nest rule =
    record {
      finer = λ q p p' a b l l' e.
          let k : suc (q - 1) ≡ q = omega arith in
          let up : (x : ℕ) → nested_in nest size.levels q x ≡ holder_in nest (q - 1) (nested_in nest size.levels (suc q) x)
          = λ x. subst (λ (y : ℕ). nested_in nest size.levels y x ≡ holder_in nest (q - 1) (nested_in nest size.levels (suc y) x)) k
          (nested_up nest size.levels (q - 1) x (omega arith))
          in
          up p ∙ ap (holder_in nest (q - 1)) e ∙ sym (up p');
    }

-- a number is less than 64
pub nested_small : {size : Size} {nest rule : List ℕ} → Nest size nest rule → (q p : ℕ) → 1 ≤ q → q ≤ size.levels → p < size.people
    → nested_in nest size.levels q p < 64
nested_small {size} {nest} g q p a b l =
    let e : suc (q - 1) ≡ q = omega arith in
    let s = g.small (q - 1) p (omega arith) l in
    subst (λ (x : ℕ). nested_in nest size.levels x p < 64) e (omega (arith, s, g.few_people))
