-- Answers of yes and no, and what follows from them. Assumes nothing.
use mathlib.Core.Bool.{Bool, true, false}
use mathlib.Core.Path.{◌≡◌, refl}
use Prim.Native.Nat.{ℕ}
use native.Mathlib.Omega.{arith}
use Rattle.bits.specs.Says.{Says}

pub says_of : (b : Bool) (A : Type 0) → (b ≡ true → A) → (b ≡ false → A → ⊥) → Says b A
says_of true A f g = f refl
says_of false A f g = g refl

pub says_true : (b : Bool) (A : Type 0) → Says b A → b ≡ true → A
says_true true A h e = h
says_true false A h e = absurd (let z : ◌≡◌ {A = ℕ} 0 1 = cc in omega arith)

pub says_false : (b : Bool) (A : Type 0) → Says b A → b ≡ false → A → ⊥
says_false true A h e = absurd (let z : ◌≡◌ {A = ℕ} 0 1 = cc in omega arith)
says_false false A h e = h
