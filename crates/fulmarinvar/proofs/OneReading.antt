-- A sheet is read in one way: what is said of the cards of one reading is said of those of any. Assumes nothing.
use mathlib.Core.List.{List, []}
use mathlib.Core.Path.{◌≡◌, refl, sym, ◌∙◌, subst}
use Prim.Native.Nat.{ℕ, ◌+◌, ◌*◌}
use native.Mathlib.Omega.{arith}
use Rattle.sheet.specs.Read.{job, fault, read_sheet}

module _ (s : List ℕ) {p t r : List ℕ} (a : read_sheet s ≡ job p t r) where
  pub same_cards : {people steps rules : List ℕ} → read_sheet s ≡ job people steps rules → (P : List ℕ → List ℕ → List ℕ → Type 0) → P p t r → P people steps rules
  same_cards {people} {steps} {rules} b P w = go (sym a ∙ b)
    where
      go : job p t r ≡ job people steps rules → P people steps rules
      go e =
          let x : p ≡ people = cc in let y : t ≡ steps = cc in let z : r ≡ rules = cc in
          subst (λ (l : List ℕ). P l steps rules) x (subst (λ (l : List ℕ). P p l rules) y (subst (λ (l : List ℕ). P p t l) z w))

  pub not-refused : (f c : ℕ) → read_sheet s ≡ fault f c → ⊥
  not-refused f c b = clash (sym a ∙ b)
    where
      clash : job p t r ≡ fault f c → ⊥
      clash e = let z : ◌≡◌ {A = ℕ} 0 1 = cc in absurd (omega arith)

-- nothing is no readable sheet
pub nothing_unreadable : {p t r : List ℕ} → read_sheet [] ≡ job p t r → ⊥
unfolding read_sheet
nothing_unreadable a = not-refused [] a 3 0 refl

pub same_refusal : (s : List ℕ) {f c g d : ℕ} → read_sheet s ≡ fault f c → read_sheet s ≡ fault g d → f * 256 + c ≡ g * 256 + d
same_refusal s {f} {c} {g} {d} a b = go (sym a ∙ b)
  where
    go : fault f c ≡ fault g d → f * 256 + c ≡ g * 256 + d
    go e = let x : f ≡ g = cc in let y : c ≡ d = cc in omega arith
