-- Two readings that go on alike after a chain. Assumes nothing.
use mathlib.Core.List.{List}
use mathlib.Core.Path.{◌≡◌, refl, ◌∙◌, ap}
use Prim.Native.Nat.{ℕ}
use Rattle.chain.specs.Walk.{Walked, listed, refused}
use Rattle.sheet.specs.Read.{Read, along}

-- what follows a chain that was walked
pub along_alike : (w w' : Walked) (next next' : List ℕ → Read) → w ≡ w' → ((l : List ℕ) → w ≡ listed l → next l ≡ next' l) → along w next ≡ along w' next'
along_alike w w' next next' e f = go w refl ∙ ap (λ (x : Walked). along x next') e
  where
    go : (x : Walked) → w ≡ x → along x next ≡ along x next'
    go (listed l) d = f l d
    go (refused g c) d = refl
