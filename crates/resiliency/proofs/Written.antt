-- The bytes of a spare count. Assumes nothing.
use mathlib.Core.List.{List, [], ◌∷◌, ◌++◌}
use mathlib.Core.Path.{◌≡◌, refl, ap, ◌∙◌}
use Prim.Native.Nat.{ℕ, zero, suc, ◌-◌, ◌≤◌, ◌<◌}
use native.Mathlib.Omega.{arith}
use native.Mathlib.Nat.{not-suc-le-zero}
use lib.ListN.{length, drop, get_or}
use Rattle.std.specs.Prelude.{Err}
use Rattle.card.specs.Refusals.{fault_number}
use Rattle.card.specs.declared.refusal.Fault.TheVariants.{Plan}
use Rattle.card.specs.declared.refusal.Refusal.{Refusal}
use Rattle.answer.specs.Bytes.{long_bytes, put_at, written}
use Rattle.answer.specs.Number.{refusal_number, number_of}
use Rattle.answer.proofs.Put.{put_next}
use Rattle.resiliency.specs.Known.{told}
use Rattle.resiliency.specs.Group.{members_in, Sized}
use Rattle.resiliency.specs.declared.group.Group.{Group}
use Rattle.resiliency.specs.Left.{Left}
use Rattle.resiliency.specs.Spare.{away_tags, spare_bytes}
use Rattle.resiliency.specs.declared.Spared.{Spared}
use Rattle.resiliency.specs.declared.Spared.TheVariants.{Unsatisfiable, Capped, Broken}

-- four numbers put one after the other
module _ (out : List ℕ) (w a b c : ℕ) (l : 16 ≤ length out) where
  pub put_four_numbers : (o₁ o₂ o₃ o₄ : List ℕ) → o₁ ≡ put_at out 0 (long_bytes w) → o₂ ≡ put_at o₁ 4 (long_bytes a) → o₃ ≡ put_at o₂ 8 (long_bytes b)
      → o₄ ≡ put_at o₃ 12 (long_bytes c) → o₄ ≡ written (w ∷ a ∷ b ∷ c ∷ []) ++ drop 16 out
  unfolding written
  put_four_numbers o₁ o₂ o₃ o₄ e₁ e₂ e₃ e₄ =
      let f₁ : o₁ ≡ long_bytes w ++ drop 4 out = e₁ ∙ put_next [] (long_bytes w) out 0 refl (omega arith) in
      let f₂ : o₂ ≡ (long_bytes w ++ long_bytes a) ++ drop 8 out
      = e₂ ∙ ap (λ (o : List ℕ). put_at o 4 (long_bytes a)) f₁ ∙ put_next (long_bytes w) (long_bytes a) out 4 refl (omega arith) in
      let f₃ : o₃ ≡ ((long_bytes w ++ long_bytes a) ++ long_bytes b) ++ drop 12 out
      = e₃ ∙ ap (λ (o : List ℕ). put_at o 8 (long_bytes b)) f₂ ∙ put_next (long_bytes w ++ long_bytes a) (long_bytes b) out 8 refl (omega arith) in
      e₄ ∙ ap (λ (o : List ℕ). put_at o 12 (long_bytes c)) f₃
      ∙ put_next ((long_bytes w ++ long_bytes a) ++ long_bytes b) (long_bytes c) out 12 refl (omega arith)

-- a count of at most 3 is its low byte
count_bytes_lem : (n : ℕ) → n ≤ 3 → long_bytes n ≡ n ∷ 0 ∷ 0 ∷ 0 ∷ []
count_bytes_lem zero l = refl
count_bytes_lem (suc zero) l = refl
count_bytes_lem (suc (suc zero)) l = refl
count_bytes_lem (suc (suc (suc zero))) l = refl
count_bytes_lem (suc (suc (suc (suc n)))) l = absurd (omega arith)

-- the bytes of the count and of three numbers
written_count : (out bs : List ℕ) (n a b c : ℕ) → n ≤ 3 → bs ≡ written (n ∷ a ∷ b ∷ c ∷ []) ++ drop 16 out
    → bs ≡ (n ∷ 0 ∷ 0 ∷ 0 ∷ []) ++ written (a ∷ b ∷ c ∷ []) ++ drop 16 out
unfolding written
written_count out bs n a b c l e = e ∙ ap (λ (x : List ℕ). x ++ written (a ∷ b ∷ c ∷ []) ++ drop 16 out) (count_bytes_lem n l)

-- the tag at a place of a group, and 0 past its end
module _ (tags : List ℕ) where
  pub away_at : (n k : ℕ) (xs : List ℕ) → k < n → k < length xs → get_or tags (get_or xs k 0) 0 ≡ get_or (away_tags tags n xs) k 0
  unfolding away_tags
  away_at zero k xs l m = absurd (not-suc-le-zero l)
  away_at (suc n) k [] l m = absurd (not-suc-le-zero m)
  away_at (suc n) zero (x ∷ xs) l m = refl
  away_at (suc n) (suc k) (x ∷ xs) l m = away_at n k xs (omega arith) (omega arith)

  pub away_past : (n k : ℕ) (xs : List ℕ) → length xs ≤ k → 0 ≡ get_or (away_tags tags n xs) k 0
  unfolding away_tags
  away_past zero k xs l = refl
  away_past (suc n) zero [] l = refl
  away_past (suc n) (suc k) [] l = away_past n k [] (omega arith)
  away_past (suc n) zero (x ∷ xs) l = absurd (omega arith)
  away_past (suc n) (suc k) (x ∷ xs) l = away_past n k xs (omega arith)

  -- the three of them
  three_tags : (xs : List ℕ) → get_or (away_tags tags 3 xs) 0 0 ∷ get_or (away_tags tags 3 xs) 1 0 ∷ get_or (away_tags tags 3 xs) 2 0 ∷ [] ≡ away_tags tags 3 xs
  unfolding away_tags
  three_tags [] = refl
  three_tags (x ∷ []) = refl
  three_tags (x ∷ y ∷ []) = refl
  three_tags (x ∷ y ∷ z ∷ xs) = refl

-- what is left, for each answer
module _ (tags out bs : List ℕ) (cap : ℕ) (r : Spared) where
  pub left_none : {f : Refusal} → f ≡ record { fault = Plan; card = 0 } → r ≡ Unsatisfiable
      → Left (spare_bytes tags cap out (told r)) (number_of (Err f)) out
  unfolding spare_bytes fault_number
  left_none d e =
      rw e (record { number = ap (λ (x : Refusal). refusal_number (fault_number x.fault) x.card) d; bytes = refl })

  pub left_capped : cap ≤ 3 → r ≡ Capped → bs ≡ written (cap ∷ 0 ∷ 0 ∷ 0 ∷ []) ++ drop 16 out → Left (spare_bytes tags cap out (told r)) 0 bs
  unfolding spare_bytes away_tags
  left_capped l e h = rw e (record { number = refl; bytes = written_count out bs cap 0 0 0 l h })

  pub left_group : (g : Group) → Sized g → r ≡ Broken g → (n a b c : ℕ) → n ≡ g.size - 1 → a ≡ get_or (away_tags tags 3 (members_in g)) 0 0
      → b ≡ get_or (away_tags tags 3 (members_in g)) 1 0 → c ≡ get_or (away_tags tags 3 (members_in g)) 2 0
      → bs ≡ written (n ∷ a ∷ b ∷ c ∷ []) ++ drop 16 out → Left (spare_bytes tags cap out (told r)) 0 bs
  unfolding spare_bytes
  left_group g s e n a b c en ea eb ec h =
      let few = s.few in
      let tagged : a ∷ b ∷ c ∷ [] ≡ away_tags tags 3 (members_in g) = rw (ea, eb, ec) (three_tags tags (members_in g)) in
      rw e
      (record {
        number = refl;
        bytes = written_count out bs n a b c (omega arith) h
            ∙ ap (λ (k : ℕ). (k ∷ 0 ∷ 0 ∷ 0 ∷ []) ++ written (a ∷ b ∷ c ∷ []) ++ drop 16 out) en
            ∙ ap (λ (xs : List ℕ). ((g.size - 1) ∷ 0 ∷ 0 ∷ 0 ∷ []) ++ written xs ++ drop 16 out) tagged;
      })
