-- A table that is filled card by card. Assumes nothing.
use mathlib.Core.List.{List, [], ◌∷◌, ◌++◌, map, append_assoc}
use mathlib.Core.Path.{◌≡◌, refl, sym, ◌∙◌, ap}
use Prim.Native.Nat.{ℕ, zero, suc, ◌+◌, ◌-◌, ◌<◌, ◌≤◌}
use native.Mathlib.Omega.{arith}
use native.Mathlib.Nat.{sub-zero, not-suc-le-zero, le_of_suc-le-suc}
use native.Mathlib.Numerals.{add-one}
use lib.ListN.{length, get_or, take, set, replicate, length-map, length-append, length-replicate, get_or-append}
use lib.Seq.{take-suc, set_at, length-take-le, get_or-append-add}
use Rattle.sheet.specs.Answer.{table}

map-append : (f : ℕ → ℕ) (a b : List ℕ) → map f (a ++ b) ≡ map f a ++ map f b
map-append f [] b = refl
map-append f (x ∷ a) b = ap (λ (l : List ℕ). f x ∷ l) (map-append f a b)

module _ (size : ℕ) (f : ℕ → ℕ) (list : List ℕ) where
  table_none : replicate size 0 ≡ table size f (take 0 list)
  unfolding table
  table_none = ap (λ (n : ℕ). replicate n 0) (sym (sub-zero size))

  -- the table of one card more
  table_more : (k v : ℕ) → k < size → k < length list → v ≡ f (get_or list k 0) → set (table size f (take k list)) k v ≡ table size f (take (k + 1) list)
  unfolding table
  table_more k v l m e =
      let n : length (take k list) ≡ k = length-take-le k list (omega arith) in
      let t : take (k + 1) list ≡ take k list ++ get_or list k 0 ∷ [] = rw add-one (take-suc list k 0 m) in
      let r : size - length (take k list) ≡ suc (size - (k + 1)) = omega arith in
      let q : length (take (k + 1) list) ≡ k + 1 = length-take-le (k + 1) list (omega arith) in
      ap (λ (n : ℕ). set (map f (take k list) ++ replicate n 0) k v) r
      ∙ set_at (map f (take k list)) 0 (replicate (size - (k + 1)) 0) v k (length-map (take k list) f ∙ n)
      ∙ ap (λ (x : ℕ). map f (take k list) ++ x ∷ replicate (size - (k + 1)) 0) e
      ∙ sym (append_assoc (map f (take k list)) (f (get_or list k 0) ∷ []) (replicate (size - (k + 1)) 0))
      ∙ ap (λ (x : List ℕ). x ++ replicate (size - (k + 1)) 0) (sym (ap (map f) t ∙ map-append f (take k list) (get_or list k 0 ∷ [])))
      ∙ ap (λ (n : ℕ). map f (take (k + 1) list) ++ replicate (size - n) 0) (sym q)

-- the first k of count cards are in the table
pub record Filled (size : ℕ) (f : ℕ → ℕ) (list : List ℕ) (count : ℕ) (out : List ℕ) (k : ℕ) : Type 0 where
  pub within : k ≤ count
  pub so_far : out ≡ table size f (take k list)

module _ (size : ℕ) (f : ℕ → ℕ) (list : List ℕ) (count : ℕ) where
  pub filled_none : (out : List ℕ) → out ≡ replicate size 0 → Filled size f list count out 0
  filled_none out e = record { within = omega arith; so_far = e ∙ table_none size f list }

  pub filled_more : (out : List ℕ) (k : ℕ) → Filled size f list count out k → k < count → count ≤ size → count ≤ length list
      → (v : ℕ) → v ≡ f (get_or list k 0) → Filled size f list count (set out k v) (k + 1)
  filled_more out k h l m n v e =
      record {
        within = omega arith;
        so_far = ap (λ (x : List ℕ). set x k v) h.so_far ∙ table_more size f list k v (omega arith) (omega arith) e;
      }

  pub filled_all : (out : List ℕ) (k : ℕ) → Filled size f list count out k → count ≤ k → out ≡ table size f (take count list)
  filled_all out k h l = let w = h.within in let e : k ≡ count = omega arith in h.so_far ∙ ap (λ (x : ℕ). table size f (take x list)) e

-- a table has its size
pub length-table : (size : ℕ) (f : ℕ → ℕ) (l : List ℕ) → length l ≤ size → length (table size f l) ≡ size
unfolding table
length-table size f l h = simp (length-append, length-map, length-replicate) (omega arith)

-- each card's field stands in the table
pub get_d_table : (size : ℕ) (f : ℕ → ℕ) (l : List ℕ) (k : ℕ) → k < length l → get_or (table size f l) k 0 ≡ f (get_or l k 0)
unfolding table
get_d_table size f l k h =
    get_or-append (map f l) (replicate (size - length l) 0) 0 k (rw (length-map l f) h) ∙ get_d_map f l k h
  where
    get_d_map : (f : ℕ → ℕ) (l : List ℕ) (k : ℕ) → k < length l → get_or (map f l) k 0 ≡ f (get_or l k 0)
    get_d_map f [] k h = absurd (not-suc-le-zero h)
    get_d_map f (x ∷ l) zero h = refl
    get_d_map f (x ∷ l) (suc k) h = get_d_map f l k (le_of_suc-le-suc h)

pub get_d_zeros : (n x : ℕ) → get_or (replicate {A = ℕ} n 0) x 0 ≡ 0
get_d_zeros zero x = refl
get_d_zeros (suc n) zero = refl
get_d_zeros (suc n) (suc x) = get_d_zeros n x

-- and zeros stand after the last
pub get_d_table_past : (size : ℕ) (f : ℕ → ℕ) (l : List ℕ) (k : ℕ) → length l ≤ k → get_or (table size f l) k 0 ≡ 0
unfolding table
get_d_table_past size f l k h =
    let e : k ≡ length (map f l) + (k - length l) = omega (arith, length-map l f) in
    ap (λ (x : ℕ). get_or (map f l ++ replicate (size - length l) 0) x 0) e
    ∙ get_or-append-add (map f l) (replicate (size - length l) 0) (k - length l) 0
    ∙ get_d_zeros (size - length l) (k - length l)
