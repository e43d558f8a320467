-- The laws of tables and of lists that are changed entry by entry. Assumes nothing.
use mathlib.Core.List.{List, [], ◌∷◌, ◌++◌, map, append-nil}
use mathlib.Core.Path.{◌≡◌, refl, sym, ◌∙◌, ap, subst}
use Prim.Native.Nat.{ℕ, zero, suc, ◌-◌, ◌<◌, ◌≤◌}
use native.Mathlib.Omega.{arith}
use native.Mathlib.Nat.{not-suc-le-zero, le_of_suc-le-suc}
use lib.Dec.{ltb}
use lib.ListN.{length, get_or, take, replicate, length-map, length-replicate}
use lib.Seq.{ext_get_or, take_all}
use borrow.Author.Tests.{ltb-true, ltb-false}
use Rattle.bits.proofs.Below.{by_cases}
use Rattle.sheet.proofs.Fill.{get_d_table, get_d_table_past, get_d_zeros, length-table}
use Rattle.sheet.specs.Answer.{table, zeros}

-- an entry that is there
pub get_d_map : (f : ℕ → ℕ) (l : List ℕ) (k : ℕ) → k < length l → get_or (map f l) k 0 ≡ f (get_or l k 0)
get_d_map f [] k h = absurd (not-suc-le-zero h)
get_d_map f (x ∷ l) zero h = refl
get_d_map f (x ∷ l) (suc k) h = get_d_map f l k (le_of_suc-le-suc h)

-- a table with no room left
pub table_full : (size : ℕ) (f : ℕ → ℕ) (l : List ℕ) → length l ≡ size → table size f (take size l) ≡ map f l
unfolding table
table_full size f l e =
    let t : take size l ≡ l = take_all size l (omega arith) in
    let n : size - length l ≡ 0 = omega arith in
    ap (λ (x : List ℕ). map f x ++ replicate (size - length x) 0) t
    ∙ ap (λ (x : ℕ). map f l ++ replicate x 0) n
    ∙ append-nil (map f l)

-- what holds of every card's field and of 0 holds of every entry
pub table_each : (P : ℕ → Type 0) (size : ℕ) (f : ℕ → ℕ) (l : List ℕ) → P 0 → ((k : ℕ) → k < length l → P (f (get_or l k 0)))
    → (k : ℕ) → P (get_or (table size f l) k 0)
table_each P size f l z h k =
    by_cases (ltb k (length l))
    (λ t. let m = ltb-true k (length l) t in subst P (sym (get_d_table size f l k m)) (h k m))
    (λ t. subst P (sym (get_d_table_past size f l k (ltb-false k (length l) t))) z)

-- a change that leaves every entry as it is
pub map_same : (g : ℕ → ℕ) (l : List ℕ) → ((k : ℕ) → k < length l → g (get_or l k 0) ≡ get_or l k 0) → map g l ≡ l
map_same g l h =
    ext_get_or 0 (map g l) l (length-map l g)
    (λ k m. let q : k < length l = subst (λ (n : ℕ). k < n) (length-map l g) m in get_d_map g l k q ∙ h k q)

-- a table of zeros
pub table-zero : (size : ℕ) (f : ℕ → ℕ) (l : List ℕ) → length l ≤ size → ((k : ℕ) → k < length l → f (get_or l k 0) ≡ 0) → table size f l ≡ zeros size
table-zero size f l few h =
    ext_get_or 0 (table size f l) (zeros size) (length-table size f l few ∙ sym (length-replicate size 0))
    (λ k m. table_each (λ (v : ℕ). v ≡ 0) size f l refl h k ∙ sym (get_d_zeros size k))

-- tables of as many entries that are the same
pub table_same : (size : ℕ) (f g : ℕ → ℕ) (l m : List ℕ) → length l ≡ length m → length m ≤ size
    → ((k : ℕ) → k < length m → f (get_or l k 0) ≡ g (get_or m k 0)) → table size f l ≡ table size g m
table_same size f g l m e few h =
    ext_get_or 0 (table size f l) (table size g m) (length-table size f l (omega arith) ∙ sym (length-table size g m few))
    (λ k q.
    by_cases (ltb k (length m))
    (λ t.
    let i = ltb-true k (length m) t in
    get_d_table size f l k (omega arith) ∙ h k i ∙ sym (get_d_table size g m k i))
    (λ t.
    let o = ltb-false k (length m) t in
    get_d_table_past size f l k (omega arith) ∙ sym (get_d_table_past size g m k o)))
