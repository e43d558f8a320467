-- Tags that are written can be read back: they differ, are not zero and fit into four bytes. Assumes nothing.
use mathlib.Core.List.{List, [], ◌∷◌, ◌++◌}
use mathlib.Core.Path.{◌≡◌, refl, sym, ◌∙◌, ap, ap₂}
use Prim.Native.Nat.{ℕ, zero, suc, ◌+◌, ◌*◌, ◌/◌, ◌%◌, ◌<◌, ◌≤◌}
use native.Mathlib.Omega.{arith}
use native.Mathlib.Nat.{not-suc-le-zero}
use lib.Dec.{ltb}
use lib.ListN.{length, get_or, drop, length-append, get_or-append}
use lib.Seq.{get_or-append-add}
use borrow.Author.Tests.{ltb-true, ltb-false}
use Rattle.bits.specs.Word.{byte_at, long_at}
use Rattle.bits.proofs.Below.{by_cases, below_suc}
use Rattle.instance.specs.Instance.{crew_tags}
use Rattle.answer.proofs.PutCrew.{length-tags}
use Rattle.answer.specs.Bytes.{long_bytes, written}
use Rattle.resiliency.specs.Spare.{away_tags}

-- four bytes make a number below 2 ^ 32
pub long_small : (s : List ℕ) → ((i : ℕ) → byte_at s i < 256) → (i : ℕ) → long_at s i < 4294967296
long_small s h i = omega (arith, h i, h (i + 1), h (i + 2), h (i + 2 + 1))

-- a number by its bytes
split_once : (x : ℕ) → x ≡ x % 256 + 256 * (x / 256)
split_once x = omega arith

split_twice : (x : ℕ) → x / 256 ≡ x / 256 % 256 + 256 * (x / 65536)
split_twice x = omega arith

split_thrice : (x : ℕ) → x / 65536 ≡ x / 65536 % 256 + 256 * (x / 16777216)
split_thrice x = omega arith

split_last : (x : ℕ) → x < 4294967296 → x / 16777216 ≡ x / 16777216 % 256
split_last x l = omega arith

-- the same four bytes are the same number
bytes_same : (x y : ℕ) → x < 4294967296 → y < 4294967296 → x % 256 ≡ y % 256 → x / 256 % 256 ≡ y / 256 % 256 → x / 65536 % 256 ≡ y / 65536 % 256
    → x / 16777216 % 256 ≡ y / 16777216 % 256 → x ≡ y
bytes_same x y l m e₀ e₁ e₂ e₃ =
    let d₃ : x / 16777216 ≡ y / 16777216 = split_last x l ∙ e₃ ∙ sym (split_last y m) in
    let d₂ : x / 65536 ≡ y / 65536 = split_thrice x ∙ ap₂ (λ (a b : ℕ). a + 256 * b) e₂ d₃ ∙ sym (split_thrice y) in
    let d₁ : x / 256 ≡ y / 256 = split_twice x ∙ ap₂ (λ (a b : ℕ). a + 256 * b) e₁ d₂ ∙ sym (split_twice y) in
    split_once x ∙ ap₂ (λ (a b : ℕ). a + 256 * b) e₀ d₁ ∙ sym (split_once y)

-- what four bytes say
bytes_number : (x : ℕ) → x < 4294967296 → x % 256 + 256 * (x / 256 % 256) + 65536 * (x / 65536 % 256 + 256 * (x / 16777216 % 256)) ≡ x
bytes_number x l =
    let a = split_once x in let b = split_twice x in let c = split_thrice x in let d = split_last x l in omega arith

-- four bytes more before a number
pub shifted : (a b c d : ℕ) (ys : List ℕ) (i : ℕ) → long_at (a ∷ b ∷ c ∷ d ∷ ys) (i + 4) ≡ long_at ys i
shifted a b c d ys i =
    ap₂ (λ (x y : ℕ). x + 65536 * y)
    (ap₂ (λ (x y : ℕ). x + 256 * y) (at i (i + 4) (omega arith)) (at (i + 1) (i + 4 + 1) (omega arith)))
    (ap₂ (λ (x y : ℕ). x + 256 * y) (at (i + 2) (i + 4 + 2) (omega arith)) (at (i + 2 + 1) (i + 4 + 2 + 1) (omega arith)))
  where
    at : (m n : ℕ) → n ≡ suc (suc (suc (suc m))) → byte_at (a ∷ b ∷ c ∷ d ∷ ys) n ≡ byte_at ys m
    at m n e = ap (byte_at (a ∷ b ∷ c ∷ d ∷ ys)) e

-- number k of those written is read at byte 4 × k
pub read_written : (xs rest : List ℕ) (k : ℕ) → k < length xs → get_or xs k 0 < 4294967296 → long_at (written xs ++ rest) (4 * k) ≡ get_or xs k 0
unfolding written
read_written [] rest k l m = absurd (not-suc-le-zero l)
read_written (x ∷ xs) rest zero l m = bytes_number x m
read_written (x ∷ xs) rest (suc k) l m =
    let e : 4 * suc k ≡ 4 * k + 4 = omega arith in
    ap (long_at (written (x ∷ xs) ++ rest)) e
    ∙ shifted (x % 256) (x / 256 % 256) (x / 65536 % 256) (x / 16777216 % 256) (written xs ++ rest) (4 * k)
    ∙ read_written xs rest k (omega arith) m

-- the tags of a crew by their places
module _ (st pt plan : List ℕ) where
  -- the two tags of a step
  abbrev Both : ℕ → List ℕ → Type 0
  Both t xs = (get_or xs (2 * t) 0 ≡ get_or st t 0) × (get_or xs (2 * t + 1) 0 ≡ get_or pt (get_or plan t 0) 0)

  pub crew_tags_lem : (n t : ℕ) → t < n → (2 * t + 1 < length (crew_tags st pt plan n)) × Both t (crew_tags st pt plan n)
  unfolding crew_tags
  crew_tags_lem zero t l = absurd (not-suc-le-zero l)
  crew_tags_lem (suc n) t l =
      let xs = crew_tags st pt plan n in
      let more = get_or st n 0 ∷ get_or pt (get_or plan n 0) 0 ∷ [] in
      let len = length-tags st pt plan n in
      let long = length-append xs more in (
        omega arith,
        below_suc n t l
            (λ m. let w = (crew_tags_lem n t m).1 in
            (get_or-append xs more 0 (2 * t) (omega arith) ∙ w.0, get_or-append xs more 0 (2 * t + 1) (omega arith) ∙ w.1))
            (λ e.
            let x : 2 * t ≡ length xs + 0 = omega arith in
            let y : 2 * t + 1 ≡ length xs + 1 = omega arith in (
              ap (λ (i : ℕ). get_or (xs ++ more) i 0) x ∙ get_or-append-add xs more 0 0 ∙ ap (λ (i : ℕ). get_or st i 0) (sym e),
              ap (λ (i : ℕ). get_or (xs ++ more) i 0) y ∙ get_or-append-add xs more 1 0 ∙ ap (λ (i : ℕ). get_or pt (get_or plan i 0) 0) (sym e),
            )),
      )

long_same : (x y : ℕ) → x < 4294967296 → y < 4294967296 → (a b : List ℕ) → long_bytes x ++ a ≡ long_bytes y ++ b → x ≡ y
long_same x y l m a b e =
    bytes_same x y l m (ap (λ (z : List ℕ). get_or z 0 0) e) (ap (λ (z : List ℕ). get_or z 1 0) e) (ap (λ (z : List ℕ). get_or z 2 0) e)
    (ap (λ (z : List ℕ). get_or z 3 0) e)

pub written_same : (xs ys : List ℕ) → ((i : ℕ) → get_or xs i 0 < 4294967296) → ((i : ℕ) → get_or ys i 0 < 4294967296) → written xs ≡ written ys → xs ≡ ys
unfolding written
written_same [] [] h k e = refl
written_same [] (y ∷ ys) h k e = let z : 0 ≡ suc (suc (suc (suc (length (written ys))))) = ap length e in absurd (omega arith)
written_same (x ∷ xs) [] h k e = let z : suc (suc (suc (suc (length (written xs))))) ≡ 0 = ap length e in absurd (omega arith)
written_same (x ∷ xs) (y ∷ ys) h k e =
    ap₂ (λ (z : ℕ) (zs : List ℕ). z ∷ zs) (long_same x y (h 0) (k 0) (written xs) (written ys) e)
    (written_same xs ys (λ i. h (suc i)) (λ i. k (suc i)) (ap (drop 4) e))

module _ (tags : List ℕ) (people : ℕ) where
  pub away_small : ((p : ℕ) → p < people → get_or tags p 0 < 4294967296) → (n : ℕ) (xs : List ℕ) → ((i : ℕ) → i < length xs → get_or xs i 0 < people)
      → (i : ℕ) → get_or (away_tags tags n xs) i 0 < 4294967296
  unfolding away_tags
  away_small h zero xs w i = omega arith
  away_small h (suc n) [] w zero = omega arith
  away_small h (suc n) [] w (suc i) = away_small h n [] w i
  away_small h (suc n) (x ∷ xs) w zero = h x (w 0 (omega arith))
  away_small h (suc n) (x ∷ xs) w (suc i) = away_small h n xs (λ j l. w (suc j) (omega arith)) i

  -- the tags of a group by their places
  pub away_at : (n : ℕ) (xs : List ℕ) (i : ℕ) → i < n → (i < length (away_tags tags n xs))
      × (i < length xs → get_or (away_tags tags n xs) i 0 ≡ get_or tags (get_or xs i 0) 0) × (length xs ≤ i → get_or (away_tags tags n xs) i 0 ≡ 0)
  unfolding away_tags
  away_at zero xs i l = absurd (not-suc-le-zero l)
  away_at (suc n) [] zero l = (omega arith, λ m. absurd (not-suc-le-zero m), λ m. refl)
  away_at (suc n) [] (suc i) l =
      let w = away_at n [] i (omega arith) in (omega (arith, w.0), λ m. absurd (not-suc-le-zero m), λ m. w.2 (omega arith))
  away_at (suc n) (x ∷ xs) zero l = (omega arith, λ m. refl, λ m. absurd (omega arith))
  away_at (suc n) (x ∷ xs) (suc i) l =
      let w = away_at n xs i (omega arith) in (omega (arith, w.0), λ m. w.1 (omega arith), λ m. w.2 (omega arith))

  -- tags that are not zero and differ
  module _ (some : (p : ℕ) → p < people → 0 < get_or tags p 0) (differ : (p q : ℕ) → p < q → q < people → get_or tags p 0 ≡ get_or tags q 0 → ⊥) where
    tag_same : (p q : ℕ) → p < people → q < people → get_or tags p 0 ≡ get_or tags q 0 → p ≡ q
    tag_same p q l m e =
        by_cases (ltb p q) (λ t. absurd (differ p q (ltb-true p q t) m e))
        (λ t. by_cases (ltb q p) (λ u. absurd (differ q p (ltb-true q p u) l (sym e)))
        (λ u. omega (arith, ltb-false p q t, ltb-false q p u)))

    pub away_same : (n : ℕ) (xs ys : List ℕ) → length xs ≤ n → length ys ≤ n
        → ((i : ℕ) → i < length xs → get_or xs i 0 < people) → ((i : ℕ) → i < length ys → get_or ys i 0 < people)
        → away_tags tags n xs ≡ away_tags tags n ys → xs ≡ ys
    unfolding away_tags
    away_same zero [] [] l m h k e = refl
    away_same zero [] (y ∷ ys) l m h k e = absurd (omega arith)
    away_same zero (x ∷ xs) [] l m h k e = absurd (omega arith)
    away_same zero (x ∷ xs) (y ∷ ys) l m h k e = absurd (omega arith)
    away_same (suc n) [] [] l m h k e = refl
    away_same (suc n) [] (y ∷ ys) l m h k e =
        let z : 0 ≡ get_or tags y 0 = ap (λ (v : List ℕ). get_or v 0 0) e in absurd (omega (arith, some y (k 0 (omega arith))))
    away_same (suc n) (x ∷ xs) [] l m h k e =
        let z : get_or tags x 0 ≡ 0 = ap (λ (v : List ℕ). get_or v 0 0) e in absurd (omega (arith, some x (h 0 (omega arith))))
    away_same (suc n) (x ∷ xs) (y ∷ ys) l m h k e =
        ap₂ (λ (v : ℕ) (vs : List ℕ). v ∷ vs) (tag_same x y (h 0 (omega arith)) (k 0 (omega arith)) (ap (λ (v : List ℕ). get_or v 0 0) e))
        (away_same n xs ys (omega arith) (omega arith) (λ i q. h (suc i) (omega arith)) (λ i q. k (suc i) (omega arith)) (ap (drop 1) e))
