-- The people of the minutes book: each is met once, in order of first appearance. Assumes nothing.
use mathlib.Core.Bool.{true, false}
use mathlib.Core.List.{List, [], ◌∷◌, ◌++◌}
use mathlib.Core.Path.{◌≡◌, refl, sym, ◌∙◌, ap, subst}
use Prim.Native.Nat.{ℕ, ◌+◌, ◌<◌, ◌≤◌}
use native.Mathlib.Omega.{arith}
use native.Mathlib.Nat.{not-suc-le-zero}
use lib.Dec.{eqb}
use lib.ListN.{length, get_or, length-append, get_or-append}
use lib.Seq.{get_or-append_seam}
use borrow.Author.Tests.{eqb-true, eq-eqb}
use Rattle.bits.specs.Below.{first}
use Rattle.bits.specs.Member.{member}
use Rattle.bits.proofs.Below.{by_cases, below_suc, true-false, first_has, first_none}
use Rattle.bits.proofs.Counting.{is_false}
use Rattle.bits.proofs.Masks.{or_left, or_right}
use Rattle.bits.proofs.Member.{member_place, member_has, member-not, member-snoc}
use Rattle.ledger.specs.Entry.{Entry}
use Rattle.ledger.specs.Sums.{meet, met_after, people_in}

-- ---- one more

pub meet_old : (seen : List ℕ) (t : ℕ) → member seen t ≡ true → meet seen t ≡ seen
meet_old seen t h = rw h refl

pub meet_new : (seen : List ℕ) (t : ℕ) → member seen t ≡ false → meet seen t ≡ seen ++ t ∷ []
meet_new seen t h = rw h refl

-- what holds of both cases holds
pub meet_cases : (P : List ℕ → Type 0) (seen : List ℕ) (t : ℕ) → (member seen t ≡ true → P seen) → (member seen t ≡ false → P (seen ++ t ∷ [])) → P (meet seen t)
meet_cases P seen t old new =
    by_cases (member seen t) (λ h. subst P (sym (meet_old seen t h)) (old h)) (λ h. subst P (sym (meet_new seen t h)) (new h))

length-snoc : (xs : List ℕ) (x : ℕ) → length (xs ++ x ∷ []) ≡ length xs + 1
length-snoc xs x = length-append xs (x ∷ [])

-- nobody is forgotten, and who is met is there
pub meet_keeps : (seen : List ℕ) (t x : ℕ) → member seen x ≡ true → member (meet seen t) x ≡ true
meet_keeps seen t x h =
    meet_cases (λ (l : List ℕ). member l x ≡ true) seen t (λ m. h) (λ m. member-snoc seen t x ∙ or_left (member seen x) (eqb x t) h)

pub meet_has : (seen : List ℕ) (t : ℕ) → member (meet seen t) t ≡ true
meet_has seen t =
    meet_cases (λ (l : List ℕ). member l t ≡ true) seen t (λ m. m) (λ m. member-snoc seen t t ∙ or_right (member seen t) (eqb t t) (eq-eqb t t refl))

meet_longer : (seen : List ℕ) (t : ℕ) → length seen ≤ length (meet seen t)
meet_longer seen t =
    meet_cases (λ (l : List ℕ). length seen ≤ length l) seen t (λ m. omega arith) (λ m. let e = length-snoc seen t in omega (arith, e))

-- no two are the same
unfoldable pub Distinct : List ℕ → Type 0
Distinct xs = (i j : ℕ) → i < j → j < length xs → get_or xs i 0 ≡ get_or xs j 0 → ⊥

distinct_snoc : (xs : List ℕ) (t : ℕ) → Distinct xs → member xs t ≡ false → Distinct (xs ++ t ∷ [])
unfolding Distinct
distinct_snoc xs t d m i j l b e =
    let n = length-snoc xs t in
    below_suc (length xs) j (omega (arith, n))
    (λ q. d i j l q (sym (get_or-append xs (t ∷ []) 0 i (omega arith)) ∙ e ∙ get_or-append xs (t ∷ []) 0 j q))
    (λ q.
    member-not xs t m i (omega arith)
    (sym (get_or-append xs (t ∷ []) 0 i (omega arith)) ∙ e ∙ ap (λ (k : ℕ). get_or (xs ++ t ∷ []) k 0) q ∙ get_or-append_seam xs t [] 0))

meet-distinct : (seen : List ℕ) (t : ℕ) → Distinct seen → Distinct (meet seen t)
meet-distinct seen t d = meet_cases Distinct seen t (λ m. d) (λ m. distinct_snoc seen t d m)

-- ---- those of some entries

pub met-append : (seen : List ℕ) (es ds : List Entry) → met_after seen (es ++ ds) ≡ met_after (met_after seen es) ds
unfolding met_after
met-append seen [] ds = refl
met-append seen (e ∷ es) ds = met-append (meet seen e.tag) es ds

pub met_keeps : (seen : List ℕ) (es : List Entry) (x : ℕ) → member seen x ≡ true → member (met_after seen es) x ≡ true
unfolding met_after
met_keeps seen [] x h = h
met_keeps seen (e ∷ es) x h = met_keeps (meet seen e.tag) es x (meet_keeps seen e.tag x h)

pub met_longer : (seen : List ℕ) (es : List Entry) → length seen ≤ length (met_after seen es)
unfolding met_after
met_longer seen [] = omega arith
met_longer seen (e ∷ es) =
    let a = meet_longer seen e.tag in
    let b = met_longer (meet seen e.tag) es in
    omega (arith, a, b)

met-distinct : (seen : List ℕ) (es : List Entry) → Distinct seen → Distinct (met_after seen es)
unfolding met_after
met-distinct seen [] d = d
met-distinct seen (e ∷ es) d = met-distinct (meet seen e.tag) es (meet-distinct seen e.tag d)

pub people_distinct : (es : List Entry) → Distinct (people_in es)
unfolding Distinct
people_distinct es = met-distinct [] es (λ i j l b e. not-suc-le-zero b)

pub people_snoc : (es : List Entry) (e : Entry) → people_in (es ++ e ∷ []) ≡ meet (people_in es) e.tag
unfolding met_after
people_snoc es e = met-append [] es (e ∷ [])

-- ---- where somebody stands

-- of those met, the first with the tag
abbrev pub place_in : List ℕ → ℕ → ℕ
place_in xs t = first (length xs) (λ k. eqb (get_or xs k 0) t)

pub place_has : (xs : List ℕ) (t : ℕ) → place_in xs t < length xs → get_or xs (place_in xs t) 0 ≡ t
place_has xs t l = eqb-true (get_or xs (place_in xs t) 0) t (first_has (length xs) (λ k. eqb (get_or xs k 0) t) l)

pub place_known : (xs : List ℕ) (t : ℕ) → place_in xs t < length xs → member xs t ≡ true
place_known xs t l = member_has xs (place_in xs t) t l (place_has xs t l)

pub place_new : (xs : List ℕ) (t : ℕ) → place_in xs t ≡ length xs → member xs t ≡ false
place_new xs t e =
    is_false (member xs t)
    (λ h.
    let w = member_place xs t h in
    let n : w.0 < place_in xs t = omega (arith, w.1, e) in
    true-false (eq-eqb (get_or xs w.0 0) t w.2) (first_none (length xs) (λ k. eqb (get_or xs k 0) t) w.0 n))
