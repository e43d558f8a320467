-- The laws of the steps that remain: each is one that is not skipped, in order, and every such step is there. Assumes nothing.
use mathlib.Core.Bool.{Bool, true, false}
use mathlib.Core.List.{List, [], ◌∷◌, ◌++◌, append-nil}
use mathlib.Core.Path.{◌≡◌, refl, sym, ◌∙◌, ap, subst}
use Prim.Native.Nat.{ℕ, zero, suc, ◌<◌, ◌≤◌}
use native.Mathlib.Omega.{arith}
use native.Mathlib.Nat.{not-suc-le-zero}
use lib.ListN.{length, get_or, length-append, get_or-append}
use lib.Seq.{get_or_at}
use Rattle.bits.proofs.Below.{by_cases, true-false, below_suc}
use Rattle.remaining.specs.Kept.{kept_below}

-- one number at the end of a list
length-snoc : (l : List ℕ) (x : ℕ) → length (l ++ x ∷ []) ≡ suc (length l)
length-snoc l x = let e = length-append l (x ∷ []) in omega arith

get_d_snoc : (P : ℕ → Type 0) (l : List ℕ) (x k : ℕ) → k < length (l ++ x ∷ []) → (k < length l → P (get_or l k 0)) → (k ≡ length l → P x) → P (get_or (l ++ x ∷ []) k 0)
get_d_snoc P l x k h old new =
    below_suc (length l) k (subst (λ (n : ℕ). k < n) (length-snoc l x) h)
    (λ m. subst P (sym (get_or-append l (x ∷ []) 0 k m)) (old m))
    (λ e. subst P (sym (get_or_at l x [] 0 k (sym e))) (new e))

-- one step more: it is left out, or stands at the end
pub kept_step : (P : List ℕ → Type 0) (skipped : ℕ → Bool) (n : ℕ)
    → (skipped n ≡ true → P (kept_below skipped n))
    → (skipped n ≡ false → P (kept_below skipped n ++ n ∷ []))
    → P (kept_below skipped (suc n))
unfolding kept_below
kept_step P skipped n out on =
    by_cases (skipped n)
    (λ t. rw (t, append-nil) (out t))
    (λ t. rw t (on t))

-- what holds of every step that is not skipped holds of each that is kept
kept_each : (P : ℕ → Type 0) (skipped : ℕ → Bool) (n : ℕ) → ((s : ℕ) → s < n → skipped s ≡ false → P s)
    → (k : ℕ) → k < length (kept_below skipped n) → P (get_or (kept_below skipped n) k 0)
unfolding kept_below
kept_each P skipped zero h k l = absurd (not-suc-le-zero l)
kept_each P skipped (suc n) h k l =
    let before = kept_each P skipped n (λ s m. h s (omega arith)) k in
    kept_step (λ (kept : List ℕ). k < length kept → P (get_or kept k 0)) skipped n
    (λ t m. before m)
    (λ t m. get_d_snoc P (kept_below skipped n) n k m before (λ e. h n (omega arith) t)) l

module _ (skipped : ℕ → Bool) (n : ℕ) where
  pub kept_below_lem : (k : ℕ) → k < length (kept_below skipped n) → get_or (kept_below skipped n) k 0 < n
  kept_below_lem = kept_each (λ (s : ℕ). s < n) skipped n (λ s l t. l)

  pub kept_remains : (k : ℕ) → k < length (kept_below skipped n) → skipped (get_or (kept_below skipped n) k 0) ≡ false
  kept_remains = kept_each (λ (s : ℕ). skipped s ≡ false) skipped n (λ s l t. t)

pub kept_ordered : (skipped : ℕ → Bool) (n k l : ℕ) → k < l → l < length (kept_below skipped n)
    → get_or (kept_below skipped n) k 0 < get_or (kept_below skipped n) l 0
unfolding kept_below
kept_ordered skipped zero k l h m = absurd (not-suc-le-zero m)
kept_ordered skipped (suc n) k l h m =
    kept_step (λ (kept : List ℕ). l < length kept → get_or kept k 0 < get_or kept l 0) skipped n
    (λ t q. kept_ordered skipped n k l h q)
    (λ t q.
    let kept = kept_below skipped n in
    let i : k < length kept = omega (arith, length-snoc kept n) in
    subst (λ (x : ℕ). x < get_or (kept ++ n ∷ []) l 0) (sym (get_or-append kept (n ∷ []) 0 k i))
    (get_d_snoc (λ (x : ℕ). get_or kept k 0 < x) kept n l q
    (λ r. kept_ordered skipped n k l h r)
    (λ e. kept_below_lem skipped n k i))) m

-- step s is one of these
abbrev pub StandsIn : List ℕ → ℕ → Type 0
StandsIn kept s = (k : ℕ) × (k < length kept) × (get_or kept k 0 ≡ s)

pub kept_every : (skipped : ℕ → Bool) (n s : ℕ) → s < n → skipped s ≡ false → StandsIn (kept_below skipped n) s
kept_every skipped zero s l t = absurd (not-suc-le-zero l)
kept_every skipped (suc n) s l t =
    below_suc n s l
    (λ m.
    let w = kept_every skipped n s m t in
    kept_step (λ (kept : List ℕ). StandsIn kept s) skipped n
    (λ o. w)
    (λ o. (w.0, omega (arith, length-snoc (kept_below skipped n) n, w.1), get_or-append (kept_below skipped n) (n ∷ []) 0 w.0 w.1 ∙ w.2)))
    (λ e.
    kept_step (λ (kept : List ℕ). StandsIn kept s) skipped n
    (λ o. true-false o (subst (λ (x : ℕ). skipped x ≡ false) e t))
    (λ o.
    (length (kept_below skipped n), omega (arith, length-snoc (kept_below skipped n) n), get_or_at (kept_below skipped n) n [] 0 (length (kept_below skipped n)) refl ∙ sym e)))

pub kept_few : (skipped : ℕ → Bool) (n : ℕ) → length (kept_below skipped n) ≤ n
unfolding kept_below
kept_few skipped zero = omega arith
kept_few skipped (suc n) =
    let h = kept_few skipped n in
    kept_step (λ (kept : List ℕ). length kept ≤ suc n) skipped n (λ t. omega arith) (λ t. omega (arith, length-snoc (kept_below skipped n) n))

-- only what is said of the steps below n matters
pub kept_cong : (a b : ℕ → Bool) (n : ℕ) → ((s : ℕ) → s < n → a s ≡ b s) → kept_below a n ≡ kept_below b n
unfolding kept_below
kept_cong a b zero h = refl
kept_cong a b (suc n) h = rw (kept_cong a b n (λ s l. h s (omega arith)), h n (omega arith)) refl

pub kept_none_skipped : (skipped : ℕ → Bool) (n : ℕ) → ((s : ℕ) → s < n → skipped s ≡ false) → length (kept_below skipped n) ≡ n
unfolding kept_below
kept_none_skipped skipped zero h = refl
kept_none_skipped skipped (suc n) h =
    let before = kept_none_skipped skipped n (λ s l. h s (omega arith)) in
    kept_step (λ (kept : List ℕ). length kept ≡ suc n) skipped n
    (λ t. true-false t (h n (omega arith)))
    (λ t. length-snoc (kept_below skipped n) n ∙ ap suc before)

-- as many as there are: none was left out, and each keeps its number
pub record AllKept (skipped : ℕ → Bool) (n : ℕ) (kept : List ℕ) : Type 0 where
  pub remains : (s : ℕ) → s < n → skipped s ≡ false
  pub itself : (k : ℕ) → k < n → get_or kept k 0 ≡ k

pub kept_whole : (skipped : ℕ → Bool) (n : ℕ) → length (kept_below skipped n) ≡ n → AllKept skipped n (kept_below skipped n)
kept_whole skipped zero h = record { remains = λ s l. absurd (not-suc-le-zero l); itself = λ k l. absurd (not-suc-le-zero l) }
kept_whole skipped (suc n) h =
    let kept = kept_below skipped n in
    kept_step (λ (x : List ℕ). length x ≡ suc n → AllKept skipped (suc n) x) skipped n
    (λ t e. absurd (omega (arith, kept_few skipped n)))
    (λ t e.
    let m : length kept ≡ n = omega (arith, length-snoc kept n) in
    let w = kept_whole skipped n m in
    record {
      remains = λ s l. below_suc n s l (w.remains s) (λ q. subst (λ (x : ℕ). skipped x ≡ false) (sym q) t);
      itself = λ k l.
          below_suc n k l
          (λ q. get_or-append kept (n ∷ []) 0 k (omega arith) ∙ w.itself k q)
          (λ q. get_or_at kept n [] 0 k (m ∙ sym q) ∙ sym q);
    }) h
