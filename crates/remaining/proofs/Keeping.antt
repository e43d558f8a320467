-- The steps that remain, put into an array one after the other. Assumes nothing.
use mathlib.Core.Bool.{Bool, true, false}
use mathlib.Core.List.{List, [], ◌∷◌, ◌++◌}
use mathlib.Core.Path.{◌≡◌, refl, sym, ◌∙◌, ap, subst}
use Prim.Native.Nat.{ℕ, ◌+◌, ◌<◌}
use native.Mathlib.Omega.{arith}
use native.Mathlib.Nat.{not-suc-le-zero}
use native.Mathlib.Numerals.{add-one}
use lib.ListN.{length, get_or, take, set, replicate, length-set}
use lib.Seq.{length-take-le, get_or-take, take-suc-set, get_or-set_same, get_or-set_other}
use Rattle.bits.proofs.Below.{below_suc, true-false}
use Rattle.remaining.specs.Arrays.{Keeps, OfSteps}
use Rattle.remaining.specs.Kept.{kept_below}
use Rattle.remaining.proofs.KeptLaws.{kept_step, kept_few}

-- the count is how many there are
pub keeps_count : {kept step : List ℕ} {count : ℕ} → Keeps kept step count → length kept ≡ count
keeps_count {step = step} {count = count} h =
    ap length (sym h.are) ∙ length-take-le count step (omega (arith, h.sized, h.few))

-- by equal arrays and counts
pub keeps_as : {kept step step' : List ℕ} {count count' : ℕ} → Keeps kept step count → step' ≡ step → count' ≡ count → Keeps kept step' count'
keeps_as {kept} {step} {step'} {count} h e n =
    subst (Keeps kept step') (sym n) (subst (λ (x : List ℕ). Keeps kept x count) (sym e) h)

pub keeps_none : (skipped : ℕ → Bool) → Keeps (kept_below skipped 0) (replicate {A = ℕ} 12 0) 0
unfolding kept_below
keeps_none skipped = record { sized = refl; few = omega arith; are = refl; below = λ k l. absurd (not-suc-le-zero l) }

module _ (skipped : ℕ → Bool) (s : ℕ) (step : List ℕ) (count : ℕ) (h : Keeps (kept_below skipped s) step count) where
  -- there is room for one step more
  pub keeps_room : s < 12 → count < 12
  keeps_room l = omega (arith, keeps_count h, kept_few skipped s)

  -- a skipped step changes nothing
  pub keeps_out : skipped s ≡ true → Keeps (kept_below skipped (s + 1)) step count
  keeps_out t =
      rw add-one (kept_step (λ (kept : List ℕ). Keeps kept step count) skipped s (λ o. h) (λ o. true-false t o))

  -- another stands after those before
  pub keeps_on : s < 12 → skipped s ≡ false → Keeps (kept_below skipped (s + 1)) (set step count s) (count + 1)
  keeps_on l t =
      let room = keeps_room l in
      let inside : count < length step = omega (arith, h.sized) in
      rw (add-one s)
      (kept_step (λ (kept : List ℕ). Keeps kept (set step count s) (count + 1)) skipped s (λ o. true-false o t)
      (λ o.
      record {
        sized = length-set step count s ∙ h.sized;
        few = omega arith;
        are = rw (add-one count) (take-suc-set step count s inside) ∙ ap (λ (x : List ℕ). x ++ s ∷ []) h.are;
        below = λ k m.
            below_suc count k (omega arith)
            (λ q. let d : k ≡ count → ⊥ = λ e. omega arith in
            subst (λ (x : ℕ). x < 12) (sym (get_or-set_other step count k s 0 d)) (h.below k q))
            (λ q. subst (λ (x : ℕ). get_or (set step count s) x 0 < 12) (sym q) (subst (λ (x : ℕ). x < 12) (sym (get_or-set_same step count s 0 inside)) l));
      }))
