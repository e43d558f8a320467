-- A set that is gathered from the last of the steps on. Assumes nothing.
use mathlib.Core.List.{List, [], ◌∷◌, ◌++◌, append-nil, append_assoc}
use mathlib.Core.Path.{◌≡◌, refl, sym, ◌∙◌, ap, subst}
use Prim.Native.Nat.{ℕ, ◌+◌, ◌*◌, ◌^◌, ◌<◌, ◌≤◌}
use native.Mathlib.Omega.{arith}
use lib.ListN.{length, length-append}
use lib.Pow.{pow_mono}
use Rattle.bits.specs.Word.{bit}
use Rattle.remaining.specs.Kept.{gather}
use Rattle.remaining.proofs.Gather.{gather_below}

-- the steps after the rest are gathered
pub record Gathering (set : ℕ) (kept rest : List ℕ) (left : ℕ) : Type 0 where
  pub done : List ℕ
  pub parts : kept ≡ rest ++ done
  pub so_far : left ≡ gather done set

pub gathering_none : (set : ℕ) (kept : List ℕ) → Gathering set kept kept 0
unfolding gather
gathering_none set kept = record { done = []; parts = sym (append-nil kept); so_far = refl }

module _ {set : ℕ} {kept rest : List ℕ} {left : ℕ} (g : Gathering set kept rest left) (front : List ℕ) (s : ℕ) (e : rest ≡ front ++ s ∷ []) where
  sizes : length kept ≡ length front + 1 + length g.done
  sizes = ap length g.parts ∙ length-append rest g.done ∙ ap (λ (l : List ℕ). length l + length g.done) e ∙ ap (λ (n : ℕ). n + length g.done) (length-append front (s ∷ []))

  -- so many bits are in use
  pub gathering_small : length kept ≤ 12 → left < 2048
  gathering_small few =
      let b : left < 2 ^ length g.done = subst (λ (x : ℕ). x < 2 ^ length g.done) (sym g.so_far) (gather_below g.done set) in
      let m : 2 ^ length g.done ≤ 2 ^ 11 = pow_mono {j = 11} (omega (arith, sizes)) in
      omega arith

  joined : kept ≡ front ++ s ∷ g.done
  joined = g.parts ∙ ap (λ (l : List ℕ). l ++ g.done) e ∙ append_assoc front (s ∷ []) g.done

  -- the step before them
  pub gathering_more : Gathering set kept front (left * 2 + bit set s)
  unfolding gather
  gathering_more = record { done = s ∷ g.done; parts = joined; so_far = omega (arith, g.so_far) }
