-- The crew put into a buffer one step after the other. Assumes nothing.
use mathlib.Core.List.{List, [], ◌∷◌, ◌++◌, append_assoc}
use mathlib.Core.Path.{◌≡◌, refl, sym, ◌∙◌, ap, ap₂}
use Prim.Native.Nat.{ℕ, zero, suc, ◌+◌, ◌*◌, ◌<◌, ◌≤◌}
use native.Mathlib.Omega.{arith}
use native.Mathlib.Numerals.{add-one}
use lib.ListN.{length, get_or, drop, length-append, length-drop}
use Rattle.answer.specs.Bytes.{long_bytes, put_at, written}
use Rattle.answer.proofs.Put.{put_next, written-append, length-written}
use Rattle.instance.specs.Instance.{crew_tags}

pub length-tags : (st pt plan : List ℕ) (n : ℕ) → length (crew_tags st pt plan n) ≡ 2 * n
unfolding crew_tags
length-tags st pt plan zero = refl
length-tags st pt plan (suc n) =
    let e = length-tags st pt plan n in
    length-append (crew_tags st pt plan n) (get_or st n 0 ∷ get_or pt (get_or plan n 0) 0 ∷ []) ∙ (omega arith)

-- the first s steps are written, and the rest of the buffer is as it was
pub record Writing (st pt plan buffer : List ℕ) (steps : ℕ) (out : List ℕ) (s : ℕ) : Type 0 where
  pub within : s ≤ steps
  pub so_far : out ≡ written (crew_tags st pt plan s) ++ drop (8 * s) buffer

module _ (st pt plan buffer : List ℕ) (steps : ℕ) where
  pub writing_none : Writing st pt plan buffer steps buffer 0
  unfolding written crew_tags
  writing_none = record { within = omega arith; so_far = refl }

  length_done : (s : ℕ) → length (written (crew_tags st pt plan s)) ≡ 8 * s
  length_done s = let a = length-written (crew_tags st pt plan s) in let b = length-tags st pt plan s in omega arith

  pub writing_length : (out : List ℕ) (s : ℕ) → Writing st pt plan buffer steps out s → 8 * steps ≤ length buffer → length out ≡ length buffer
  writing_length out s w h =
      let l = w.within in
      ap length w.so_far ∙ length-append (written (crew_tags st pt plan s)) (drop (8 * s) buffer)
      ∙ (let a = length_done s in let b = length-drop (8 * s) buffer in omega arith)

  module _ (fits : 8 * steps ≤ length buffer) (out : List ℕ) (s : ℕ) (w : Writing st pt plan buffer steps out s) (l : s < steps) where
    -- the step's tag is put
    abbrev pub first_put : List ℕ
    first_put = (written (crew_tags st pt plan s) ++ long_bytes (get_or st s 0)) ++ drop (8 * s + 4) buffer

    pub put_step : (out' : List ℕ) → out' ≡ put_at out (8 * s) (long_bytes (get_or st s 0)) → out' ≡ first_put
    put_step out' e =
        e ∙ ap (λ (x : List ℕ). put_at x (8 * s) (long_bytes (get_or st s 0))) w.so_far
        ∙ put_next (written (crew_tags st pt plan s)) (long_bytes (get_or st s 0)) buffer (8 * s) (length_done s) (omega arith)

    joined : (written (crew_tags st pt plan s) ++ long_bytes (get_or st s 0)) ++ long_bytes (get_or pt (get_or plan s 0) 0) ≡ written (crew_tags st pt plan (s + 1))
    unfolding written crew_tags
    joined =
        append_assoc (written (crew_tags st pt plan s)) (long_bytes (get_or st s 0)) (long_bytes (get_or pt (get_or plan s 0) 0))
        ∙ sym (written-append (crew_tags st pt plan s) (get_or st s 0 ∷ get_or pt (get_or plan s 0) 0 ∷ []))
        ∙ ap (λ (n : ℕ). written (crew_tags st pt plan n)) (sym (add-one s))

    pub put_person : (out' out'' : List ℕ) → out' ≡ put_at out (8 * s) (long_bytes (get_or st s 0))
        → out'' ≡ put_at out' (8 * s + 4) (long_bytes (get_or pt (get_or plan s 0) 0)) → Writing st pt plan buffer steps out'' (s + 1)
    unfolding written crew_tags
    put_person out' out'' e d =
        let a = get_or st s 0 in let p = get_or pt (get_or plan s 0) 0 in
        let t = crew_tags st pt plan s in
        let n : length (written t ++ long_bytes a) ≡ 8 * s + 4 = length-append (written t) (long_bytes a) ∙ (let z = length_done s in omega arith) in
        let k : 8 * s + 4 + 4 ≡ 8 * (s + 1) = omega arith in
        record {
          within = omega arith;
          so_far =
              d ∙ ap (λ (x : List ℕ). put_at x (8 * s + 4) (long_bytes p)) (put_step out' e)
              ∙ put_next (written t ++ long_bytes a) (long_bytes p) buffer (8 * s + 4) n (omega arith)
              ∙ ap₂ (λ (x : List ℕ) (i : ℕ). x ++ drop i buffer) joined k;
        }

  pub writing_all : (out : List ℕ) (s : ℕ) → Writing st pt plan buffer steps out s → steps ≤ s → out ≡ written (crew_tags st pt plan steps) ++ drop (8 * steps) buffer
  writing_all out s w h =
      let l = w.within in let e : s ≡ steps = omega arith in
      w.so_far ∙ ap (λ (x : ℕ). written (crew_tags st pt plan x) ++ drop (8 * x) buffer) e
