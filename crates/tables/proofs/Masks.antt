-- The masks of the people permitted, filled from the last person on, step by step. Assumes nothing.
use mathlib.Core.Bool.{Bool, ◌&&◌}
use mathlib.Core.List.{List}
use mathlib.Core.Path.{◌≡◌, refl, sym, ◌∙◌, ap, subst}
use Prim.Native.Nat.{ℕ, zero, suc, ◌+◌, ◌*◌, ◌-◌, ◌/◌, ◌^◌, ◌<◌, ◌≤◌}
use native.Mathlib.Omega.{arith}
use native.Mathlib.Nat.{not-suc-le-zero, add-zero, pow-suc, lt_of_lt_of_le}
use native.Mathlib.Numerals.{add-one}
use lib.Dec.{eqb, ltb}
use lib.Pow.{pow_mono}
use lib.ListN.{length, get_or, set, replicate, length-set, length-replicate, get_or-replicate}
use lib.Seq.{get_or-set_same, get_or-set_other}
use borrow.Author.Tests.{ltb-true, ltb-false, lt-ltb, le-ltb}
use Rattle.bits.specs.Word.{bit, has_bit}
use Rattle.bits.proofs.Below.{by_cases, below_suc}
use Rattle.bits.proofs.SetLaws.{bit-lt, has_suc, zero_empty}
use Rattle.tables.specs.Arrays.{MasksOf}
use Rattle.tables.specs.Rows.{Pushed, FromOn}

module _ (word : ℕ) (may : List ℕ) where
  pub pushed_none : length may ≡ 12 → Pushed word may 0 may
  pushed_none l = record { size = l; done = λ s h. absurd (not-suc-le-zero h); rest = λ s h. refl }

  pub pushed_more : (i : ℕ) (out : List ℕ) → i < 12 → Pushed word may i out → Pushed word may (i + 1) (set out i (get_or out i 0 * 2 + bit word i))
  pushed_more i out l w =
      let z = w.size in
      record {
        size = length-set out i (get_or out i 0 * 2 + bit word i) ∙ z;
        done = λ s h.
            below_suc i s (subst (λ (x : ℕ). s < x) (add-one i) h)
            (λ q. get_or-set_other out i s (get_or out i 0 * 2 + bit word i) 0 (omega arith) ∙ w.done s q)
            (λ e. subst (λ (x : ℕ). get_or (set out i (get_or out i 0 * 2 + bit word i)) x 0 ≡ get_or may x 0 * 2 + bit word x) (sym e)
            (get_or-set_same out i (get_or out i 0 * 2 + bit word i) 0 (omega arith) ∙ ap (λ (x : ℕ). x * 2 + bit word i) (w.rest i (omega arith))));
        rest = λ s h. get_or-set_other out i s (get_or out i 0 * 2 + bit word i) 0 (omega arith) ∙ w.rest s (omega arith);
      }

  -- a mask that is still to come has room for one bit more
  pub pushed_room : (i : ℕ) (out : List ℕ) → i < 12 → Pushed word may i out → ((s : ℕ) → s < 12 → get_or may s 0 < 2 ^ 63) → get_or out i 0 < 2 ^ 63
  pushed_room i out l w r = subst (λ (x : ℕ). x < 2 ^ 63) (sym (w.rest i (omega arith))) (r i l)

  pub pushed_all : (i : ℕ) (out : List ℕ) → i ≤ 12 → 12 ≤ i → Pushed word may i out → Pushed word may 12 out
  pushed_all i out a b w = let e : i ≡ 12 = omega arith in subst (λ (x : ℕ). Pushed word may x out) e w

-- the bits of a word with one put below
pub low_bit : (m b : ℕ) → b < 2 → bit (m * 2 + b) 0 ≡ b
low_bit m b l = let e : (m * 2 + b) / 1 ≡ m * 2 + b = omega arith in omega arith

pub high_bit : (m b j : ℕ) → b < 2 → has_bit (m * 2 + b) (suc j) ≡ has_bit m j
high_bit m b j l = let e : (m * 2 + b) / 2 ≡ m = omega arith in has_suc (m * 2 + b) j ∙ ap (λ (x : ℕ). has_bit x j) e

module _ (permitted : List ℕ) where
  pub from_none : (n : ℕ) → FromOn permitted n 0 (replicate {A = ℕ} 12 0)
  from_none n =
      record {
        size = length-replicate {A = ℕ} 12 0;
        small = λ s h. let e = get_or-replicate {A = ℕ} 12 s 0 0 h in omega arith;
        each = λ s j h.
            zero_empty (get_or (replicate {A = ℕ} 12 0) s 0) (get_or-replicate {A = ℕ} 12 s 0 0 h) j
            ∙ ap (λ (b : Bool). b && has_bit (get_or permitted (n + j) 0) s) (sym (le-ltb j 0 (omega arith)));
      }

  module _ (n k : ℕ) (may out : List ℕ) (w : FromOn permitted (n + 1) k may) (p : Pushed (get_or permitted n 0) may 12 out) where
    one_more_small : (s : ℕ) → s < 12 → get_or out s 0 < 2 ^ (k + 1)
    one_more_small s h =
        let e = p.done s h in
        let b = bit-lt (get_or permitted n 0) s in
        let l = w.small s h in
        let d : 2 ^ (k + 1) ≡ 2 ^ k * 2 = ap (λ (x : ℕ). 2 ^ x) (add-one k) ∙ pow-suc 2 k in
        omega arith

    one_more_each : (s j : ℕ) → s < 12 → has_bit (get_or out s 0) j ≡ ltb j (k + 1) && has_bit (get_or permitted (n + j) 0) s
    one_more_each s zero h =
        ap (λ (x : ℕ). has_bit x 0) (p.done s h)
        ∙ ap (λ (x : ℕ). eqb x 1) (low_bit (get_or may s 0) (bit (get_or permitted n 0) s) (bit-lt (get_or permitted n 0) s))
        ∙ ap (λ (b : Bool). b && has_bit (get_or permitted n 0) s) (sym (lt-ltb 0 (k + 1) (omega arith)))
        ∙ ap (λ (x : ℕ). ltb 0 (k + 1) && has_bit (get_or permitted x 0) s) (sym (add-zero n))
    one_more_each s (suc j) h =
        ap (λ (x : ℕ). has_bit x (suc j)) (p.done s h)
        ∙ high_bit (get_or may s 0) (bit (get_or permitted n 0) s) j (bit-lt (get_or permitted n 0) s)
        ∙ w.each s j h
        ∙ ap (λ (b : Bool). b && has_bit (get_or permitted (n + 1 + j) 0) s) (later j)
        ∙ (let e : n + 1 + j ≡ n + suc j = omega arith in ap (λ (x : ℕ). ltb (suc j) (k + 1) && has_bit (get_or permitted x 0) s) e)
      where
        later : (j : ℕ) → ltb j k ≡ ltb (suc j) (k + 1)
        later j =
            by_cases (ltb j k)
            (λ t. let l : j < k = ltb-true j k t in t ∙ sym (lt-ltb (suc j) (k + 1) (omega arith)))
            (λ t. let l : k ≤ j = ltb-false j k t in t ∙ sym (le-ltb (suc j) (k + 1) (omega arith)))

    one_more : FromOn permitted n (k + 1) out
    one_more = record { size = p.size; small = one_more_small; each = one_more_each }

  -- one person more
  pub from_more : (people k : ℕ) (may out : List ℕ) → k < people → FromOn permitted (people - k) k may → Pushed (get_or permitted (people - 1 - k) 0) may 12 out
      → FromOn permitted (people - (k + 1)) (k + 1) out
  from_more people k may out l w p =
      let e : people - k ≡ people - 1 - k + 1 = omega arith in
      let d : people - 1 - k ≡ people - (k + 1) = omega arith in
      subst (λ (x : ℕ). FromOn permitted x (k + 1) out) d
      (one_more (people - 1 - k) k may out (subst (λ (x : ℕ). FromOn permitted x k may) e w) p)

  -- there is room for one person more
  pub from_room : (n k : ℕ) (may : List ℕ) → k < 64 → FromOn permitted n k may → (s : ℕ) → s < 12 → get_or may s 0 < 2 ^ 63
  from_room n k may l w s h = lt_of_lt_of_le (w.small s h) (pow_mono {i = k} {j = 63} (omega arith))

  -- all people
  pub from_all : (people steps k : ℕ) (may : List ℕ) → steps ≤ 12 → k ≤ people → people ≤ k → FromOn permitted (people - k) k may → MasksOf permitted people steps may
  from_all people steps k may a b c w =
      let e : k ≡ people = omega arith in
      let d : people - k ≡ 0 = omega arith in
      record {
        size = w.size;
        each = λ s h.
            record {
              each = λ p.
                  w.each s p (omega arith) ∙ ap (λ (x : ℕ). ltb p x && has_bit (get_or permitted (people - k + p) 0) s) e
                  ∙ (let z : people - k + p ≡ p = omega arith in ap (λ (x : ℕ). ltb p people && has_bit (get_or permitted x 0) s) z);
            };
      }
