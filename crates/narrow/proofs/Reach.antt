-- Everybody who shares a class with somebody of a domain, and of each of some domains. Assumes nothing.
use mathlib.Core.Bool.{true, false, not}
use mathlib.Core.List.{List}
use mathlib.Core.Path.{◌≡◌, sym, subst, ap, ◌∙◌}
use Prim.Native.Nat.{ℕ, ◌≤◌, ◌<◌}
use native.Mathlib.Omega.{arith}
use lib.Bits.{bit_and, bit_or, bit_xor}
use lib.Dec.{eqb, ltb}
use lib.ListN.{get_or}
use borrow.Author.Tests.{eqb-true, eqb-false, ltb-true, ltb-false}
use Rattle.bits.specs.Word.{has_bit}
use Rattle.bits.specs.Set.{FirstAndRest}
use Rattle.bits.proofs.Below.{by_cases, true-false}
use Rattle.bits.proofs.Counting.{and_of, is_false}
use Rattle.bits.proofs.SetLaws.{and-bit, or-bit, empty_lacks, removed_lacks, removed_other}
use Rattle.eligible.specs.Classes.{Grouped}
use Rattle.narrow.specs.Fixing.{Reaching}
use Rattle.narrow.specs.Narrowing.{Common}
use Rattle.bits.proofs.Masks.{taken_was, xor_all, all_has, or_left, or_right}

module _ {people : ℕ} {c : ℕ → ℕ} (g : Grouped people c) {left p rest : ℕ} (t : FirstAndRest left p rest) where
  -- somebody who is no longer left is of the class of p
  pub of_crowd : (u : ℕ) → u < people → has_bit left u ≡ true → has_bit (bit_and rest (bit_xor (c p) 18446744073709551615)) u ≡ false
      → (p < people) × (c u ≡ c p)
  of_crowd u l h k =
      by_cases (ltb p people)
      (λ b.
      let b' : p < people = ltb-true p people b in
      by_cases (eqb u p)
      (λ x. (b', ap c (eqb-true u p x)))
      (λ x. by_cases (has_bit (c p) u)
      (λ y. (b', ((g.each p b').only u y).1))
      (λ y. true-false
      (and-bit rest (bit_xor (c p) 18446744073709551615) u
      ∙ and_of (has_bit rest u) _ (removed_other t.removed u (eqb-false u p x) ∙ h) (xor_all (c p) u (omega (arith, g.few)) ∙ ap not y))
      k)))
      (λ b. true-false h (t.lowest.before u (let z : people ≤ p = ltb-false p people b in omega arith)))

  pub reaching_more : {domain found mask : ℕ} → mask ≡ c p → Reaching people c domain left found
      → Reaching people c domain (bit_and rest (bit_xor mask 18446744073709551615)) (bit_or found mask)
  reaching_more {domain} {found} {mask} e w = subst (λ (m : ℕ). Reaching people c domain (bit_and rest (bit_xor m 18446744073709551615)) (bit_or found m)) (sym e)
      (record {
        has = λ u v l m h k d.
            or-bit found (c p) v
            ∙ by_cases (has_bit left u)
            (λ b. let o = of_crowd u l b k in or_right (has_bit found v) _ ((g.each p o.0).has v m (sym d ∙ o.1)))
            (λ b. or_left (has_bit found v) _ (w.has u v l m h b d));
      })

-- the steps left are of the steps, and the others are done
pub record CommonSoFar (people : ℕ) (c : ℕ → ℕ) (steps : ℕ) (dom : List ℕ) (left found : ℕ) : Type 0 where
  pub rest : (s : ℕ) → has_bit left s ≡ true → has_bit steps s ≡ true
  pub common : Common people c steps dom left found

module _ {people : ℕ} {c : ℕ → ℕ} {steps : ℕ} {dom : List ℕ} where
  pub common_none : Grouped people c → CommonSoFar people c steps dom steps 18446744073709551615
  common_none g = record { rest = λ s h. h; common = λ p l h. all_has p (omega (arith, g.few)) }

  pub common_more : {left found s left' r : ℕ} → CommonSoFar people c steps dom left found → FirstAndRest left s left' → Reaching people c (get_or dom s 0) 0 r
      → CommonSoFar people c steps dom left' (bit_and found r)
  common_more {found = found} {s = s} {r = r} w t reach =
      record {
        rest = λ u h. w.rest u (taken_was t u h);
        common = λ p l joins.
            and-bit found r p
            ∙ and_of (has_bit found p) (has_bit r p)
            (w.common p l (λ u h k. joins u h (is_false _ (λ x. true-false (taken_was t u x) k))))
            (let o = joins s (w.rest s t.lowest.has) (removed_lacks t.removed) in reach.has o.0 p o.1 l o.2 (empty_lacks o.0) o.3);
      }

  pub common_all : {left found : ℕ} → CommonSoFar people c steps dom left found → left ≡ 0 → Common people c steps dom 0 found
  common_all {found = found} w e = subst (λ (x : ℕ). Common people c steps dom x found) e w.common
