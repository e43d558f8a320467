-- Leaving some steps only some people, step by step. Assumes nothing.
use mathlib.Core.Bool.{true}
use mathlib.Core.List.{List}
use mathlib.Core.Path.{◌≡◌, sym, subst, ap, ◌∙◌}
use Prim.Native.Nat.{ℕ, ◌<◌}
use native.Mathlib.Omega.{arith}
use lib.Bits.{bit_and}
use lib.Dec.{eqb}
use lib.ListN.{length, get_or, set, length-set}
use lib.Seq.{get_or-set_same, get_or-set_other}
use borrow.Author.Tests.{eqb-true, eqb-false}
use Rattle.bits.specs.Word.{has_bit}
use Rattle.bits.specs.Set.{Added, FirstAndRest}
use Rattle.bits.proofs.Below.{by_cases, true-false}
use Rattle.bits.proofs.Counting.{and_of}
use Rattle.bits.proofs.SetLaws.{and-bit, and-bit_left, empty_lacks, zero_empty, has_below, added_other}
use Rattle.bits.proofs.Masks.{taken_was, bits_below}
use Rattle.pattern.specs.Tables.{may_in}
use Rattle.std.proofs.Common.{Result, Ok, Err, is_err}
use Rattle.std.specs.Result.{IfOk, result_unwrap_or}
use Rattle.narrow.specs.declared.restrict.Unmet.{Unmet}
use Rattle.narrow.specs.Domains.{Fewer}
use Rattle.narrow.specs.Narrowing.{Restricting, Restricted}

pub fewer_same : (dom : List ℕ) → length dom ≡ 12 → Fewer dom dom
fewer_same dom e = record { sized = e; part = λ s p h. h }

pub fewer_then : (dom dom' dom'' : List ℕ) → Fewer dom dom' → Fewer dom' dom'' → Fewer dom dom''
fewer_then dom dom' dom'' a b = record { sized = b.sized; part = λ s p h. a.part s p (b.part s p h) }

module _ {steps people : ℕ} {dom : List ℕ} where
  module _ {dom' : List ℕ} {left changed s left' : ℕ} (w : Restricting steps people dom dom' left changed) (t : FirstAndRest left s left') where
    -- it has others too
    pub restricting_take : s < 12 → {changed' : ℕ} → Added changed s changed'
        → Restricting steps people dom (set dom' s (bit_and (get_or dom' s 0) people)) left' changed'
    restricting_take below more =
        record {
          fewer = record {
            sized = length-set dom' s _ ∙ w.fewer.sized;
            part = λ u p h.
                by_cases (eqb u s)
                (λ x. let e : u ≡ s = eqb-true u s x in
                subst (λ (x : ℕ). may_in dom x p ≡ true) (sym e)
                (w.fewer.part s p (and-bit_left (get_or dom' s 0) people p (sym (own p) ∙ subst (λ (x : ℕ). may_in (set dom' s (bit_and (get_or dom' s 0) people)) x p ≡ true) e h))))
                (λ x. w.fewer.part u p (sym (other u p (eqb-false u s x)) ∙ h));
          };
          keeps = λ u p h k.
              by_cases (eqb u s)
              (λ x. let e : u ≡ s = eqb-true u s x in
              subst (λ (x : ℕ). may_in (set dom' s (bit_and (get_or dom' s 0) people)) x p ≡ true) (sym e)
              (own p ∙ and-bit (get_or dom' s 0) people p
              ∙ and_of (may_in dom' s p) (has_bit people p) (subst (λ (x : ℕ). may_in dom' x p ≡ true) e (w.keeps u p h k))
              (k (subst (λ (x : ℕ). has_bit steps x ≡ true) (sym e) (w.rest s t.lowest.has)))))
              (λ x. other u p (eqb-false u s x) ∙ w.keeps u p h k);
          rest = λ u h. w.rest u (taken_was t u h);
          among = λ u h.
              by_cases (eqb u s)
              (λ x. subst (λ (y : ℕ). has_bit steps y ≡ true) (sym (eqb-true u s x)) (w.rest s t.lowest.has))
              (λ x. w.among u (sym (added_other more u (eqb-false u s x)) ∙ h));
        }
      where
        own : (p : ℕ) → may_in (set dom' s (bit_and (get_or dom' s 0) people)) s p ≡ has_bit (bit_and (get_or dom' s 0) people) p
        own p = ap (λ (x : ℕ). has_bit x p) (get_or-set_same dom' s _ 0 (omega (arith, w.fewer.sized)))

        other : (u p : ℕ) → (u ≡ s → ⊥) → may_in (set dom' s (bit_and (get_or dom' s 0) people)) u p ≡ may_in dom' u p
        other u p d = ap (λ (x : ℕ). has_bit x p) (get_or-set_other dom' s u _ 0 d)

    -- nobody of it is such
    pub restricted_fails : bit_and (get_or dom' s 0) people ≡ 0 → Restricted steps people dom dom' true 0
    restricted_fails e =
        record {
          done = record {
            fewer = w.fewer;
            keeps = w.keeps;
            rest = λ u h. true-false h (empty_lacks u);
            among = λ u h. true-false h (empty_lacks u);
          };
          lost = λ x. (
            s,
            w.rest s t.lowest.has,
            λ p h k.
                true-false
                (and-bit (get_or dom' s 0) people p ∙ and_of (may_in dom' s p) (has_bit people p) (w.keeps s p h (λ i. k)) k)
                (zero_empty (bit_and (get_or dom' s 0) people) e p),
          );
        }

  pub changed_small : {dom' : List ℕ} (r : Result ℕ Unmet) → Restricted steps people dom dom' (is_err r) (result_unwrap_or r 0) → steps < 4096
      → IfOk r (λ changed. changed < 4096)
  changed_small (Ok changed) w l = bits_below 12 changed (λ s h. has_below 12 steps s l (w.done.among s h))
  changed_small (Err e) w l = tt
