-- Two steps of one group share a class, so the classes that they can reach meet. Assumes nothing.
use mathlib.Core.Bool.{Bool, true, false, not}
use mathlib.Core.List.{List}
use mathlib.Core.Path.{◌≡◌, refl, sym, subst, ◌∙◌}
use Prim.Native.Nat.{ℕ, suc, ◌-◌, ◌≤◌, ◌<◌}
use native.Mathlib.Omega.{arith}
use lib.Bits.{bit_and}
use lib.Dec.{eqb}
use borrow.Author.Tests.{eqb-true, not-true, not-false}
use Rattle.bits.specs.Word.{has_bit}
use Rattle.bits.proofs.Below.{true-false}
use Rattle.bits.proofs.Counting.{and_of}
use Rattle.bits.proofs.SetLaws.{and-bit, zero_empty}
use Rattle.workflow.specs.Problem.{Job}
use Rattle.pattern.specs.Tables.{may_in, label_in}
use Rattle.pattern.proofs.Place.{with_own, with_old, grown-joined, grown_placed}
use Rattle.realize.specs.Parts.{Offers}
use Rattle.search.specs.Meet.{reach_in, Meets}
use Rattle.search.specs.State.{partner, depth, Growable, Grew}
use Rattle.search.proofs.Node.{grew_not}

module _ (reach : List ℕ) (d s t : ℕ) where
  pub meets_nothing : Meets reach d s t true
  meets_nothing = record { apart = λ e. true-false refl e; some = λ e. true-false refl e }

  pub meets_reach : (d ≡ 0 → ⊥) → Meets reach d s t (not (eqb (bit_and (reach_in reach d s) (reach_in reach d t)) 0))
  meets_reach n =
      record {
        apart = λ e v h k.
            let z : bit_and (reach_in reach d s) (reach_in reach d t) ≡ 0 = eqb-true _ 0 (not-false _ e) in
            true-false
            (and-bit (reach_in reach d s) (reach_in reach d t) v ∙ and_of (has_bit (reach_in reach d s) v) (has_bit (reach_in reach d t) v) h k)
            (zero_empty _ z v);
        some = λ e. omega arith;
      }

-- a step reaches the class of each person permitted
reach_own : {j : Job} {may reach : List ℕ} → Offers j may reach → (d s p : ℕ) → 1 ≤ d → d ≤ j.levels → s < 12
    → p < j.people → may_in may s p ≡ true → has_bit (reach_in reach d s) (j.class d p) ≡ true
reach_own {j} {may} {reach} w d s p a b l k m =
    let e : suc (d - 1) ≡ d = omega arith in
    subst (λ (q : ℕ). has_bit (reach_in reach d s) (j.class q p) ≡ true) e (w.has (d - 1) s p (omega arith) l k m)

module _ {j : Job} {label : List ℕ} {placed next s w : ℕ} (few : j.steps ≤ 12) (g : Growable j placed next s w label)
    (may reach : List ℕ) (offers : Offers j may reach) where
  pub grew_unmet : (r : Bool) → Meets reach (depth w) s (partner w) r → not r ≡ true
      → Grew j (may_in may) placed next s w label label false
  grew_unmet r m f =
      grew_not g (may_in may) few
      (λ joined x.
      let n : 1 ≤ depth w = m.some (not-true r f) in
      let i = joined.among n in
      let l = g.patterned.inside (partner w) i in
      let d : depth w ≤ j.levels = omega (arith, g.way) in
      let same : j.class (depth w) (x.plan s) ≡ j.class (depth w) (x.plan (partner w)) =
      (x.has.alike (depth w) n (omega (arith, g.way))).back s (partner w) g.below l (with_own (has_bit placed) s) (with_old (has_bit placed) s (partner w) i)
      (grown-joined (label_in label) s (partner w) (depth w) (depth w) (omega arith)
      ∙ sym (grown_placed j.steps j.levels (has_bit placed) (label_in label) g.patterned.pattern s g.below g.unplaced (partner w) (depth w) (depth w) (partner w) i))
      in
      m.apart (not-true r f) (j.class (depth w) (x.plan s))
      (reach_own offers (depth w) s (x.plan s) n d (omega (arith, g.below)) (x.valid.within s g.below) (x.valid.authorised s g.below))
      (subst (λ (c : ℕ). has_bit (reach_in reach (depth w) (partner w)) c ≡ true) (sym same)
      (reach_own offers (depth w) (partner w) (x.plan (partner w)) n d (omega arith) (x.valid.within (partner w) l) (x.valid.authorised (partner w) l))))
