-- The labels of a step that is placed, written level by level. Assumes nothing.
use mathlib.Core.Bool.{Bool, true, false, cond}
use mathlib.Core.List.{List}
use mathlib.Core.Path.{◌≡◌, refl, sym, subst, ap, ◌∙◌}
use Prim.Native.Nat.{ℕ, ◌+◌, ◌*◌, ◌-◌, ◌≤◌, ◌<◌}
use native.Mathlib.Omega.{arith}
use lib.Dec.{eqb, ltb}
use lib.ListN.{length, get_or, set, length-set}
use lib.Seq.{get_or-set_same, get_or-set_other}
use borrow.Author.Tests.{eqb-true, eqb-false, ltb-true, ltb-false}
use Rattle.bits.specs.Word.{has_bit}
use Rattle.bits.proofs.Below.{by_cases, true-false}
use Rattle.bits.specs.Says.{Says}
use Rattle.bits.proofs.Says.{says_of}
use Rattle.bits.specs.Sizes.{most_levels, label_entries}
use Rattle.pattern.specs.Place.{grown}
use Rattle.pattern.specs.Tables.{label_in}
use Rattle.pattern.proofs.Place.{grown_old, grown-joined, grown_apart}
use Rattle.search.specs.Growth.{Grows, Joins}

module _ (placed : ℕ) (label : List ℕ) (t d : ℕ) where
  pub joins_none : d ≡ 0 → Joins placed label t d
  joins_none e = record { among = λ h. absurd (omega arith); leads = λ h. absurd (omega arith) }

  pub joins_unplaced : (d ≡ 0 → ⊥) → has_bit placed t ≡ false → Joins placed label t d → ⊥
  joins_unplaced n h w = true-false (w.among (omega arith)) h

  pub joins_says : (d ≡ 0 → ⊥) → has_bit placed t ≡ true → Says (eqb (label_in label d t) t) (Joins placed label t d)
  joins_says n h =
      says_of _ _
      (λ x. record { among = λ k. h; leads = λ k. eqb-true (label_in label d t) t x })
      (λ x w. eqb-false (label_in label d t) t x (w.leads (omega arith)))

-- the levels down to q are written
pub record Growing (s t d q : ℕ) (label label' : List ℕ) : Type 0 where
  pub sized : length label' ≡ label_entries
  pub done : (r u : ℕ) → 1 ≤ r → r ≤ q → u < 12 → label_in label' r u ≡ grown (label_in label) s t d r u
  pub left : (r u : ℕ) → q < r → r ≤ most_levels → u < 12 → label_in label' r u ≡ label_in label r u

module _ (s t d q : ℕ) (label label' : List ℕ) (v : ℕ) (new : s < 12) (old : t < 12) (below : q < most_levels) (w : Growing s t d q label label')
    (is : v ≡ cond (ltb q d) (get_or label' (q * 12 + t) 0) s) where
  elsewhere : (r u : ℕ) → ((r - 1) * 12 + u ≡ q * 12 + s → ⊥) → label_in (set label' (q * 12 + s) v) r u ≡ label_in label' r u
  elsewhere r u h = get_or-set_other label' (q * 12 + s) ((r - 1) * 12 + u) v 0 h

  here : label_in (set label' (q * 12 + s) v) (q + 1) s ≡ v
  here =
      let e : (q + 1 - 1) * 12 + s ≡ q * 12 + s = omega arith in
      subst (λ (k : ℕ). get_or (set label' (q * 12 + s) v) k 0 ≡ v) (sym e) (get_or-set_same label' (q * 12 + s) v 0 (omega (arith, w.sized)))

  value : v ≡ grown (label_in label) s t d (q + 1) s
  value =
      by_cases (ltb q d)
      (λ x.
      let l : q < d = ltb-true q d x in
      let e : q * 12 + t ≡ (q + 1 - 1) * 12 + t = omega arith in
      is ∙ ap (λ (b : Bool). cond b (get_or label' (q * 12 + t) 0) s) x ∙ ap (λ (k : ℕ). get_or label' k 0) e
      ∙ w.left (q + 1) t (omega arith) (omega arith) old ∙ sym (grown-joined (label_in label) s t d (q + 1) (omega arith)))
      (λ x.
      let l : d ≤ q = ltb-false q d x in
      is ∙ ap (λ (b : Bool). cond b (get_or label' (q * 12 + t) 0) s) x ∙ sym (grown_apart (label_in label) s t d (q + 1) (omega arith)))

  at_level : (u : ℕ) → u < 12 → label_in (set label' (q * 12 + s) v) (q + 1) u ≡ grown (label_in label) s t d (q + 1) u
  at_level u l =
      by_cases (eqb u s)
      (λ x. subst (λ (k : ℕ). label_in (set label' (q * 12 + s) v) (q + 1) k ≡ grown (label_in label) s t d (q + 1) k) (sym (eqb-true u s x)) (here ∙ value))
      (λ x.
      let n : u ≡ s → ⊥ = eqb-false u s x in
      elsewhere (q + 1) u (λ e. omega arith) ∙ w.left (q + 1) u (omega arith) (omega arith) l ∙ sym (grown_old (label_in label) s t d (q + 1) u n))

  pub growing_more : Growing s t d (q + 1) label (set label' (q * 12 + s) v)
  growing_more =
      record {
        sized = length-set label' (q * 12 + s) v ∙ w.sized;
        done = λ r u a b l.
            by_cases (eqb r (q + 1))
            (λ x. subst (λ (k : ℕ). label_in (set label' (q * 12 + s) v) k u ≡ grown (label_in label) s t d k u) (sym (eqb-true r (q + 1) x)) (at_level u l))
            (λ x.
            let n : r ≡ q + 1 → ⊥ = eqb-false r (q + 1) x in
            elsewhere r u (λ e. omega arith) ∙ w.done r u a (omega arith) l);
        left = λ r u a b l. elsewhere r u (λ e. omega arith) ∙ w.left r u (omega arith) b l;
      }

pub growing_all : (levels s t d q : ℕ) (label label' : List ℕ) → Growing s t d q label label' → levels ≤ q → Grows levels s t d label label'
growing_all levels s t d q label label' w h = record { sized = w.sized; each = λ r u a b l. w.done r u a (omega arith) l }

pub group_joined : (q d a s : ℕ) → q < d → a ≡ cond (ltb q d) a s
group_joined q d a s l = ap (λ (b : Bool). cond b a s) (sym (borrow.Author.Tests.lt-ltb q d l))

pub group_own : (q d a s : ℕ) → d ≤ q → s ≡ cond (ltb q d) a s
group_own q d a s l = ap (λ (b : Bool). cond b a s) (sym (borrow.Author.Tests.le-ltb q d l))
