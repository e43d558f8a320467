-- A turn of the search: a way to place the step is tried, and either the search goes on from there and ends, or no valid plan goes that
-- way. When all ways are tried, no valid plan has the pattern. Assumes nothing.
use mathlib.Core.Bool.{Bool, true, false, not, ◌&&◌, ◌||◌, or-false}
use mathlib.Core.List.{List}
use mathlib.Core.Path.{◌≡◌, refl, sym, subst, ap, ap₂, ◌∙◌}
use Prim.Native.Nat.{ℕ, ◌+◌, ◌*◌, ◌-◌, ◌≤◌, ◌<◌}
use native.Mathlib.Omega.{arith}
use lib.Dec.{eqb, leb}
use lib.ListN.{get_or}
use borrow.Author.Tests.{eqb-true, eqb-false, leb-true, leb-false}
use Rattle.bits.specs.Word.{has_bit}
use Rattle.bits.specs.Set.{Added, Removed}
use Rattle.bits.proofs.Below.{by_cases, true-false}
use Rattle.bits.proofs.SetLaws.{zero_empty, added_has, added_keeps, added_other, removed_other, removed_was, removed_differs}
use Rattle.workflow.specs.Problem.{Job, May, RuleOk}
use Rattle.pattern.specs.declared.Size.{Size}
use Rattle.pattern.specs.Pattern.{Refining}
use Rattle.pattern.specs.Place.{with_step, grown}
use Rattle.pattern.specs.Search.{Exists}
use Rattle.pattern.specs.Tables.{label_in, job_with}
use Rattle.pattern.proofs.Place.{with_cases, grown_old, grown-joined, grown_apart}
use Rattle.pattern.proofs.Same.{pattern_same, possible_same, exists_same}
use Rattle.pattern.proofs.Search.{exists_grown}
use Rattle.levels.specs.Tabled.{Naming}
use Rattle.search.specs.Growth.{Joins}
use Rattle.search.specs.State.{Touched, Reached, FindOutcome, partner, depth, ByWay, Growable, Grew, WaysTried}

-- no step is left
pub outcome_end : {j : Job} {may : May} {placed rest : ℕ} {label : List ℕ} → Reached j may placed rest label → rest ≡ 0 → FindOutcome j may placed rest label label true
outcome_end {j} {may} {placed} {rest} {label} w e =
    record {
      sized = w.patterned.sized;
      won = λ t. record {
        final = placed;
        reached = subst (λ (x : ℕ). Reached j may placed x label) e w;
        all = λ s. sym (ap (◌||◌ (has_bit placed s)) (zero_empty rest e s) ∙ or-false (has_bit placed s));
      };
      lost = λ t. true-false refl t;
      kept = λ t. true-false refl t;
    }

-- a way with the group's label t and depth d has a number
way_number : (t d : ℕ) → t < 12 → 1 ≤ d → (w : ℕ) × (w ≤ d * 12) × (partner w ≡ t) × (depth w ≡ d)
way_number t d l m =
    by_cases (eqb t 0)
    (λ x. let e : t ≡ 0 = eqb-true t 0 x in (d * 12, omega arith, omega arith, omega arith))
    (λ x. let n : t ≡ 0 → ⊥ = eqb-false t 0 x in ((d - 1) * 12 + t, omega arith, omega arith, omega arith))

moved_over : (p r e : Bool) → (e ≡ true → r ≡ true) → (p || e) || (r && not e) ≡ p || r
moved_over true r e h = refl
moved_over false r true h = sym (h refl)
moved_over false true false h = refl
moved_over false false false h = refl

module _ {j : Job} {may : May} {placed rest next left s : ℕ} {label : List ℕ} (reached : Reached j may placed rest label) (chosen : has_bit rest s ≡ true)
    (added : Added placed s next) (gone : Removed rest s left) where
  pub tried_none : WaysTried j may placed s 0 label label
  tried_none = record { sized = reached.patterned.sized; kept = λ q u a b h. refl; failed = λ k l. absurd (omega arith) }

  pub reached_next : {w : ℕ} {before after : List ℕ} {r : Bool} → Grew j may placed next s w before after r → r ≡ true → Reached j may next left after
  reached_next g e =
      record {
        patterned = g.patterned e;
        passed = g.passed e;
        below = λ u h. reached.below u (removed_was gone u h);
        apart = λ u h. added_other added u (removed_differs gone u h) ∙ reached.apart u (removed_was gone u h);
        named = λ i u a l n k.
            let d : u ≡ s → ⊥ = λ e. true-false (subst (λ (x : ℕ). has_bit next x ≡ true) (sym e) (added_has added)) n in
            reached.named i u a l (sym (added_other added u d) ∙ n) (sym (removed_other gone u d) ∙ k);
      }

  pub outcome_won : {after last : List ℕ} {r : Bool} → FindOutcome j may next left after last r → r ≡ true → FindOutcome j may placed rest label last true
  outcome_won o e =
      let w = o.won e in
      record {
        sized = o.sized;
        won = λ t. record {
          final = w.final;
          reached = w.reached;
          all = λ u.
              w.all u ∙ ap₂ ◌||◌ (added.each u) (gone.each u)
              ∙ moved_over (has_bit placed u) (has_bit rest u) (eqb u s) (λ x. subst (λ (k : ℕ). has_bit rest k ≡ true) (sym (eqb-true u s x)) chosen);
        };
        lost = λ t. true-false refl t;
        kept = λ t. true-false refl t;
      }

  module _ {w : ℕ} {now : List ℕ} (tried : WaysTried j may placed s w label now) (within : w ≤ j.levels * 12) where
    pub turn_growable : ((i : ℕ) → i < j.rules → RuleOk j.steps j.levels (j.rule i)) → Growable j placed next s w now
    turn_growable ok =
        record {
          possible = λ i l.
              possible_same j.steps j.levels (has_bit placed) (has_bit placed) (label_in label) (label_in now)
              (record { sets = λ u k. refl; labels = λ q u a b k h. sym (tried.kept q u a b h) }) (j.rule i) (ok i l) (reached.passed.possible i l);
          patterned = record {
            sized = tried.sized;
            pattern = pattern_same j.steps j.levels (has_bit placed) (has_bit placed) (label_in label) (label_in now)
                (record { sets = λ u l. refl; labels = λ q u a b l h. sym (tried.kept q u a b h) }) reached.patterned.pattern;
            inside = reached.patterned.inside;
          };
          below = reached.below s chosen;
          unplaced = reached.apart s chosen;
          added = added;
          way = within;
        }

    joined_now : Joins placed label (partner w) (depth w) → Joins placed now (partner w) (depth w)
    joined_now i =
        record {
          among = i.among;
          leads = λ h. tried.kept (depth w) (partner w) h (omega arith) (i.among h) ∙ i.leads h;
        }

    -- the way is the same by the labels as they are now
    way_now : Joins placed label (partner w) (depth w) → ByWay j may placed label s w → ByWay j may placed now s w
    way_now i =
        exists_same j (with_step (has_bit placed) s) (with_step (has_bit placed) s) _ _
        (record {
          sets = λ u l. refl;
          labels = λ q u a b l h.
              with_cases (has_bit placed) s u h
              (λ e. subst (λ (x : ℕ). grown (label_in label) s (partner w) (depth w) q x ≡ grown (label_in now) s (partner w) (depth w) q x) (sym e)
              (by_cases (leb q (depth w))
              (λ x.
              let m : q ≤ depth w = leb-true q (depth w) x in
              grown-joined (label_in label) s (partner w) (depth w) q m
              ∙ sym (tried.kept q (partner w) a b (i.among (omega arith)))
              ∙ sym (grown-joined (label_in now) s (partner w) (depth w) q m))
              (λ x.
              let m : depth w < q = leb-false q (depth w) x in
              grown_apart (label_in label) s (partner w) (depth w) q m ∙ sym (grown_apart (label_in now) s (partner w) (depth w) q m))))
              (λ n k.
              grown_old (label_in label) s (partner w) (depth w) q u n ∙ sym (tried.kept q u a b k) ∙ sym (grown_old (label_in now) s (partner w) (depth w) q u n));
        })
        may

    -- one way more is tried
    more : (Joins placed label (partner w) (depth w) → ByWay j may placed label s w → ⊥)
        → (k : ℕ) → k < w + 1 → Joins placed label (partner k) (depth k) → ByWay j may placed label s k → ⊥
    more n k l i x =
        by_cases (eqb k w)
        (λ e.
        let y : k ≡ w = eqb-true k w e in
        n (subst (λ (v : ℕ). Joins placed label (partner v) (depth v)) y i) (subst (λ (v : ℕ). ByWay j may placed label s v) y x))
        (λ e. let y : k ≡ w → ⊥ = eqb-false k w e in tried.failed k (omega arith) i x)

    -- the way is refused by the tests
    pub tried_lost : {after : List ℕ} {r : Bool} → Grew j may placed next s w now after r → r ≡ false → WaysTried j may placed s (w + 1) label after
    tried_lost g e =
        record {
          sized = g.sized;
          kept = λ q u a b h. g.kept q u a b h ∙ tried.kept q u a b h;
          failed = more (λ i x. g.lost e (joined_now i) (way_now i x));
        }

    -- or the search from there fails
    pub tried_failed : {after last : List ℕ} {r r' : Bool} → Grew j may placed next s w now after r → r ≡ true → FindOutcome j may next left after last r'
        → r' ≡ false → WaysTried j may placed s (w + 1) label last
    tried_failed g e o f =
        record {
          sized = o.sized;
          kept = λ q u a b h. o.kept f q u a b (added_keeps added u h) ∙ g.kept q u a b h ∙ tried.kept q u a b h;
          failed = more (λ i x. o.lost f (g.same e (way_now i x)));
        }

  -- all ways are tried
  pub outcome_lost : {w : ℕ} {now : List ℕ} → Refining j → j.steps ≤ 12 → WaysTried j may placed s w label now → j.levels * 12 < w
      → FindOutcome j may placed rest label now false
  outcome_lost refining few tried full =
      record {
        sized = tried.sized;
        won = λ t. true-false refl (sym t);
        lost = λ t e.
            let x = exists_grown j may (has_bit placed) (label_in label) reached.patterned.pattern s (reached.below s chosen) (reached.apart s chosen) refining e in
            by_cases (eqb x.1 0)
            (λ y. apart x.0 x.1 (eqb-true x.1 0 y) x.4)
            (λ y.
            let n : x.1 ≡ 0 → ⊥ = eqb-false x.1 0 y in
            let o : 1 ≤ x.1 = omega arith in
            let below : x.0 < j.steps = x.2.below o in
            let k = way_number x.0 x.1 (omega arith) o in
            tried.failed k.0 (omega (arith, k.1, x.2.depth))
            (record {
              among = λ h. subst (λ (v : ℕ). has_bit placed v ≡ true) (sym k.2) (x.2.among o);
              leads = λ h. joined (sym k.2) (sym k.3) (x.3 o);
            })
            (by_number (sym k.2) (sym k.3) x.4));
        kept = λ t. tried.kept;
      }
    where
      joined : {t d t' d' : ℕ} → t ≡ t' → d ≡ d' → label_in label d t ≡ t → label_in label d' t' ≡ t'
      joined {t} {d} {t'} {d'} e f h = subst (λ (v : ℕ). label_in label v t' ≡ t') f (subst (λ (v : ℕ). label_in label d v ≡ v) e h)

      by_number : {t d t' d' : ℕ} → t ≡ t' → d ≡ d' → Exists j may (with_step (has_bit placed) s) (grown (label_in label) s t d)
          → Exists j may (with_step (has_bit placed) s) (grown (label_in label) s t' d')
      by_number {t} {d} {t'} {d'} e f h =
          subst (λ (v : ℕ). Exists j may (with_step (has_bit placed) s) (grown (label_in label) s t' v)) f
          (subst (λ (v : ℕ). Exists j may (with_step (has_bit placed) s) (grown (label_in label) s v d)) e h)

      -- with no group joined, the step joined is of no account
      apart : (t d : ℕ) → d ≡ 0 → Exists j may (with_step (has_bit placed) s) (grown (label_in label) s t d) → ⊥
      apart t d e x =
          tried.failed 0 (omega arith) (record { among = λ h. absurd (omega arith); leads = λ h. absurd (omega arith) })
          (exists_same j (with_step (has_bit placed) s) (with_step (has_bit placed) s) (grown (label_in label) s t d) (grown (label_in label) s (partner 0) (depth 0))
          (record {
            sets = λ u l. refl;
            labels = λ q u a b l h.
                with_cases (has_bit placed) s u h
                (λ z. subst (λ (v : ℕ). grown (label_in label) s t d q v ≡ grown (label_in label) s (partner 0) (depth 0) q v) (sym z)
                (grown_apart (label_in label) s t d q (omega arith) ∙ sym (grown_apart (label_in label) s (partner 0) (depth 0) q (omega arith))))
                (λ n k. grown_old (label_in label) s t d q u n ∙ sym (grown_old (label_in label) s (partner 0) (depth 0) q u n));
          })
          may x)

-- the rules that name a step, by the table
pub named_touched : {size : Size} {class : ℕ → ℕ → ℕ} {rule of : List ℕ} {s : ℕ} → Naming size.rules rule of → s < 12
    → Touched (job_with size class rule) (get_or of s 0) s
named_touched {s = s} w l = record { below = λ i h. (w.only i s l h).0; all = λ i k h. w.has i s k l h }
