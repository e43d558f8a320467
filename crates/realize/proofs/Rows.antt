-- The graph of groups and classes, filled in class by class and group by group. Assumes nothing.
use mathlib.Core.Bool.{Bool, true, false}
use Rattle.std.specs.Prelude.{Option, None, is_some}
use mathlib.Core.List.{List}
use mathlib.Core.Logic.{inl, inr}
use mathlib.Core.Path.{◌≡◌, refl, sym, subst, ap, ◌∙◌}
use Prim.Native.Nat.{ℕ, suc, ◌+◌, ◌*◌, ◌≤◌, ◌<◌}
use native.Mathlib.Numerals.{add-one}
use native.Mathlib.Omega.{arith}
use lib.Bits.{bit_and}
use lib.Dec.{eqb}
use lib.ListN.{length, get_or, set, length-set}
use lib.Seq.{get_or-set_same, get_or-set_other}
use borrow.Author.Tests.{eqb-true, eqb-false}
use Rattle.bits.specs.Word.{has_bit}
use Rattle.bits.specs.Set.{Added, Removed, Lowest, FirstAndRest, Mask}
use Rattle.bits.proofs.Below.{by_cases, true-false}
use Rattle.bits.proofs.Counting.{and_of}
use Rattle.bits.proofs.Masks.{mask_in, taken_was}
use Rattle.bits.proofs.SetLaws.{and-bit, and-bit_left, and-bit_right, empty_lacks, zero_empty, has_below, part_le, added_has, added_other, removed_other, removed_differs}
use Rattle.matching.specs.Assignment.{Covers, in_mask, suits, classes_of}
use Rattle.workflow.specs.Problem.{Job, May}
use Rattle.pattern.specs.Pattern.{Label}
use Rattle.pattern.specs.Tables.{may_in, label_in}
use Rattle.pattern.specs.Realize.{Realized, fibre, groups}
use Rattle.pattern.proofs.Realize.{realized_last}
use Rattle.pattern.proofs.Sets.{fibre_in, groups_in_lem}
use Rattle.realize.specs.declared.parts.Task.{Task}
use Rattle.realize.specs.Parts.{ArraysSized, people_in, groups_in, group_in, group_task, class_task, TablesOf}
use Rattle.realize.specs.Decision.{Decided, Candidates, Hosting, Hosted, Row, Linked, Covering}

-- a group has no more steps than the set that it is part of
pub group_sized : {levels : ℕ} {may label nest reach : List ℕ} {steps group : ℕ} → ArraysSized levels may label nest reach steps → (c : ℕ → ℕ) (g : ℕ)
    → Mask (fibre (has_bit steps) c g) group → ArraysSized levels may label nest reach group
group_sized {steps = steps} {group = group} w c g m =
    record {
      deep = w.deep;
      masks = w.masks;
      labels = w.labels;
      nests = w.nests;
      reaches = w.reaches;
      below = omega (arith, w.below, part_le group steps (λ s h. fibre_in (has_bit steps) c g s (mask_in m s h)));
    }

-- groups are steps
pub heads_few : {levels : ℕ} {may label nest reach : List ℕ} {steps heads : ℕ} → ArraysSized levels may label nest reach steps → (c : ℕ → ℕ)
    → Mask (groups (has_bit steps) c) heads → heads < 4096
heads_few {steps = steps} {heads = heads} w c m =
    omega (arith, w.below, part_le heads steps (λ g h. groups_in_lem (has_bit steps) c g (mask_in m g h)))

-- ---- a group of one step

-- a step goes to anybody of C who may do it, whatever the labels
realized_single : (j : Job) (may : May) (label : Label) (q : ℕ) (S C : ℕ → Bool) (g p : ℕ) → ((s : ℕ) → S s ≡ true → s ≡ g)
    → p < j.people → C p ≡ true → may g p ≡ true → Realized j may label q S C
realized_single j may label q S C g p only l c m = (
  λ s. p,
  record {
    within = λ s k h. l;
    inside = λ s k h. c;
    authorised = λ s k h. subst (λ (x : ℕ). may x p ≡ true) (sym (only s h)) m;
    alike = λ r a b. record {
      forth = λ s t k i h x e. ap (label r) (only s h ∙ sym (only t x));
      back = λ s t k i h x e. refl;
    };
  },
)

realized_none : (j : Job) (may : May) (label : Label) (q : ℕ) (S C : ℕ → Bool) → ((s : ℕ) → S s ≡ true → ⊥) → Realized j may label q S C
realized_none j may label q S C none₁ = (
  λ s. 0,
  record {
    within = λ s k h. absurd (none₁ s h);
    inside = λ s k h. absurd (none₁ s h);
    authorised = λ s k h. absurd (none₁ s h);
    alike = λ r a b. record {
      forth = λ s t k i h x e. absurd (none₁ s h);
      back = λ s t k i h x e. refl;
    };
  },
)

-- ---- the classes that have somebody for each step

pub candidates_next : {reach : List ℕ} {q group inside rest r s rest' : ℕ} → Candidates reach q group inside rest r → FirstAndRest rest s rest'
    → Candidates reach q group inside rest' (bit_and r (get_or reach (q * 12 + s) 0))
candidates_next {reach} {q} {group} {inside} {rest} {r} {s} {rest'} w first =
    record {
      part = λ t h. w.part t (taken_was first t h);
      among = λ v h. w.among v (and-bit_left r (get_or reach (q * 12 + s) 0) v h);
      each = λ v t h k n.
          by_cases (eqb t s)
          (λ e. subst (λ (x : ℕ). has_bit (get_or reach (q * 12 + x) 0) v ≡ true) (sym (eqb-true t s e)) (and-bit_right r (get_or reach (q * 12 + s) 0) v h))
          (λ e. w.each v t (and-bit_left r (get_or reach (q * 12 + s) 0) v h) k (sym (removed_other first.removed t (eqb-false t s e)) ∙ n));
      all = λ v h f.
          and-bit r (get_or reach (q * 12 + s) 0) v
          ∙ and_of (has_bit r v) (has_bit (get_or reach (q * 12 + s) 0) v) (w.all v h f) (f s (w.part s first.lowest.has));
    }

pub candidates_all : {reach : List ℕ} {q group inside rest r : ℕ} → Candidates reach q group inside rest r → rest ≡ 0 → Candidates reach q group inside 0 r
candidates_all {reach} {q} {group} {inside} {rest} {r} w e = subst (λ (x : ℕ). Candidates reach q group inside x r) e w

-- ---- the classes that host a group

module _ {may label nest reach : List ℕ} {t : Task} {row rest r v rest' : ℕ} (w : Hosting may label nest reach t row rest r)
    (first : FirstAndRest rest v rest') where
  -- class v does not host the group
  pub hosting_skip : {d : Bool} → Decided may label nest reach (class_task nest t v) d → d ≡ false → Hosting may label nest reach t row rest' r
  hosting_skip d e =
      record {
        part = λ u h. w.part u (taken_was first u h);
        only = w.only;
        left = λ u h. w.left u (taken_was first u h);
        done = λ u h n.
            by_cases (eqb u v)
            (λ x. subst (λ (y : ℕ). Decided may label nest reach (class_task nest t y) (has_bit r y)) (sym (eqb-true u v x))
            (subst (Decided may label nest reach (class_task nest t v)) (e ∙ sym (w.left v first.lowest.has)) d))
            (λ x. w.done u h (sym (removed_other first.removed u (eqb-false u v x)) ∙ n));
      }

  -- class v hosts it
  pub hosting_take : {d : Bool} {r' : ℕ} → Decided may label nest reach (class_task nest t v) d → d ≡ true → Added r v r'
      → Hosting may label nest reach t row rest' r'
  hosting_take {d} {r'} x e more =
      record {
        part = λ u h. w.part u (taken_was first u h);
        only = λ u h.
            by_cases (eqb u v)
            (λ t. subst (λ (y : ℕ). has_bit row y ≡ true) (sym (eqb-true u v t)) (w.part v first.lowest.has))
            (λ t. w.only u (sym (added_other more u (eqb-false u v t)) ∙ h));
        left = λ u h. added_other more u (removed_differs first.removed u h) ∙ w.left u (taken_was first u h);
        done = λ u h n.
            by_cases (eqb u v)
            (λ z. subst (λ (y : ℕ). Decided may label nest reach (class_task nest t y) (has_bit r' y)) (sym (eqb-true u v z))
            (subst (Decided may label nest reach (class_task nest t v)) (e ∙ sym (added_has more)) x))
            (λ z. let y : u ≡ v → ⊥ = eqb-false u v z in
            subst (Decided may label nest reach (class_task nest t u)) (sym (added_other more u y))
            (w.done u h (sym (removed_other first.removed u y) ∙ n)));
      }

pub hosting_all : {may label nest reach : List ℕ} {t : Task} {row rest r : ℕ} → Hosting may label nest reach t row rest r → rest ≡ 0
    → Hosting may label nest reach t row 0 r
hosting_all {may} {label} {nest} {reach} {t} {row} {rest} {r} w e = subst (λ (x : ℕ). Hosting may label nest reach t row x r) e w

-- what lies inside a class, one level down
pub part_at : (j : Job) (nest : List ℕ) (t : Task) (v p : ℕ)
    → people_in j (class_task nest t v) p ≡ has_bit (get_or nest (t.q * 64 + v) 0) (j.class (suc (suc t.q)) p)
part_at j nest t v p = ap (λ (x : ℕ). has_bit (get_or nest (t.q * 64 + v) 0) (j.class (suc x) p)) (add-one t.q)

module _ {reach : List ℕ} {t : Task} {row : ℕ} (few : t.steps < 4096) (deep : t.q < t.levels)
    (w : Candidates reach t.q t.steps t.inside 0 row) where
  -- in the class of a candidate each step has somebody
  able : {j : Job} {may nest : List ℕ} → TablesOf j t.levels may nest reach → (v s : ℕ) → has_bit row v ≡ true → has_bit t.steps s ≡ true
      → (p : ℕ) × (p < j.people) × (people_in j (class_task nest t v) p ≡ true) × (may_in may s p ≡ true)
  able {j} {may} {nest} tables v s h k =
      let d : t.q < j.levels = omega (arith, tables.depth) in
      let o = tables.offers.only t.q s v d (has_below 12 t.steps s few k) (w.each v s h k (empty_lacks s)) in (
        o.0,
        o.1,
        part_at j nest t v o.0
            ∙ subst (λ (x : ℕ). has_bit (get_or nest (t.q * 64 + x) 0) (j.class (suc (suc t.q)) o.0) ≡ true) o.3 (tables.nest_has t.q o.0 d o.1),
        o.2,
      )

module _ {may label nest reach : List ℕ} {t : Task} {row : ℕ} (few : t.steps < 4096) (deep : t.q < t.levels)
    (w : Candidates reach t.q t.steps t.inside 0 row) where
  all_host : ((v : ℕ) → has_bit row v ≡ true → Decided may label nest reach (class_task nest t v) true) → Hosted may label nest reach t row
  all_host f =
      record {
        row = row;
        candidates = w;
        hosting = record {
          part = λ v h. true-false h (empty_lacks v);
          only = λ v h. h;
          left = λ v h. true-false h (empty_lacks v);
          done = λ v h n. subst (Decided may label nest reach (class_task nest t v)) (sym h) (f v h);
        };
      }

  -- at the last level no more is asked
  pub hosted_last : t.levels ≤ t.q + 1 → Hosted may label nest reach t row
  hosted_last last =
      all_host (λ v h. record {
        says = λ j part.
            (realized_last j (may_in may) (label_in label) (t.q + 1) (omega (arith, part.tables.depth)) (has_bit t.steps) _).1
            (λ s l k. able few deep w part.tables v s h k);
      })

  -- one step goes to anybody who may do it
  pub hosted_single : {g : ℕ} (rest : ℕ) → Removed t.steps g rest → rest ≡ 0 → Hosted may label nest reach t row
  hosted_single {g} rest gone e =
      all_host (λ v h. record {
        says = λ j part.
            by_cases (has_bit t.steps g)
            (λ x. let a = able few deep w part.tables v g h x in
            realized_single j (may_in may) (label_in label) (t.q + 1) (has_bit t.steps) _ g a.0 only a.1 a.2 a.3)
            (λ x. realized_none j (may_in may) (label_in label) (t.q + 1) (has_bit t.steps) _
            (λ s k. true-false k (subst (λ (y : ℕ). has_bit t.steps y ≡ false) (sym (only s k)) x)));
      })
    where
      only : (s : ℕ) → has_bit t.steps s ≡ true → s ≡ g
      only s k = by_cases (eqb s g) (λ x. eqb-true s g x) (λ x. true-false (removed_other gone s (eqb-false s g x) ∙ k) (zero_empty rest e s))

  -- else each class is tried
  pub hosted_tried : {rest r : ℕ} → Hosting may label nest reach t row rest r → rest ≡ 0 → Hosted may label nest reach t r
  hosted_tried {rest} {r} x e = record { row = row; candidates = w; hosting = hosting_all x e }

-- ---- the rows of the groups

-- group g has its row
pub linked_next : {may label nest reach : List ℕ} {t : Task} {heads rest : ℕ} {edges : List ℕ} {g rest' group row : ℕ}
    → Linked may label nest reach t heads rest edges → FirstAndRest rest g rest' → g < 12 → Mask (group_in label t g) group
    → Hosted may label nest reach (group_task t group) row → Linked may label nest reach t heads rest' (set edges g row)
linked_next {may} {label} {nest} {reach} {t} {heads} {rest} {edges} {g} {rest'} {group} {row} w first l mask hosted =
    record {
      sized = length-set edges g row ∙ w.sized;
      part = λ k h. w.part k (taken_was first k h);
      done = λ k h n.
          by_cases (eqb k g)
          (λ x. subst (λ (y : ℕ). Row may label nest reach t y (get_or (set edges g row) y 0)) (sym (eqb-true k g x))
          (subst (Row may label nest reach t g) (sym (get_or-set_same edges g row 0 (omega (arith, w.sized))))
          (record { group = group; mask = mask; hosted = hosted })))
          (λ x. let d : k ≡ g → ⊥ = eqb-false k g x in
          subst (Row may label nest reach t k) (sym (get_or-set_other edges g k row 0 d))
          (w.done k h (sym (removed_other first.removed k d) ∙ n)));
    }

module _ {may label nest reach : List ℕ} {t : Task} {heads : ℕ} (groups_mask : Mask (groups_in label t) heads) {rest : ℕ} {edges : List ℕ}
    (w : Linked may label nest reach t heads rest edges) where
  -- each group has its row
  pub covering_all : {found : Option (List ℕ)} → rest ≡ 0 → Covers (in_mask heads) (suits edges) (is_some found) (classes_of found)
      → Covering may label nest reach t found
  covering_all e covers =
      record {
        heads = heads;
        mask = groups_mask;
        answer = inr (edges, subst (λ (x : ℕ). Linked may label nest reach t heads x edges) e w, covers);
      }

  -- a group whose row is empty
  pub covering_none : {g group row : ℕ} → Lowest rest g → Mask (group_in label t g) group
      → Hosted may label nest reach (group_task t group) row → row ≡ 0 → Covering may label nest reach t None
  covering_none {g} {group} low mask hosted e =
      record {
        heads = heads;
        mask = groups_mask;
        answer = inl (
          refl,
          record {
            who = g;
            among = w.part g low.has;
            row = record { group = group; mask = mask; hosted = subst (λ (x : ℕ). Hosted may label nest reach (group_task t group) x) e hosted };
          },
        );
      }
