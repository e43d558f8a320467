-- The graph that the tables hold is that of Lemma 3.9, so its matchings decide. Assumes nothing.
use mathlib.Core.Bool.{Bool, true, false}
use Rattle.std.specs.Prelude.{Option, None, Some, is_some}
use mathlib.Core.List.{List}
use mathlib.Core.Logic.{⊎_elim}
use mathlib.Core.Path.{◌≡◌, refl, sym, subst, ap, ◌∙◌}
use Prim.Native.Nat.{ℕ, suc, ◌+◌, ◌*◌, ◌≤◌, ◌<◌}
use native.Mathlib.Numerals.{add-one}
use native.Mathlib.Omega.{arith}
use lib.Dec.{ltb}
use lib.ListN.{get_or}
use borrow.Author.Tests.{lt-ltb}
use Rattle.bits.specs.Says.{Says}
use Rattle.bits.specs.Set.{Mask}
use Rattle.bits.specs.Word.{has_bit}
use Rattle.bits.proofs.Below.{by_cases, true-false, and_right}
use Rattle.bits.proofs.Counting.{and_of}
use Rattle.bits.proofs.Masks.{mask_has, mask_in}
use Rattle.bits.proofs.Says.{says_of, says_true, says_false}
use Rattle.bits.proofs.SetLaws.{empty_lacks, has_below}
use Rattle.matching.specs.Assignment.{Assignment, Covers, in_mask, suits, class_at}
use Rattle.workflow.specs.Problem.{Job}
use Rattle.pattern.specs.Tables.{may_in, label_in}
use Rattle.pattern.specs.Realize.{Realized, Realizes, fibre, Hosts, Matching}
use Rattle.pattern.proofs.Sets.{fibre_of, fibre_in, fibre_at, groups_in_lem, groups_own}
use Rattle.pattern.proofs.Realize.{realizes_mono, realized_mono, realized_last}
use Rattle.pattern.proofs.Matching.{realized_match, match_realized}
use Rattle.realize.specs.declared.parts.Task.{Task}
use Rattle.realize.specs.Parts.{people_in, Does, Doable, groups_in, group_in, group_task, class_task, Part}
use Rattle.realize.specs.Decision.{Staffing, Decided, Row, Linked, Unhosted, Covering}
use Rattle.realize.proofs.Descend.{steps_next}
use Rattle.realize.proofs.Rows.{part_at}

-- the people of class v of level q + 1
abbrev pub classmates : Job → Task → ℕ → ℕ → Bool
classmates j t v = fibre (people_in j t) (j.class (suc t.q)) v

-- an edge of the document's graph
abbrev pub EdgeOf : Job → List ℕ → List ℕ → Task → ℕ → ℕ → Type 0
EdgeOf j may label t = Hosts j (may_in may) (label_in label) t.q (has_bit t.steps) (people_in j t)

-- a class inside a task
pub record Inner (t : Task) (v : ℕ) : Type 0 where
  pub small : v < 64
  pub inside : has_bit t.inside v ≡ true

module _ {j : Job} {may label nest reach : List ℕ} {t : Task} (deep : t.q < t.levels) (part : Part j may label nest reach t) where
  pub depth : t.q < j.levels
  depth = omega (arith, part.tables.depth)

  -- the class of one of the people is a class inside
  class_inner : (v p : ℕ) → p < j.people → people_in j t p ≡ true → j.class (suc t.q) p ≡ v → Inner t v
  class_inner v p l h e =
      record {
        small = omega (arith, part.tables.small t.q p depth l, part.tables.few);
        inside = subst (λ (x : ℕ). has_bit t.inside x ≡ true) e h;
      }

  -- what a step can reach is the number of a class
  reach_small : (s v : ℕ) → s < 12 → has_bit (get_or reach (t.q * 12 + s) 0) v ≡ true → v < 64
  reach_small s v l h =
      let w = part.tables.offers.only t.q s v depth l h in
      omega (arith, part.tables.small t.q w.0 depth w.1, part.tables.few, w.3)

  -- a class of level q + 1 inside
  module _ {v : ℕ} (in-it : Inner t v) where
    fibre_next : (p : ℕ) → p < j.people → classmates j t v p ≡ true → people_in j (class_task nest t v) p ≡ true
    fibre_next p l h =
        part_at j nest t v p
        ∙ subst (λ (x : ℕ). has_bit (get_or nest (t.q * 64 + x) 0) (j.class (suc (suc t.q)) p) ≡ true)
        (fibre_at (people_in j t) (j.class (suc t.q)) v p h) (part.tables.nest_has t.q p depth l)

    next_fibre : (p : ℕ) → p < j.people → people_in j (class_task nest t v) p ≡ true → classmates j t v p ≡ true
    next_fibre p l h =
        let e = part.tables.nest_only t.q v p depth in-it.small l (sym (part_at j nest t v p) ∙ h) in
        fibre_of (people_in j t) (j.class (suc t.q)) v p (subst (λ (x : ℕ). has_bit t.inside x ≡ true) (sym e) in-it.inside) e

    -- the part that a group and a class make
    module _ (g : ℕ) {group : ℕ} (mask : Mask (group_in label t g) group) where
      pub part_next : Part j may label nest reach (class_task nest (group_task t group) v)
      part_next =
          record {
            tables = part.tables;
            steps = steps_next j (label_in label) t.q g (has_bit t.steps) (has_bit group) depth part.steps mask.each;
            within = omega (arith, depth);
            people = λ last p h. part.tables.crew t.q v p (omega arith) in-it.small h;
          }

      -- sending a group to a class, by masks and by sets
      pub does_sets : {π : ℕ → ℕ} → Does j may label (class_task nest (group_task t group) v) π
          → Realizes j (may_in may) (label_in label) (suc t.q) (group_in label t g) (classmates j t v) π
      does_sets {π} w =
          realizes_mono j (may_in may) (label_in label) (label_in label) (suc t.q) (has_bit group) _ (people_in j (class_task nest t v)) _ π
          (λ s m h. mask_has mask s h) next_fibre (λ r s a b m h. refl)
          (subst (λ (x : ℕ). Realizes j (may_in may) (label_in label) x (has_bit group) (people_in j (class_task nest t v)) π) (add-one t.q) w)

      pub doable_masks : Realized j (may_in may) (label_in label) (suc t.q) (group_in label t g) (classmates j t v)
          → Doable j may label (class_task nest (group_task t group) v)
      doable_masks w =
          subst (λ (x : ℕ). Realized j (may_in may) (label_in label) x (has_bit group) (people_in j (class_task nest t v))) (sym (add-one t.q))
          (realized_mono j (may_in may) (label_in label) (label_in label) (suc t.q) _ (has_bit group) _ (people_in j (class_task nest t v))
          (λ s m h. mask_in mask s h) fibre_next (λ r s a b m h. refl) w)

  group_below : (g : ℕ) → groups_in label t g ≡ true → g < j.steps
  group_below g i = part.steps.below g (groups_in_lem (has_bit t.steps) (label_in label (suc t.q)) g i)

  -- a class that hosts a group is inside: it has somebody for the step that names the group
  pub edge_inner : (g v : ℕ) → groups_in label t g ≡ true → EdgeOf j may label t g v → Inner t v
  edge_inner g v i x =
      let l = group_below g i in
      let m = fibre_of (has_bit t.steps) (label_in label (suc t.q)) g g (groups_in_lem (has_bit t.steps) (label_in label (suc t.q)) g i)
      (groups_own (has_bit t.steps) (label_in label (suc t.q)) g i)
      in
      let h = x.1.inside g l m in
      class_inner v (x.0 g) (x.1.within g l m) (fibre_in (people_in j t) (j.class (suc t.q)) v (x.0 g) h)
      (fibre_at (people_in j t) (j.class (suc t.q)) v (x.0 g) h)

-- ---- the graph of groups and classes

module _ {j : Job} {may label nest reach : List ℕ} {t : Task} (deep : t.q < t.levels) (few : t.steps < 4096) (part : Part j may label nest reach t) where
  -- a row has the edges of the document's graph
  module _ {g row : ℕ} (v : ℕ) (w : Row may label nest reach t g row) (i : groups_in label t g ≡ true) where
    -- a group has its label among its steps
    own : has_bit w.group g ≡ true
    own =
        mask_has w.mask g
        (fibre_of (has_bit t.steps) (label_in label (suc t.q)) g g (groups_in_lem (has_bit t.steps) (label_in label (suc t.q)) g i)
        (groups_own (has_bit t.steps) (label_in label (suc t.q)) g i))

    step : (s : ℕ) → has_bit w.group s ≡ true → has_bit t.steps s ≡ true
    step s h = fibre_in (has_bit t.steps) (label_in label (suc t.q)) g s (mask_in w.mask s h)

    decided : has_bit w.hosted.row v ≡ true → Inner t v → Says (has_bit row v) (Doable j may label (class_task nest (group_task t w.group) v))
    decided n in-it = (w.hosted.hosting.done v n (empty_lacks v)).says j (part_next deep part in-it g w.mask)

    row_hosts : has_bit row v ≡ true → EdgeOf j may label t g v
    row_hosts h =
        let n : has_bit w.hosted.row v ≡ true = w.hosted.hosting.only v h in
        let in-it : Inner t v
        = record {
          small = reach_small deep part g v (has_below 12 t.steps g few (step g own)) (w.hosted.candidates.each v g n own (empty_lacks g));
          inside = w.hosted.candidates.among v n;
        }
        in
        let r = says_true (has_bit row v) _ (decided n in-it) h in
        (r.0, does_sets deep part in-it g w.mask r.1)

    -- a class that hosts a group has somebody for each of its steps
    hosts_row_in : EdgeOf j may label t g v → has_bit w.hosted.row v ≡ true
    hosts_row_in x =
        w.hosted.candidates.all v (edge_inner deep part g v i x).inside (λ s h.
        let l : s < j.steps = part.steps.below s (step s h) in
        let r = x.1 in
        let k = mask_in w.mask s h in
        subst (λ (y : ℕ). has_bit (get_or reach (t.q * 12 + s) 0) y ≡ true)
        (fibre_at (people_in j t) (j.class (suc t.q)) v _ (r.inside s l k))
        (part.tables.offers.has t.q s _ (depth deep part) (has_below 12 t.steps s few (step s h)) (r.within s l k) (r.authorised s l k)))

    hosts_row : EdgeOf j may label t g v → has_bit row v ≡ true
    hosts_row x =
        let in-it = edge_inner deep part g v i x in
        by_cases (has_bit row v) (λ t. t)
        (λ t. absurd (says_false (has_bit row v) _ (decided (hosts_row_in x) in-it) t (doable_masks deep part in-it g w.mask x)))

  -- a plan makes a matching
  matched : Doable j may label t → (f : ℕ → ℕ) × Matching j.steps (groups_in label t) (EdgeOf j may label t) f
  matched r =
      realized_match j (may_in may) (label_in label) t.q (depth deep part) (has_bit t.steps) (people_in j t) r

  module _ {heads : ℕ} (mask : Mask (groups_in label t) heads) where
    -- with an empty row there is no plan
    unhosted_not : Unhosted may label nest reach t heads → Doable j may label t → ⊥
    unhosted_not w r =
        let m = matched r in
        let i = mask_in mask w.who w.among in
        true-false (hosts_row (m.0 w.who) w.row i (m.1.along w.who (group_below deep part w.who i) i)) (empty_lacks (m.0 w.who))

    -- the same, once it is filled in
    module _ {edges : List ℕ} (linked : Linked may label nest reach t heads 0 edges) where
      row_at : (g : ℕ) → groups_in label t g ≡ true → Row may label nest reach t g (get_or edges g 0)
      row_at g i = linked.done g (mask_has mask g i) (empty_lacks g)

      in_groups : (g : ℕ) → in_mask heads g ≡ true → groups_in label t g ≡ true
      in_groups g h = mask_in mask g (and_right (ltb g 12) _ h)

      of_groups : (g : ℕ) → groups_in label t g ≡ true → in_mask heads g ≡ true
      of_groups g i =
          and_of (ltb g 12) (has_bit heads g) (lt-ltb g 12 (has_below 12 t.steps g few (groups_in_lem (has_bit t.steps) (label_in label (suc t.q)) g i)))
          (mask_has mask g i)

      -- so an assignment is a matching of groups with classes
      pub assignment_matching : (f : ℕ → ℕ) → Assignment (in_mask heads) (suits edges) f → Matching j.steps (groups_in label t) (EdgeOf j may label t) f
      assignment_matching f a =
          record {
            along = λ g l i. row_hosts (f g) (row_at g i) i (and_right (ltb (f g) 64) _ (a.along g (of_groups g i)));
            injective = λ g h l m i k e. a.apart g h (of_groups g i) (of_groups h k) e;
          }

      matching_assignment : (f : ℕ → ℕ) → Matching j.steps (groups_in label t) (EdgeOf j may label t) f → Assignment (in_mask heads) (suits edges) f
      matching_assignment f m =
          record {
            along = λ g h.
                let i = in_groups g h in
                let x = m.along g (group_below deep part g i) i in
                and_of (ltb (f g) 64) (has_bit (get_or edges g 0) (f g)) (lt-ltb (f g) 64 (edge_inner deep part g (f g) i x).small) (hosts_row (f g) (row_at g i) i x);
            apart = λ g h i k e.
                m.injective g h (group_below deep part g (in_groups g i)) (group_below deep part h (in_groups h k)) (in_groups g i) (in_groups h k) e;
          }

      covers_not : {found : Bool} {f : ℕ → ℕ} → Covers (in_mask heads) (suits edges) found f → found ≡ false → Doable j may label t → ⊥
      covers_not w e r = let m = matched r in w.complete e m.0 (matching_assignment m.0 m.1)

-- ---- the answers of `cover`

-- what is found is an assignment along the rows
pub covering_assigned : {may label nest reach : List ℕ} {t : Task} {at : List ℕ} (w : Covering may label nest reach t (Some at)) → (edges : List ℕ) × Linked may label nest reach t w.heads 0 edges × Assignment (in_mask w.heads) (suits edges) (class_at at)
covering_assigned w = ⊎_elim (λ u. true-false (ap is_some (sym u.0)) refl) (λ x. (x.0, x.1, x.2.sound refl)) w.answer

module _ {j : Job} {may label nest reach : List ℕ} {t : Task} (deep : t.q < t.levels) (few : t.steps < 4096) (part : Part j may label nest reach t) where
  covering_realized : {at : List ℕ} → Covering may label nest reach t (Some at) → Doable j may label t
  covering_realized {at} w =
      let a = covering_assigned w in
      match_realized j (may_in may) (label_in label) t.q (depth deep part) (has_bit t.steps) (people_in j t) part.tables.refining
      part.steps.consistent (part.steps.labelled (suc t.q) (omega arith) (depth deep part)) (class_at at)
      (assignment_matching deep few part w.mask a.1 (class_at at) a.2)

  pub covering_not : Covering may label nest reach t None → Doable j may label t → ⊥
  covering_not w r =
      ⊎_elim
      (λ u. unhosted_not deep few part w.mask u.1 r)
      (λ x. covers_not deep few part w.mask x.1 x.2 refl r)
      w.answer

-- ---- the answers of `decide`

-- after the last level the people of a task are those inside
pub last_in : {j : Job} {may label nest reach : List ℕ} {t : Task} → t.levels ≤ t.q → Part j may label nest reach t → (p : ℕ)
    → people_in j t p ≡ has_bit t.inside p
last_in {j} {t = t} d part p =
    let e : t.q ≡ j.levels = omega (arith, part.tables.depth, part.within) in
    ap (has_bit t.inside) (ap (λ (x : ℕ). j.class (suc x) p) e ∙ part.tables.person p)

pub last_below : {j : Job} {may label nest reach : List ℕ} {t : Task} → t.levels ≤ t.q → Part j may label nest reach t → (p : ℕ)
    → has_bit t.inside p ≡ true → p < j.people
last_below {j} {t = t} d part p h = part.people (omega (arith, part.tables.depth, part.within)) p h

module _ {may label nest reach : List ℕ} {t : Task} where
  -- no level left
  pub decided_last : {r : Bool} → t.levels ≤ t.q → Says r (Staffing (may_in may) (has_bit t.inside) t.steps 0) → Decided may label nest reach t r
  decided_last {r} d w = record {
    says = λ j part.
        let last = realized_last j (may_in may) (label_in label) t.q (omega (arith, part.tables.depth)) (has_bit t.steps) (people_in j t) in
        says_of r _
        (λ e. let all = says_true r _ w e in
        last.1 (λ s l h. let a = all.able s h (empty_lacks s) in (a.0, last_below d part a.0 a.1, last_in d part a.0 ∙ a.1, a.2)))
        (λ e x. says_false r _ w e (record {
          part = λ s h. true-false h (empty_lacks s);
          able = λ s h n.
              let l : s < j.steps = part.steps.below s h in
              (x.0 s, sym (last_in d part (x.0 s)) ∙ x.1.inside s l h, x.1.authorised s l h);
        }));
  }

  -- a matching, or none
  pub decided_covering : (found : Option (List ℕ)) → t.q < t.levels → t.steps < 4096 → Covering may label nest reach t found
      → Decided may label nest reach t (is_some found)
  decided_covering None deep few w =
      record { says = λ j part. says_of false _ (λ e. true-false e refl) (λ e. covering_not deep few part w) }
  decided_covering (Some at) deep few w =
      record { says = λ j part. says_of true _ (λ e. covering_realized deep few part w) (λ e. true-false refl e) }
