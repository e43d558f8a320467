-- What is said of a pattern is said of every other with the same steps placed and the same labels, however they are stored. Assumes
-- nothing.
use mathlib.Core.Bool.{Bool, true, not, ◌&&◌}
use mathlib.Core.Path.{◌≡◌, sym, subst, ap, ◌∙◌}
use Prim.Native.Nat.{ℕ, suc, ◌≤◌, ◌<◌}
use native.Mathlib.Omega.{arith}
use Rattle.bits.proofs.Below.{and_right}
use Rattle.bits.proofs.Counting.{count_cong}
use Rattle.workflow.specs.Problem.{Rule, Job, May, Plan, RuleOk, distinct, largest_load}
use Rattle.workflow.proofs.Counts.{distinct_cong}
use Rattle.workflow.proofs.Loads.{load_cong, load_scope_mono}
use Rattle.workflow.proofs.Occurs.{distinct_scope_mono}
use Rattle.workflow.proofs.Valid.{bounds_same}
use Rattle.pattern.specs.Pattern.{Label, Labelled, Pattern, Has, SamePattern}
use Rattle.pattern.specs.Eligible.{group_count, group_load, open_count, Possible}
use Rattle.pattern.specs.Realize.{Realized}
use Rattle.pattern.specs.Search.{Searchable, Exists, Complete}
use Rattle.pattern.proofs.Patterns.{has_cong, has_part}
use Rattle.pattern.proofs.Realize.{realized_mono}

-- a count over equal scopes
pub distinct_scope_cong : (n : ℕ) (scope scope' : ℕ → Bool) (c : ℕ → ℕ) → ((s : ℕ) → s < n → scope s ≡ scope' s) → distinct n scope c ≡ distinct n scope' c
distinct_scope_cong n scope scope' c e =
    let a : distinct n scope c ≤ distinct n scope' c = distinct_scope_mono n c scope scope' (λ s l h. sym (e s l) ∙ h) in
    let b : distinct n scope' c ≤ distinct n scope c = distinct_scope_mono n c scope' scope (λ s l h. e s l ∙ h) in
    omega arith

-- a largest load over equal scopes
pub load_scope_cong : (n : ℕ) (scope scope' : ℕ → Bool) (c : ℕ → ℕ) → ((s : ℕ) → s < n → scope s ≡ scope' s) → largest_load n scope c ≡ largest_load n scope' c
load_scope_cong n scope scope' c e =
    let a = load_scope_mono n c scope scope' (λ s l h. sym (e s l) ∙ h) in
    let b = load_scope_mono n c scope' scope (λ s l h. e s l ∙ h) in
    omega arith

module _ (steps levels : ℕ) (placed placed' : ℕ → Bool) (label label' : Label) (same : SamePattern steps levels placed placed' label label') where
  into : (s : ℕ) → s < steps → placed s ≡ true → placed' s ≡ true
  into s l h = sym (same.sets s l) ∙ h

  onto : (s : ℕ) → s < steps → placed' s ≡ true → placed s ≡ true
  onto s l h = same.sets s l ∙ h

  pub same_sym : SamePattern steps levels placed' placed label' label
  same_sym =
      record {
        sets = λ s l. sym (same.sets s l);
        labels = λ q s a b l h. sym (same.labels q s a b l (onto s l h));
      }

  pub pattern_same : Pattern steps levels placed label → Pattern steps levels placed' label'
  pattern_same p =
      record {
        labelled = λ q a b.
            let w : Labelled steps placed (label q) = p.labelled q a b in
            let e : (s : ℕ) → s < steps → placed' s ≡ true → label q s ≡ label' q s = λ s l h. same.labels q s a b l (onto s l h) in
            record {
              below = λ s l h. subst (λ (x : ℕ). x < steps) (e s l h) (w.below s l (onto s l h));
              among = λ s l h. subst (λ (x : ℕ). placed' x ≡ true) (e s l h) (into _ (w.below s l (onto s l h)) (w.among s l (onto s l h)));
              own = λ s l h.
                  let i = onto s l h in
                  ap (label' q) (sym (e s l h))
                  ∙ sym (e (label q s) (w.below s l i) (into _ (w.below s l i) (w.among s l i)))
                  ∙ w.own s l i
                  ∙ e s l h;
            };
        consistent = record {
          finer = λ q s t a b l m h k x.
              sym (same.labels q s a (omega arith) l (onto s l h))
              ∙ p.consistent.finer q s t a b l m (onto s l h) (onto t m k)
              (same.labels (suc q) s (omega arith) b l (onto s l h) ∙ x ∙ sym (same.labels (suc q) t (omega arith) b m (onto t m k)))
              ∙ same.labels q t a (omega arith) m (onto t m k);
        };
      }

  pub group_count_same : (r : Rule) → RuleOk steps levels r → group_count steps placed label r ≡ group_count steps placed' label' r
  group_count_same r ok =
      distinct_cong steps (λ s. r.scope s && placed s) (label r.level) (label' r.level)
      (λ s l h. same.labels r.level s ok.from ok.to l (and_right (r.scope s) _ h))
      ∙ distinct_scope_cong steps (λ s. r.scope s && placed s) (λ s. r.scope s && placed' s) (label' r.level)
      (λ s l. ap (λ (b : Bool). r.scope s && b) (same.sets s l))

  pub group_load_same : (r : Rule) → RuleOk steps levels r → group_load steps placed label r ≡ group_load steps placed' label' r
  group_load_same r ok =
      load_cong steps (λ s. r.scope s && placed s) (label r.level) (label' r.level)
      (λ s l h. same.labels r.level s ok.from ok.to l (and_right (r.scope s) _ h))
      ∙ load_scope_cong steps (λ s. r.scope s && placed s) (λ s. r.scope s && placed' s) (label' r.level)
      (λ s l. ap (λ (b : Bool). r.scope s && b) (same.sets s l))

  pub open_count_same : (r : Rule) → open_count steps placed r ≡ open_count steps placed' r
  open_count_same r = count_cong steps _ _ (λ s l. ap (λ (b : Bool). r.scope s && not b) (same.sets s l))

  pub possible_same : (r : Rule) → RuleOk steps levels r → Possible steps placed label r → Possible steps placed' label' r
  possible_same r ok w =
      record {
        counted = record {
          most = omega (arith, w.counted.most, group_count_same r ok);
          least = omega (arith, w.counted.least, group_count_same r ok, open_count_same r);
        };
        load = omega (arith, w.load, group_load_same r ok);
      }

module _ (j : Job) (placed placed' : ℕ → Bool) (label label' : Label) (same : SamePattern j.steps j.levels placed placed' label label') where
  pub has_same : (π : Plan) → Has j placed label π → Has j placed' label' π
  has_same π h =
      has_part j placed' placed label' π (onto j.steps j.levels placed placed' label label' same)
      (has_cong j placed label label' π same.labels h)

  pub exists_same : (may : May) → Exists j may placed label → Exists j may placed' label'
  exists_same may e = record { plan = e.plan; valid = e.valid; has = has_same e.plan e.has }

  pub realized_same : (may : May) (C : ℕ → Bool) → Realized j may label 0 placed C → Realized j may label' 0 placed' C
  realized_same may C w =
      let back = onto j.steps j.levels placed placed' label label' same in
      realized_mono j may label label' 0 placed placed' C C back (λ p l h. h) (λ r s a b l h. same.labels r s a b l (back s l h)) w

  pub complete_same : (may : May) → Searchable j → Complete j may placed label → Complete j may placed' label'
  complete_same may ok w =
      record {
        eligible = λ i l.
            bounds_same (j.rule i)
            (group_count_same j.steps j.levels placed placed' label label' same (j.rule i) (ok.rule_ok i l))
            (group_load_same j.steps j.levels placed placed' label label' same (j.rule i) (ok.rule_ok i l)) (w.eligible i l);
        realized = realized_same may (λ p. true) w.realized;
        others = λ s l h. w.others s l (same.sets s l ∙ h);
      }
