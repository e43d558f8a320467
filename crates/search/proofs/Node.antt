-- The tests at a node of the search, and what placing a step does to the pattern. Assumes nothing.
use mathlib.Core.Bool.{not, Bool, true, false}
use mathlib.Core.List.{List}
use mathlib.Core.Path.{◌≡◌, refl, sym, subst, ◌∙◌}
use Prim.Native.Nat.{ℕ, ◌≤◌, ◌<◌}
use native.Mathlib.Omega.{arith}
use lib.ListN.{length, get_or}
use borrow.Author.Tests.{not-true, not-false}
use Rattle.bits.specs.Word.{has_bit}
use Rattle.bits.proofs.Below.{by_cases, true-false}
use Rattle.bits.proofs.Counting.{is_false}
use Rattle.bits.proofs.Masks.{bits_below}
use Rattle.workflow.specs.Problem.{Job, May, Rule, RuleOk}
use Rattle.pattern.specs.declared.Size.{Size}
use Rattle.pattern.specs.Pattern.{Label, Pattern, Refining, SamePattern}
use Rattle.pattern.specs.Place.{with_step, grown, Way}
use Rattle.pattern.specs.Eligible.{group_count, group_load, open_count, Possible}
use Rattle.pattern.specs.Realize.{Realized}
use Rattle.pattern.specs.Rule.{level_in}
use Rattle.pattern.specs.Tables.{may_in, label_in, rule_in, job_with, nested_job}
use Rattle.pattern.proofs.Place.{with_cases, grown_placed, grown_pattern}
use Rattle.pattern.proofs.Same.{pattern_same, possible_same, exists_same}
use Rattle.pattern.proofs.Counted.{open_count_outside, group_count_outside, group_load_outside}
use Rattle.pattern.proofs.Search.{exists_realized, exists_possible}
use Rattle.bits.specs.Says.{Says}
use Rattle.bits.proofs.Says.{says_true, says_false}
use Rattle.bits.specs.Sizes.{most_levels, class_entries, label_entries}
use Rattle.eligible.specs.Rules.{RulesReady, ForSteps, Among}
use Rattle.pattern.proofs.Given.{searchable}
use Rattle.pattern.proofs.Nested.{nested_last, nested_refining}
use Rattle.realize.specs.Parts.{ArraysSized, Offers, TablesFor}
use Rattle.realize.specs.Decision.{Realizable}
use Rattle.pattern.specs.Given.{Ruled, Nest}
use Rattle.search.specs.Growth.{Grows, Joins}
use Rattle.search.specs.State.{Patterned, Passing, Touched, OthersPossible, LabelsKept, partner, depth, ByWay, Growable, Grew}

-- a job of these counts and rules, whatever its classes
module _ {size : Size} {class : ℕ → ℕ → ℕ} {rule : List ℕ} (ruled : Ruled size rule) (may : List ℕ) (placed : ℕ) (label : List ℕ) where
  inside_small : Patterned (job_with size class rule) placed label → placed < 4096
  inside_small p = bits_below 12 placed (λ s h. let l = p.inside s h in omega (arith, ruled.few_steps))

  -- the labels at the level of each rule of the job
  pub rules_among : (among : ℕ) → Patterned (job_with size class rule) placed label → ((i : ℕ) → has_bit among i ≡ true → i < size.rules)
      → RulesReady among rule placed label
  rules_among among p below =
      record {
        sized = ruled.sized;
        marked = λ i h.
            let ok = ruled.rule_ok i (below i h) in
            record {
              row = record {
                sized = p.sized;
                from = ok.from;
                to = omega (arith, ok.to, ruled.few_levels);
                below = inside_small p;
              };
              labels = λ s k.
                  let l = (p.pattern.labelled (level_in (get_or rule i 0)) ok.from ok.to).below s (p.inside s k) k in
                  omega (arith, ruled.few_steps);
            };
      }

  pub sized : {nest reach : List ℕ} → length may ≡ 12 → Patterned (job_with size class rule) placed label → length nest ≡ class_entries → length reach ≡ label_entries
      → ArraysSized size.levels may label nest reach placed
  sized masks p n w =
      record {
        deep = ruled.few_levels;
        masks = masks;
        labels = p.sized;
        nests = n;
        reaches = w;
        below = inside_small p;
      }

  -- a rule cannot be met
  pub passing_ruled_out : Refining (job_with size class rule) → (among : ℕ) (r : Bool) → OthersPossible (job_with size class rule) among placed label
      → ForSteps among rule (λ steps. Says r (Among steps among rule placed label)) → not r ≡ true
      → Passing (job_with size class rule) (may_in may) placed label false
  passing_ruled_out refining among r w says f =
      let n = says_false r (Among size.steps among rule placed label) (says size.steps (λ i h. ruled.scopes i (w.below i h))) (not-true r f) in
      record {
        won = λ e. true-false refl (sym e);
        lost = λ e x. n (λ i h. exists_possible (job_with size class rule) (may_in may) (has_bit placed) (label_in label) (searchable ruled refining) x i (w.below i h));
      }

-- the job of the table of what lies inside each class
module _ {size : Size} {nest rule : List ℕ} (given : Nest size nest rule) (may : List ℕ) (placed : ℕ) (label : List ℕ) where
  pub known : {reach : List ℕ} → Offers (nested_job size nest rule) may reach → Patterned (nested_job size nest rule) placed label
      → TablesFor (nested_job size nest rule) size.people size.levels may label nest reach placed
  known offers p =
      record {
        all = refl;
        tables = record {
          depth = refl;
          refining = nested_refining size nest rule;
          few = given.few_people;
          small = given.small;
          person = nested_last nest size.levels;
          nest_has = given.has;
          nest_only = given.only;
          crew = given.crew;
          offers = offers;
        };
        pattern = p.pattern;
        below = p.inside;
      }

  pub passing_decided : {reach : List ℕ} → Offers (nested_job size nest rule) may reach → (among : ℕ) (e r : Bool) → Patterned (nested_job size nest rule) placed label
      → OthersPossible (nested_job size nest rule) among placed label
      → ForSteps among rule (λ steps. Says e (Among steps among rule placed label)) → not e ≡ false → Realizable size.people size.levels may label nest reach placed r
      → Passing (nested_job size nest rule) (may_in may) placed label r
  passing_decided offers among e r p w possible f d =
      let m = says_true e (Among size.steps among rule placed label) (possible size.steps (λ i h. given.ruled.scopes i (w.below i h))) (not-false e f) in
      let a : (i : ℕ) → i < size.rules → Possible size.steps (has_bit placed) (label_in label) (rule_in rule i)
      = λ i l. by_cases (has_bit among i) (m i) (λ h. w.possible i l h)
      in
      let j = nested_job size nest rule in
      let says = d.says j (known offers p) in
      record {
        won = λ e. record { possible = a; realized = says_true r (Realized j (may_in may) (label_in label) 0 (has_bit placed) (λ p. true)) says e };
        lost = λ e x.
            says_false r (Realized j (may_in may) (label_in label) 0 (has_bit placed) (λ p. true)) says e
            (exists_realized j (may_in may) (has_bit placed) (label_in label) x);
      }

-- a rule outside whose scope a step is placed stays as it was
possible_outside : (steps levels : ℕ) (placed : ℕ → Bool) (label : Label) → Pattern steps levels placed label → (s : ℕ) → s < steps → placed s ≡ false → (r : Rule)
    → RuleOk steps levels r → (t d : ℕ) → Way steps levels placed t d → r.scope s ≡ false → Possible steps placed label r
    → Possible steps (with_step placed s) (grown label s t d) r
possible_outside steps levels placed label pattern s below unplaced r ok t d way o w =
    let a : group_count steps (with_step placed s) (grown label s t d) r ≡ group_count steps placed label r
    = group_count_outside steps levels placed label pattern s below unplaced r ok t d way o
    in
    let b : open_count steps (with_step placed s) r ≡ open_count steps placed r = open_count_outside steps levels placed label pattern s below unplaced r o in
    let c : group_load steps (with_step placed s) (grown label s t d) r ≡ group_load steps placed label r
    = group_load_outside steps levels placed label pattern s below unplaced r ok t d way o
    in
    record {
      counted = record { most = omega (arith, w.counted.most); least = omega (arith, w.counted.least) };
      load = omega (arith, w.load);
    }

-- what is asked of the group that a way joins, and of the classes
module _ {j : Job} {placed next s w : ℕ} {label : List ℕ} (g : Growable j placed next s w label) (few : j.levels ≤ most_levels) where
  pub joinable : (partner w < 12) × (depth w ≤ most_levels) × (length label ≡ label_entries)
  joinable = (omega arith, omega (arith, g.way), g.patterned.sized)

module _ {j : Job} {placed next s w : ℕ} {label : List ℕ} (g : Growable j placed next s w label) (may : May) (few : j.steps ≤ 12) where
  -- no valid plan goes by the way, and nothing is placed
  pub grew_not : (Joins placed label (partner w) (depth w) → ByWay j may placed label s w → ⊥) → Grew j may placed next s w label label false
  grew_not lost =
      record {
        sized = g.patterned.sized;
        kept = λ q u a b h. refl;
        patterned = λ e. true-false refl (sym e);
        passed = λ e. true-false refl (sym e);
        same = λ e. true-false refl (sym e);
        lost = λ e. lost;
      }

  -- there is no such group
  pub grew_unjoined : (r : Bool) → Says r (Joins placed label (partner w) (depth w)) → not r ≡ true → Grew j may placed next s w label label false
  grew_unjoined r says f = grew_not (λ x y. says_false r (Joins placed label (partner w) (depth w)) says (not-true r f) x)

  module _ (joined : Joins placed label (partner w) (depth w)) where
    way : Way j.steps j.levels (has_bit placed) (partner w) (depth w)
    way = record { depth = omega (arith, g.way); below = λ h. g.patterned.inside (partner w) (joined.among h); among = joined.among }

    module _ {label' : List ℕ} (grows : Grows j.levels s (partner w) (depth w) label label') where
      same : SamePattern j.steps j.levels (with_step (has_bit placed) s) (has_bit next) (grown (label_in label) s (partner w) (depth w)) (label_in label')
      unfolding with_step
      same = record { sets = λ u l. sym (g.added.each u); labels = λ q u a b l h. sym (grows.each q u a b (omega arith)) }

      inside : (u : ℕ) → has_bit next u ≡ true → u < j.steps
      unfolding with_step
      inside u h = with_cases (has_bit placed) s u (sym (g.added.each u) ∙ h) (λ e. subst (λ (x : ℕ). x < j.steps) (sym e) g.below) (λ n i. g.patterned.inside u i)

      pub grown_patterned : Patterned j next label'
      grown_patterned =
          record {
            sized = grows.sized;
            pattern = pattern_same j.steps j.levels _ _ _ _ same
                (grown_pattern j.steps j.levels (has_bit placed) (label_in label) g.patterned.pattern s g.below g.unplaced (partner w) (depth w) way);
            inside = inside;
          }

      -- a rule that does not name s stays as it was
      pub grown_spared : {among : ℕ} → Touched j among s → ((i : ℕ) → i < j.rules → RuleOk j.steps j.levels (j.rule i)) → OthersPossible j among next label'
      grown_spared touched ok =
          record {
            below = touched.below;
            possible = λ i l n.
                possible_same j.steps j.levels _ _ _ _ same (j.rule i) (ok i l)
                (possible_outside j.steps j.levels (has_bit placed) (label_in label) g.patterned.pattern s g.below g.unplaced (j.rule i) (ok i l)
                (partner w) (depth w) way (is_false _ (λ h. true-false (touched.all i l h) n)) (g.possible i l));
          }

      kept : LabelsKept j placed label label'
      kept q u a b h =
          let l : u < j.steps = g.patterned.inside u h in
          grows.each q u a b (omega arith)
          ∙ grown_placed j.steps j.levels (has_bit placed) (label_in label) g.patterned.pattern s g.below g.unplaced (partner w) (depth w) q u h

      pub grew_tested : {r : Bool} → Passing j may next label' r → Grew j may placed next s w label label' r
      grew_tested p =
          record {
            sized = grows.sized;
            kept = kept;
            patterned = λ e. grown_patterned;
            passed = p.won;
            same = λ e. exists_same j _ _ _ _ same may;
            lost = λ e x y. p.lost e (exists_same j _ _ _ _ same may y);
          }
