-- A job without the levels that no rule names has the same valid plans, and is one that the search can take. Assumes nothing.
use mathlib.Core.List.{List}
use mathlib.Core.Path.{◌≡◌, refl, sym, subst, ap, ◌∙◌}
use Prim.Native.Nat.{ℕ, suc, ◌^◌, ◌≤◌, ◌<◌}
use native.Mathlib.Omega.{arith}
use lib.ListN.{get_or}
use Rattle.bits.specs.Below.{count}
use Rattle.bits.specs.Word.{has_bit}
use Rattle.workflow.specs.Problem.{Job, RuleOk}
use Rattle.workflow.specs.Same.{Renamed}
use Rattle.workflow.proofs.Same.{renamed_same, same_trans}
use Rattle.pattern.specs.declared.Size.{Size}
use Rattle.pattern.specs.Given.{Ruled, ClassTable, Classed}
use Rattle.pattern.specs.Pattern.{Refining}
use Rattle.pattern.specs.Number.{number_of}
use Rattle.pattern.specs.Rule.{level_in, scope_in}
use Rattle.pattern.specs.Tables.{class_in, rule_in, job_in}
use Rattle.pattern.proofs.Classes.{classed_table}
use Rattle.pattern.proofs.Levels.{refining_up}
use Rattle.pattern.proofs.Number.{number_moves}
use Rattle.levels.specs.Tabled.{Gathered, Naming}
use Rattle.levels.proofs.Masks.{gathered_given, gathered_numbers, gathered_same}
use Rattle.levels.specs.Trims.{Marks, KeptLevels, Rows, Renumbered, Trims}

module _ (size : Size) (n marks : ℕ) (class rule class' rule' old new : List ℕ) (given : Classed size class rule) (marked : Marks size.rules rule marks)
    (numbered : KeptLevels size.levels marks n old new) (rows : Rows n old class class') (renumbered : Renumbered size.rules rule new rule') where
  abbrev size' : Size
  size' = record { steps = size.steps; people = size.people; levels = n; rules = size.rules }

  abbrev was : Job
  was = job_in size class rule

  abbrev is : Job
  is = job_in size' class' rule'

  -- the level of a rule, and its new number
  ok : (i : ℕ) → i < size.rules → RuleOk size.steps size.levels (rule_in rule i)
  ok i l = given.ruled.rule_ok i l

  moved : (i : ℕ) → i < size.rules → level_in (get_or rule' i 0) ≡ get_or new (level_in (get_or rule i 0)) 0
  moved i l =
      let k = numbered.keeps.new_to (level_in (get_or rule i 0)) (ok i l).from (ok i l).to (marked i l) in
      let e = (renumbered.each i l).its_level in
      omega (arith, numbered.few, given.ruled.few_levels)

  new_from : (i : ℕ) → i < size.rules → 1 ≤ level_in (get_or rule' i 0)
  new_from i l = subst (λ (k : ℕ). 1 ≤ k) (sym (moved i l)) (numbered.keeps.new_from (level_in (get_or rule i 0)) (ok i l).from (ok i l).to (marked i l))

  new_to : (i : ℕ) → i < size.rules → level_in (get_or rule' i 0) ≤ n
  new_to i l = subst (λ (k : ℕ). k ≤ n) (sym (moved i l)) (numbered.keeps.new_to (level_in (get_or rule i 0)) (ok i l).from (ok i l).to (marked i l))

  -- a rule sees the same classes
  same_class : (i p : ℕ) → i < size.rules → p < size.people → class_in class' (level_in (get_or rule' i 0)) p ≡ class_in class (level_in (get_or rule i 0)) p
  same_class i p l b =
      rows.each (level_in (get_or rule' i 0)) p (new_from i l) (new_to i l) (omega (arith, given.few_people))
      ∙ ap (λ (q : ℕ). class_in class (get_or old q 0) p) (moved i l)
      ∙ ap (λ (q : ℕ). class_in class q p) (numbered.keeps.back (level_in (get_or rule i 0)) (ok i l).from (ok i l).to (marked i l))

  renamed : Renamed was is
  renamed =
      record {
        steps = refl;
        people = refl;
        rules = refl;
        least = λ i l. (renumbered.each i l).its_least;
        most = λ i l. (renumbered.each i l).its_most;
        load = λ i l. (renumbered.each i l).its_load;
        scope = λ i s l. ap (λ (m : ℕ). has_bit m s) (renumbered.each i l).its_scope;
        classes = λ i p p' l a b. (
          λ e. same_class i p l a ∙ e ∙ sym (same_class i p' l b),
          λ e. sym (same_class i p l a) ∙ e ∙ same_class i p' l b,
        );
      }

  row : (k p : ℕ) → 1 ≤ k → k ≤ n → p < size.people → class_in class' k p ≡ class_in class (get_or old k 0) p
  row k p a b l = rows.each k p a b (omega (arith, given.few_people))

  refining : Refining is
  refining =
      record {
        finer = λ q p p' a b l l' e.
            row q p a (omega arith) l
            ∙ refining_up was given.refining (get_or old q 0) (get_or old (suc q) 0) (numbered.keeps.from q a (omega arith))
            (omega (arith, numbered.keeps.ordered q a b)) (numbered.keeps.to (suc q) (omega arith) b) p p' l l'
            (sym (row (suc q) p (omega arith) b l) ∙ e ∙ row (suc q) p' (omega arith) b l')
            ∙ sym (row q p' a (omega arith) l');
      }

  numbers : (q p : ℕ) → 1 ≤ q → q ≤ n → p < size.people → class_in class' q p ≡ number_of size.people (class_in class' q) p
  numbers q p a b l =
      row q p a b l
      ∙ given.numbers (get_or old q 0) p (numbered.keeps.from q a b) (numbered.keeps.to q a b) l
      ∙ number_moves size.people (class_in class (get_or old q 0)) (class_in class' q)
      (λ x y k m e. row q x a b k ∙ e ∙ sym (row q y a b m)) (λ x y k m e. sym (row q x a b k) ∙ e ∙ row q y a b m) p l

  ruled : Ruled size' rule'
  ruled =
      record {
        few_steps = given.ruled.few_steps;
        few_levels = omega (arith, numbered.few, given.ruled.few_levels);
        few_rules = given.ruled.few_rules;
        sized = renumbered.sized;
        scopes = λ i l. subst (λ (m : ℕ). m < 2 ^ size.steps) (sym (renumbered.each i l).its_scope) (given.ruled.scopes i l);
        rule_ok = λ i l. record {
          from = new_from i l;
          to = new_to i l;
          reachable =
              let e : count size.steps (has_bit (scope_in (get_or rule' i 0))) ≡ count size.steps (has_bit (scope_in (get_or rule i 0)))
              = ap (λ (m : ℕ). count size.steps (has_bit m)) (renumbered.each i l).its_scope
              in
              omega (arith, (renumbered.each i l).its_least, (ok i l).reachable);
          bounded = omega (arith, (renumbered.each i l).its_most, (ok i l).bounded);
        };
      }

  classed : Classed size' class' rule'
  classed = record { ruled = ruled; few_people = given.few_people; classes = rows.sized; refining = refining; numbers = numbers }

  pub table_trimmed : ClassTable size.people n class'
  table_trimmed = classed_table classed

  pub trims : {crowd of : List ℕ} → Gathered size.people n class' crowd → Naming size.rules rule' of
      → Trims size class rule (record { size = size'; class = class'; crowd = crowd; rule = rule'; of = of })
  trims g w =
      record {
        ready = record { tabled = record { given = gathered_given classed g; naming = w }; numbers = gathered_numbers classed g };
        same = same_trans (renamed_same was is renamed) (gathered_same classed g);
        kept = λ k a b. (get_or old k 0, numbered.keeps.from k a b, numbered.keeps.to k a b, λ p l. row k p a b l);
      }
