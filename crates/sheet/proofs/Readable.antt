-- The job of a sheet that was read is as the papers ask. Assumes nothing.
use mathlib.Core.Bool.{Bool, true, false, not, ◌&&◌}
use mathlib.Core.List.{List}
use mathlib.Core.Path.{◌≡◌, refl, sym, ◌∙◌, ap, subst}
use Prim.Native.Nat.{ℕ, suc, ◌-◌, ◌/◌, ◌^◌, ◌<◌, ◌≤◌}
use native.Mathlib.Omega.{arith}
use lib.Dec.{ltb}
use lib.ListN.{length, get_or}
use borrow.Author.Tests.{eqb-true, eqb-false, eq-eqb, ltb-true, ltb-false, not-false}
use Rattle.bits.specs.Below.{any}
use Rattle.bits.specs.Columns.{class_entry}
use Rattle.bits.specs.Sizes.{most_class_levels}
use Rattle.bits.proofs.Below.{by_cases, first_none}
use Rattle.bits.specs.Word.{has_bit}
use Rattle.bits.proofs.Counting.{any_none, count-le}
use Rattle.bits.proofs.Masks.{size_below}
use Rattle.card.specs.Layout.{person_kind, step_kind, rule_kind_lem}
use Rattle.card.specs.Fields.{person_ok, step_ok, rule_ok, class_levels, levels_in, tag_of, class_of, permitted_of, skipped_of, rule_kind_of, level_of, limit_of, scope_of, limit_ok, scope_size, only_below_lem}
use Rattle.card.proofs.ByKind.{fields_person, fields_step, fields_rule}
use Rattle.card.proofs.Levels.{field_used}
use Rattle.card.proofs.Limits.{limit_cases}
use Rattle.sheet.specs.Read.{Read, job, fault, first_clash, first_late, same_tag, same_class_lem, class_moved, read_sheet}
use Rattle.sheet.specs.Answer.{answer, job_of, table, class_table, sheet_of}
use Rattle.sheet.specs.Readable.{ReadableJob, ReadSheet}
use Rattle.std.specs.Prelude.{Ok}
use Rattle.sheet.proofs.Found.{ok_same, err_ok}
use Rattle.sheet.specs.declared.SheetJob.{SheetJob}
use Rattle.sheet.proofs.Chains.{chains}
use Rattle.sheet.proofs.Columns.{length_classes, classes_level}
use Rattle.sheet.proofs.Fill.{get_d_table, length-table}
use Rattle.sheet.proofs.InOrder.{below_power, header_levels, person_fields, step_fields, rule_fields}
use Rattle.sheet.proofs.Passes.{Passes, sheet_passes}

-- where nothing clashes no pair does
pub no_clash : (n : ℕ) (clash : ℕ → ℕ → Bool) → n ≤ first_clash n clash → (j k : ℕ) → j < k → k < n → clash j k ≡ false
unfolding first_clash
no_clash n clash h j k l m =
    any_none k (λ i. clash i k) (first_none n (λ i. any i (λ x. clash x i)) k (omega arith)) j l

-- a limit is at most the number of steps
limit_few : (kind limit scope steps : ℕ) → steps ≤ 12 → limit_ok kind limit (scope_size scope) ≡ true → only_below_lem steps scope ≡ true → limit ≤ 12
limit_few kind limit scope steps few h only =
    let e = size_below steps 16 scope (omega arith) (below_power steps scope only) in
    let l = count-le steps (has_bit scope) in
    limit_cases kind limit (scope_size scope) h (λ a b c d. omega arith) (λ a b c d f. omega arith)

module _ (s people steps rules : List ℕ) (n : ℕ) (p : Passes s n people steps rules) where
  pub person_card : (k : ℕ) → k < length people → person_ok s (get_or people k 0) ≡ true
  person_card k l = sym (fields_person s 0 person_kind (get_or people k 0) refl) ∙ (chains s n people steps rules p).people_chain.fields k l

  pub step_card : (k : ℕ) → k < length steps → step_ok s (get_or steps k 0) ≡ true
  step_card k l =
      sym (fields_step s 0 step_kind (get_or steps k 0) (λ e. absurd (omega arith)) refl) ∙ (chains s n people steps rules p).steps_chain.fields k l

  pub rule_card : (k : ℕ) → k < length rules → rule_ok s (length steps) (get_or rules k 0) ≡ true
  rule_card k l =
      sym (fields_rule s (length steps) rule_kind_lem (get_or rules k 0) (λ e. absurd (omega arith)) (λ e. absurd (omega arith)))
      ∙ (chains s n people steps rules p).rules_chain.fields k l

  pub not_late : (k : ℕ) → k < length people → only_below_lem (length steps) (permitted_of s (get_or people k 0)) ≡ true
  unfolding first_late
  not_late k l =
      not-false _ (first_none (length people) (λ i. not (only_below_lem (length steps) (permitted_of s (get_or people i 0)))) k (omega (arith, p.no_late)))

  -- two people of one class have one class above it
  pub later_above : (q i k : ℕ) → 1 ≤ q → suc q ≤ class_levels s → i < k → k < length people
      → class_of s (suc q) (get_or people i 0) ≡ class_of s (suc q) (get_or people k 0) → class_of s q (get_or people i 0) ≡ class_of s q (get_or people k 0)
  later_above q i k from to l m e =
      let z : suc (q - 1) ≡ q = omega arith in
      let c = any_none (class_levels s - 1) (λ r. same_class_lem s people (suc (suc r)) i k && not (same_class_lem s people (suc r) i k))
      (no_clash (length people) (class_moved s people) p.classes i k l m) (q - 1) (omega arith) in
      let d : (same_class_lem s people (suc q) i k && not (same_class_lem s people q i k)) ≡ false
      = subst (λ (r : ℕ). (same_class_lem s people (suc r) i k && not (same_class_lem s people r i k)) ≡ false) z c in
      eqb-true _ _ (not-false _ (sym (ap (λ (b : Bool). b && not (same_class_lem s people q i k)) (eq-eqb _ _ e)) ∙ d))

  pub same_above : (q i k : ℕ) → 1 ≤ q → suc q ≤ class_levels s → i < length people → k < length people
      → class_of s (suc q) (get_or people i 0) ≡ class_of s (suc q) (get_or people k 0) → class_of s q (get_or people i 0) ≡ class_of s q (get_or people k 0)
  same_above q i k from to l m e =
      by_cases (ltb i k)
      (λ t. later_above q i k from to (ltb-true i k t) m e)
      (λ t. by_cases (ltb k i)
      (λ u. sym (later_above q k i from to (ltb-true k i u) l (sym e)))
      (λ u.
      let a : k ≤ i = ltb-false i k t in let b : i ≤ k = ltb-false k i u in
      let d : i ≡ k = omega arith in ap (λ (x : ℕ). class_of s q (get_or people x 0)) d))

  -- a field in its table
  at : (size : ℕ) (f : ℕ → ℕ) (l : List ℕ) (k : ℕ) → k < length l → (P : ℕ → Type 0) → P (f (get_or l k 0)) → P (get_or (table size f l) k 0)
  at size f l k h P x = subst P (sym (get_d_table size f l k h)) x

  -- the class of a person in the table
  class_is : class_levels s ≤ most_class_levels → (q k : ℕ) → 1 ≤ q → q ≤ class_levels s → k < length people
      → class_entry (class_table s people) q k ≡ class_of s q (get_or people k 0)
  class_is deep q k from to l =
      ap (λ (x : List ℕ). get_or x k 0) (classes_level s people (chains s n people steps rules p).people_chain.short deep q from to)
      ∙ get_d_table 64 (class_of s q) people k l

  pub readable_job : (1 ≤ class_levels s) × (class_levels s ≤ most_class_levels) → ReadableJob (length people) (length steps) (length rules) (job_of s people steps rules)
  unfolding job_of
  readable_job levels =
      let c = chains s n people steps rules p in
      let x = p.people_some in
      record {
        people_some = omega arith;
        people_most = c.people_chain.short;
        steps_most = c.steps_chain.short;
        rules_most = c.rules_chain.short;
        levels_some = omega (arith, levels.0);
        levels_most = omega (arith, levels.1);
        sized =
            record {
              person_tag = length-table 64 (tag_of s) people c.people_chain.short;
              step_tag = length-table 12 (tag_of s) steps c.steps_chain.short;
              skipped = length-table 64 (skipped_of s) steps (omega (arith, c.steps_chain.short));
              class = length_classes s people c.people_chain.short levels.1;
              permitted = length-table 64 (permitted_of s) people c.people_chain.short;
              scope = length-table 64 (scope_of s) rules c.rules_chain.short;
              kind = length-table 64 (rule_kind_of s) rules c.rules_chain.short;
              level = length-table 64 (level_of s) rules c.rules_chain.short;
              limit = length-table 64 (limit_of s) rules c.rules_chain.short;
            };
        person = λ k l.
            let t = person_fields s (get_or people k 0) (person_card k l) in
            record {
              tag = at 64 (tag_of s) people k l (λ (v : ℕ). 0 < v) t.1;
              class = λ q from to.
                  subst (λ (v : ℕ). 0 < v) (sym (class_is levels.1 q k from (omega arith) l))
                  (field_used (class_levels s) q (class_of s q (get_or people k 0)) (t.3 q from (omega (arith, levels.1))) (omega arith));
              permitted = at 64 (permitted_of s) people k l (λ (v : ℕ). v < 2 ^ length steps) (below_power (length steps) _ (not_late k l));
            };
        step_tag = λ k l. at 12 (tag_of s) steps k l (λ (v : ℕ). 0 < v) (step_fields s _ (step_card k l)).1;
        rule = λ k l.
            let t = rule_fields s (get_or rules k 0) (length steps) (rule_card k l) in
            record {
              level_from = at 64 (level_of s) rules k l (λ (v : ℕ). 1 ≤ v) t.1;
              level_to = at 64 (level_of s) rules k l (λ (v : ℕ). v ≤ levels_in s) t.2;
              scope = at 64 (scope_of s) rules k l (λ (v : ℕ). v < 2 ^ length steps) (below_power (length steps) _ t.3);
              limit = at 64 (limit_of s) rules k l (λ (v : ℕ). v ≤ 12) (limit_few _ _ (scope_of s (get_or rules k 0)) (length steps) c.steps_chain.short t.0 t.3);
            };
        person_tags = λ i k l m e.
            eqb-false _ _ (no_clash (length people) (same_tag s people) p.people_tags i k l m)
            (sym (get_d_table 64 (tag_of s) people i (omega arith)) ∙ e ∙ get_d_table 64 (tag_of s) people k m);
        step_tags = λ i k l m e.
            eqb-false _ _ (no_clash (length steps) (same_tag s steps) p.steps_tags i k l m)
            (sym (get_d_table 12 (tag_of s) steps i (omega arith)) ∙ e ∙ get_d_table 12 (tag_of s) steps k m);
        nested = λ q i k from to l m e.
            let few = levels.1 in
            class_is few q i from (omega arith) l
            ∙ same_above q i k from (omega arith) l m
            (sym (class_is few (suc q) i (omega arith) (omega arith) l) ∙ e ∙ class_is few (suc q) k (omega arith) (omega arith) m)
            ∙ sym (class_is few q k from (omega arith) m);
      }

-- a job with the same fields and a count of rules of its own
abbrev pub counting : ℕ → SheetJob → SheetJob
counting n j =
    record {
      people = j.people;
      steps = j.steps;
      rules = n;
      levels = j.levels;
      person_tag = j.person_tag;
      step_tag = j.step_tag;
      skipped = j.skipped;
      class = j.class;
      permitted = j.permitted;
      rule_scope = j.rule_scope;
      rule_kind = j.rule_kind;
      rule_level = j.rule_level;
      rule_limit = j.rule_limit;
    }

-- a job with its later rules left out is in order too, whatever it says of their number: what is asked of it is another thing
pub fewer_counted : {people steps rules few n : ℕ} {j : SheetJob} → ReadableJob people steps rules j → few ≤ rules → ReadableJob people steps few (counting n j)
fewer_counted r l =
    record {
      people_some = r.people_some;
      people_most = r.people_most;
      steps_most = r.steps_most;
      rules_most = omega (arith, r.rules_most);
      levels_some = r.levels_some;
      levels_most = r.levels_most;
      sized =
          record {
            person_tag = r.sized.person_tag;
            step_tag = r.sized.step_tag;
            skipped = r.sized.skipped;
            class = r.sized.class;
            permitted = r.sized.permitted;
            scope = r.sized.scope;
            kind = r.sized.kind;
            level = r.sized.level;
            limit = r.sized.limit;
          };
      person = λ p m. let f = r.person p m in record { tag = f.tag; class = f.class; permitted = f.permitted };
      step_tag = r.step_tag;
      rule = λ i m. let f = r.rule i (omega arith) in record { level_from = f.level_from; level_to = f.level_to; scope = f.scope; limit = f.limit };
      person_tags = r.person_tags;
      step_tags = r.step_tags;
      nested = r.nested;
    }

pub fewer_rules : {people steps rules few : ℕ} {j : SheetJob} → ReadableJob people steps rules j → few ≤ rules → ReadableJob people steps few j
fewer_rules {j = j} r l = fewer_counted {n = j.rules} r l

-- a sheet that was read has one to three class levels
pub sheet_levels : (s people steps rules : List ℕ) → read_sheet s ≡ job people steps rules → (1 ≤ class_levels s) × (class_levels s ≤ most_class_levels)
sheet_levels s people steps rules e = header_levels s (length s / 16) (sheet_passes s people steps rules e).good_header

-- the answer of a job
answer_job : (s : List ℕ) (r : Read) (j : SheetJob) → answer s r ≡ Ok j → (p : List ℕ) × (t : List ℕ) × (u : List ℕ) × (r ≡ job p t u) × (j ≡ job_of s p t u)
unfolding answer
answer_job s (job p t u) j e = (p, t, u, refl, ok_same (sym e))
answer_job s (fault f c) j e = absurd (err_ok e)

pub read_sheet_job : (s : List ℕ) (j : SheetJob) → sheet_of s ≡ Ok j → ReadSheet s j.people j.steps j.rules j
unfolding job_of
read_sheet_job s j e =
    let a = answer_job s (read_sheet s) j e in
    let p = (sheet_passes s a.0 a.1 a.2 a.3).rest in
    subst (λ (x : SheetJob). ReadSheet s x.people x.steps x.rules x) (sym a.4)
    (record {
      person_cards = a.0;
      step_cards = a.1;
      rule_cards = a.2;
      read = a.3;
      chains = chains s (length s / 16) a.0 a.1 a.2 p;
      people_count = refl;
      steps_count = refl;
      rules_count = refl;
      filled = refl;
      readable = readable_job s a.0 a.1 a.2 (length s / 16) p (sheet_levels s a.0 a.1 a.2 a.3);
    })
