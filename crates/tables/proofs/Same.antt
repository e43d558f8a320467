-- The arrays pose the problem of the sheet: the same plans are valid. Assumes nothing.
use mathlib.Core.Bool.{Bool, true, false, not, ◌&&◌}
use mathlib.Core.List.{List, [], ◌∷◌, ◌++◌}
use mathlib.Core.Path.{◌≡◌, refl, sym, ◌∙◌, ap, subst}
use Prim.Native.Nat.{ℕ, zero, suc, ◌+◌, ◌-◌, ◌/◌, ◌^◌, ◌<◌, ◌≤◌}
use native.Mathlib.Omega.{arith}
use native.Mathlib.Nat.{not-suc-le-zero, div-zero, mul-suc}
use native.Mathlib.Numerals.{add-one}
use lib.Count.{ones}
use lib.Dec.{leb, ltb}
use lib.ListN.{length, get_or, set, length-set, get_or-append}
use lib.Pow.{pow_mono}
use lib.Seq.{get_or_at, get_or-set_same, get_or-set_other}
use borrow.Author.Tests.{leb-true, leb-false, le-leb, lt-leb, le-ltb, lt-ltb, ltb-true, ltb-false}
use Rattle.bits.specs.Below.{count}
use Rattle.bits.specs.Word.{has_bit}
use Rattle.bits.proofs.Below.{by_cases, true-false, below_suc, and_left, and_right}
use Rattle.bits.proofs.Masks.{ones-count}
use Rattle.bits.proofs.SetLaws.{has_below}
use Rattle.remaining.specs.Kept.{kept_below}
use Rattle.remaining.proofs.KeptLaws.{kept_step, kept_below_lem, kept_every, kept_few}
use Rattle.sheet.specs.Readable.{ReadableJob}
use Rattle.sheet.specs.declared.SheetJob as sheet
use Rattle.workflow.specs.Problem.{Kind, same, different, at_most, at_least, maxLoad, Job, Plan, Met, RuleOk, class_count, least_of, most_of, heaviest_of, fewest}
use Rattle.workflow.specs.Numbered.{kind_in}
use Rattle.workflow.specs.Same.{SamePlans, Renamed}
use Rattle.workflow.proofs.Counts.{distinct-le_scope}
use Rattle.workflow.proofs.Lists.{length-snoc}
use Rattle.workflow.proofs.Loads.{largest_load_scope, fewest-le}
use Rattle.workflow.proofs.Rules.{class_some}
use Rattle.workflow.proofs.Same.{renamed_same, same_trans}
use Rattle.pattern.specs.declared.Size.{Size}
use Rattle.pattern.specs.Given.{Classed}
use Rattle.pattern.specs.Number.{number_of}
use Rattle.pattern.specs.Pattern.{Refining}
use Rattle.pattern.specs.Rule.{level_in, scope_in}
use Rattle.pattern.specs.Tables.{class_in, rule_in, job_in}
use Rattle.pattern.proofs.Number.{number_same, number_tells, number_moves, numbering, numbering_as, number_few}
use Rattle.levels.specs.declared.Tables.{Tables}
use Rattle.levels.specs.Trims.{Trims}
use Rattle.instance.specs.Instance.{instance_of}
use Rattle.instance.proofs.Laws.{instance_nested, instance_rules}
use Rattle.tables.specs.Arrays.{MasksOf, ClassesOf}
use Rattle.tables.specs.Posing.{Packable, Packs, unbroken, breakable, PackedRules, Poses, Permits}

pub packable : (people steps rules : ℕ) (j : sheet.SheetJob) → ReadableJob people steps rules j → Packable steps rules j.rule_level j.rule_limit j.rule_scope
packable people steps rules j r =
    record {
      few_steps = r.steps_most;
      few_rules = r.rules_most;
      levels = r.sized.level;
      limits = r.sized.limit;
      small_level = λ i l. omega (arith, (r.rule i l).level_to, r.levels_most);
      scopes = r.sized.scope;
      small_limit = λ i l. (r.rule i l).limit;
      small_scope = λ i l. (r.rule i l).scope;
    }

module _ (people steps rules : ℕ) (j : sheet.SheetJob) (r : ReadableJob people steps rules j)
    (class : List ℕ) (c : ClassesOf j.levels j.class people class)
    (rule : List ℕ) (number : ℕ) (w : PackedRules steps rules j.rule_kind j.rule_level j.rule_limit j.rule_scope rule number) where
  abbrev size : Size
  size = record { steps = steps; people = people; levels = j.levels; rules = number }

  abbrev asked : Job
  asked = instance_of people steps rules j

  abbrev posed : Job
  posed = job_in size class rule

  -- each class has its number
  numbered : (q p : ℕ) → 1 ≤ q → q ≤ j.levels → p < people → class_in class q p ≡ number_of people (asked.class q) p
  numbered = c.numbers

  -- the table has two people in one class exactly where the sheet has
  class_back : (q p p' : ℕ) → 1 ≤ q → q ≤ j.levels → p < people → p' < people → asked.class q p ≡ asked.class q p' → class_in class q p ≡ class_in class q p'
  class_back q p p' a b l m e = numbered q p a b l ∙ number_same people (asked.class q) p p' e ∙ sym (numbered q p' a b m)

  class_forth : (q p p' : ℕ) → 1 ≤ q → q ≤ j.levels → p < people → p' < people → class_in class q p ≡ class_in class q p' → asked.class q p ≡ asked.class q p'
  class_forth q p p' a b l m e = number_tells people (asked.class q) p p' l m (sym (numbered q p a b l) ∙ e ∙ numbered q p' a b m)

  refining : Refining posed
  refining =
      record {
        finer = λ q p p' a b l m e.
            class_back q p p' a (omega arith) l m
            ((instance_nested people steps rules j r).finer q p p' a b l m (class_forth (suc q) p p' (omega arith) (omega arith) l m e));
      }

  -- which is that of the table's class, as the same people share it
  numbers : (q p : ℕ) → 1 ≤ q → q ≤ j.levels → p < people → class_in class q p ≡ number_of people (class_in class q) p
  numbers q p a b l =
      numbered q p a b l
      ∙ number_moves people (asked.class q) (class_in class q) (λ x y m n e. class_back q x y a b m n e) (λ x y m n e. class_forth q x y a b m n e) p l

  -- a rule that can be broken, by its place on the chain
  abbrev left_out : ℕ → Bool
  left_out i = unbroken steps (get_or j.rule_kind i 0) (get_or j.rule_limit i 0) (get_or j.rule_scope i 0)

  abbrev from : ℕ → ℕ
  from k = get_or (breakable steps j.rule_kind j.rule_limit j.rule_scope rules) k 0

  from_below : (k : ℕ) → k < number → from k < rules
  from_below k l = kept_below_lem left_out rules k (omega (arith, w.all))

  ok : (k : ℕ) → k < number → RuleOk steps j.levels (rule_in rule k)
  ok k l =
      let b = instance_rules people steps rules j r (from k) (from_below k l) in
      let e = w.each k l in
      let z : count steps (has_bit (scope_in (get_or rule k 0))) ≡ count steps (has_bit (get_or j.rule_scope (from k) 0))
      = ap (λ (m : ℕ). count steps (has_bit m)) e.its_scope
      in
      record {
        from = omega (arith, e.its_level, b.from);
        to = omega (arith, e.its_level, b.to);
        reachable = omega (arith, e.its_least, b.reachable);
        bounded = omega (arith, e.its_most, b.bounded);
      }

  pub whole_classed : Classed size class rule
  whole_classed =
      record {
        ruled = record {
          few_steps = r.steps_most;
          few_levels = r.levels_most;
          few_rules = omega (arith, w.all, kept_few left_out rules, r.rules_most);
          sized = w.sized;
          scopes = λ k l. subst (λ (m : ℕ). m < 2 ^ steps) (sym (w.each k l).its_scope) (r.rule (from k) (from_below k l)).scope;
          rule_ok = ok;
        };
        few_people = r.people_most;
        classes = c.size;
        refining = refining;
        numbers = numbers;
      }

  -- the job with the rules that can be broken alone
  abbrev shorter : Job
  shorter = record { steps = steps; people = people; levels = j.levels; class = asked.class; rules = number; rule = λ k. asked.rule (from k) }

  -- the others are met by every plan
  always_met : (i : ℕ) → left_out i ≡ true → (π : Plan) → Met asked (asked.rule i) π
  always_met i h π =
      let scope = has_bit (get_or j.rule_scope i 0) in
      let size = count steps scope in
      let first = and_left (leb size 1 && leb size (asked.rule i).most) _ h in
      let one : count steps scope ≤ 1 = leb-true _ _ (and_left (leb size 1) _ first) in
      let high : count steps scope ≤ (asked.rule i).most = leb-true _ _ (and_right (leb size 1) _ first) in
      let heavy : count steps scope ≤ (asked.rule i).load = leb-true _ _ (and_right (leb size 1 && leb size (asked.rule i).most) _ h) in
      let few : class_count asked (asked.rule i) π ≤ count steps scope = distinct-le_scope steps scope (λ s. asked.class (asked.rule i).level (π s)) in
      record {
        least =
            by_cases (ltb 0 (count steps scope))
            (λ t. let some : 1 ≤ class_count asked (asked.rule i) π = class_some steps scope (λ s. asked.class (asked.rule i).level (π s)) (ltb-true 0 (count steps scope) t) in omega arith)
            (λ t. let none = ltb-false 0 (count steps scope) t in omega arith);
        most = omega arith;
        load = omega (arith, largest_load_scope steps scope (λ s. asked.class (asked.rule i).level (π s)));
      }

  shortened : SamePlans asked shorter
  shortened =
      record {
        steps = refl;
        people = refl;
        valid = λ may π. (
          λ v. record { within = v.within; authorised = v.authorised; eligible = λ k l. v.eligible (from k) (from_below k l) },
          λ v.
              record {
                within = v.within;
                authorised = v.authorised;
                eligible = λ i l.
                    by_cases (left_out i) (λ h. always_met i h π)
                    (λ h.
                    let k = kept_every left_out rules i l h in
                    subst (λ (x : ℕ). Met asked (asked.rule x) π) k.2 (v.eligible k.0 (omega (arith, k.1, w.all))));
              },
        );
      }

  renamed : Renamed shorter posed
  renamed =
      record {
        steps = refl;
        people = refl;
        rules = refl;
        least = λ k l. (w.each k l).its_least;
        most = λ k l. (w.each k l).its_most;
        load = λ k l. (w.each k l).its_load;
        scope = λ k s l. ap (λ (m : ℕ). has_bit m s) (w.each k l).its_scope;
        classes = λ k p p' l a b.
            let o = ok k l in
            let e = (w.each k l).its_level in (
              λ x. class_back (level_in (get_or rule k 0)) p p' o.from o.to a b (subst (λ (q : ℕ). asked.class q p ≡ asked.class q p') (sym e) x),
              λ x. subst (λ (q : ℕ). asked.class q p ≡ asked.class q p') e (class_forth (level_in (get_or rule k 0)) p p' o.from o.to a b x),
            );
      }

  pub poses : (t : Tables) → Trims size class rule t → Poses people steps rules j t
  poses tables t =
      record {
        ready = t.ready;
        same = same_trans shortened (same_trans (renamed_same shorter posed renamed) t.same);
        numbers = λ k a b.
            let x = t.kept k a b in
            let its : (p : ℕ) → p < people → class_in tables.class k p ≡ number_of people (asked.class x.0) p = λ p l. x.3 p l ∙ numbered x.0 p x.1 x.2 l in
            record {
              level = x.0;
              from = x.1;
              to = x.2;
              numbering = numbering_as people (asked.class x.0) _ _ its (numbering people (asked.class x.0));
              small = λ p l. omega (arith, its p l, number_few people (asked.class x.0) p l, r.people_most);
            };
      }

pub permits : (people steps : ℕ) (j : sheet.SheetJob) {may : List ℕ} → steps ≤ 12 → MasksOf j.permitted people 12 may → Permits people steps j may
permits people steps j few m =
    record {
      masks = m.size;
      permitted = λ s p l k. (m.each s (omega arith)).each p ∙ ap (λ (b : Bool). b && has_bit (get_or j.permitted p 0) s) (lt-ltb p people k);
    }

-- kinds 0 and 1 are `same`, those from 5 on limit the load
pub low_least : (kind limit size : ℕ) → kind ≤ 1 → 1 ≡ least_of (kind_in kind) limit size
low_least zero limit size l = refl
low_least (suc zero) limit size l = refl
low_least (suc (suc kind)) limit size l = absurd (omega arith)

pub low_most : (kind limit steps : ℕ) → kind ≤ 1 → 1 ≡ most_of (kind_in kind) limit steps
low_most zero limit steps l = refl
low_most (suc zero) limit steps l = refl
low_most (suc (suc kind)) limit steps l = absurd (omega arith)

pub limit_least : (kind limit size : ℕ) → kind ≡ 4 → limit ≡ least_of (kind_in kind) limit size
limit_least kind limit size e = rw e refl

-- what kind 5 has
pub load_kind : (kind : ℕ) → 4 < kind → kind_in kind ≡ maxLoad
load_kind zero l = absurd (omega arith)
load_kind (suc zero) l = absurd (omega arith)
load_kind (suc (suc zero)) l = absurd (omega arith)
load_kind (suc (suc (suc zero))) l = absurd (omega arith)
load_kind (suc (suc (suc (suc zero)))) l = absurd (omega arith)
load_kind (suc (suc (suc (suc (suc kind))))) l = refl

-- and the others
pub other_load : (kind limit steps : ℕ) → kind ≤ 4 → steps ≡ heaviest_of (kind_in kind) limit steps
other_load zero limit steps l = refl
other_load (suc zero) limit steps l = refl
other_load (suc (suc zero)) limit steps l = refl
other_load (suc (suc (suc zero))) limit steps l = refl
other_load (suc (suc (suc (suc zero)))) limit steps l = refl
other_load (suc (suc (suc (suc (suc kind))))) limit steps l = absurd (omega arith)

pub high_most : (kind limit steps : ℕ) → 4 ≤ kind → steps ≡ most_of (kind_in kind) limit steps
high_most zero limit steps l = absurd (omega arith)
high_most (suc zero) limit steps l = absurd (omega arith)
high_most (suc (suc zero)) limit steps l = absurd (omega arith)
high_most (suc (suc (suc zero))) limit steps l = absurd (omega arith)
high_most (suc (suc (suc (suc zero)))) limit steps l = refl
high_most (suc (suc (suc (suc (suc kind))))) limit steps l = refl

-- no more classes than steps are needed to hold them
fewest_few : (size load : ℕ) → fewest size load ≤ size
unfolding fewest
fewest_few size zero = let e : (size + (zero - 1)) / zero ≡ 0 = div-zero (size + (zero - 1)) in omega arith
fewest_few size (suc k) = fewest-le size (suc k) size (omega (arith, mul-suc size k))

-- what is packed fits in its bits
pub least_small : (kind : Kind) (limit size : ℕ) → limit ≤ 12 → size ≤ 12 → least_of kind limit size < 16
least_small same limit size l m = omega arith
least_small different limit size l m = omega arith
least_small at_most limit size l m = omega arith
least_small at_least limit size l m = omega arith
least_small maxLoad limit size l m = omega (arith, fewest_few size limit)

module _ (steps : ℕ) (kind level limit scope : List ℕ) where
  -- the number holds rule i
  abbrev pub PacksAt : ℕ → ℕ → Type 0
  PacksAt i r = Packs steps (get_or kind i 0) (get_or level i 0) (get_or limit i 0) (get_or scope i 0) r

  abbrev left : ℕ → Bool
  left i = unbroken steps (get_or kind i 0) (get_or limit i 0) (get_or scope i 0)

  pub packed_none : (rule : List ℕ) → length rule ≡ 64 → PackedRules steps 0 kind level limit scope rule 0
  unfolding kept_below
  packed_none rule l = record { sized = l; all = refl; each = λ k h. absurd (not-suc-le-zero h) }

  module _ (n : ℕ) (rule : List ℕ) (number : ℕ) (w : PackedRules steps n kind level limit scope rule number) where
    pub packed_room : n < 64 → number < 64
    packed_room l = omega (arith, w.all, kept_few left n)

    -- a rule that no plan breaks is left out
    pub packed_out : left n ≡ true → PackedRules steps (n + 1) kind level limit scope rule number
    packed_out h =
        rw (add-one n)
        (record {
          sized = w.sized;
          all = kept_step (λ (kept : List ℕ). length kept ≡ number) left n (λ o. w.all) (λ o. true-false h o);
          each = λ k b.
              kept_step (λ (kept : List ℕ). PacksAt (get_or kept k 0) (get_or rule k 0)) left n (λ o. w.each k b) (λ o. true-false h o);
        })

    -- another stands after those before
    pub packed_more : (x : ℕ) → n < 64 → left n ≡ false → PacksAt n x → PackedRules steps (n + 1) kind level limit scope (set rule number x) (number + 1)
    packed_more x l h p =
        let inside : number < length rule = omega (arith, packed_room l, w.sized) in
        let kept = kept_below left n in
        rw (add-one n)
        (record {
          sized = length-set rule number x ∙ w.sized;
          all = kept_step (λ (all : List ℕ). length all ≡ number + 1) left n (λ o. true-false o h) (λ o. omega (arith, length-snoc kept n, w.all));
          each = λ k b.
              kept_step (λ (all : List ℕ). PacksAt (get_or all k 0) (get_or (set rule number x) k 0)) left n (λ o. true-false o h)
              (λ o.
              below_suc number k (omega arith)
              (λ q.
              let d : k ≡ number → ⊥ = λ e. omega arith in
              subst (PacksAt (get_or (kept ++ n ∷ []) k 0)) (sym (get_or-set_other rule number k x 0 d))
              (subst (λ (i : ℕ). PacksAt i (get_or rule k 0)) (sym (get_or-append kept (n ∷ []) 0 k (omega (arith, w.all)))) (w.each k q)))
              (λ q.
              subst (λ (y : ℕ). PacksAt (get_or (kept ++ n ∷ []) y 0) (get_or (set rule number x) y 0)) (sym q)
              (subst (PacksAt (get_or (kept ++ n ∷ []) number 0)) (sym (get_or-set_same rule number x 0 inside))
              (subst (λ (i : ℕ). PacksAt i x) (sym (get_or_at kept n [] 0 number w.all)) p))));
        })

  -- by equal arrays and numbers
  pub packed_as : {n number number' : ℕ} {rule rule' : List ℕ} → PackedRules steps n kind level limit scope rule number → rule' ≡ rule → number' ≡ number
      → PackedRules steps n kind level limit scope rule' number'
  packed_as {n} {number} {number'} {rule} {rule'} w e d =
      subst (PackedRules steps n kind level limit scope rule') (sym d) (subst (λ (x : List ℕ). PackedRules steps n kind level limit scope x number) (sym e) w)

  pub packed_all : (rules n : ℕ) (rule : List ℕ) (number : ℕ) → n ≤ rules → rules ≤ n → PackedRules steps n kind level limit scope rule number
      → PackedRules steps rules kind level limit scope rule number
  packed_all rules n rule number a b w =
      let e : n ≡ rules = omega arith in subst (λ (x : ℕ). PackedRules steps x kind level limit scope rule number) e w

-- how many steps are left in a scope, as the machine counts them
pub size_left_lem : (steps scope : ℕ) → steps ≤ 12 → scope < 2 ^ steps → ones scope ≡ count steps (has_bit scope)
size_left_lem steps scope few small =
    let word : scope < 65536 = let a : 2 ^ steps ≤ 2 ^ 12 = pow_mono few in omega arith in
    ones-count steps scope (omega arith) word (λ s h. has_below steps scope s small h)

-- a rule with two steps left or more can be broken
pub breaks_two : (size most load : ℕ) → 1 < size → true ≡ not (leb size 1 && leb size most && leb size load)
breaks_two size most load l = rw (lt-leb size 1 l) refl

-- one with fewer where the greatest count is below them
pub breaks_fewer : (size most load : ℕ) → size ≤ 1 → most < size → true ≡ not (leb size 1 && leb size most && leb size load)
breaks_fewer size most load l m = rw (le-leb size 1 l, lt-leb size most m) refl

-- or where the greatest load is
pub breaks_heavy : (size most load : ℕ) → size ≤ 1 → size ≤ most → ltb load size ≡ not (leb size 1 && leb size most && leb size load)
breaks_heavy size most load l m = rw (le-leb size 1 l, le-leb size most m) (turned load size)
  where
    turned : (a b : ℕ) → ltb a b ≡ not (leb b a)
    turned a b =
        by_cases (leb b a) (λ t. rw t (le-ltb a b (leb-true b a t)))
        (λ t. rw t (lt-ltb a b (leb-false b a t)))
