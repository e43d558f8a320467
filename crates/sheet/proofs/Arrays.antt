-- The same tests over the arrays as the code has them: the answer that the code gives is that of the definition. Assumes nothing.
use mathlib.Core.Bool.{Bool, not, ◌&&◌, ◌||◌}
use mathlib.Core.List.{List}
use mathlib.Core.Path.{◌≡◌, sym, ◌∙◌, ap, ap₂}
use Prim.Native.Nat.{ℕ, suc, ◌-◌, ◌<◌, ◌≤◌}
use native.Mathlib.Omega.{arith}
use lib.Dec.{eqb, ltb}
use lib.ListN.{length, get_or}
use Rattle.bits.specs.Columns.{column_of}
use Rattle.bits.specs.Sizes.{most_class_levels, most_levels, class_words}
use Rattle.bits.proofs.Below.{first_cong}
use Rattle.bits.proofs.Counting.{any_cong}
use Rattle.card.specs.Fields.{tag_of, class_levels, levels_in, class_of}
use Rattle.card.specs.Refusals.{tag_fault, class_fault, loose_fault}
use Rattle.chain.specs.Answer.{marked}
use Rattle.sheet.specs.Read.{Read, job, unless, unless_at, checked, on_three, first_clash, first_loose, same_tag, same_class_lem, class_moved}
use Rattle.sheet.specs.Answer.{answer, otherwise, job_of, table, class_table}
use Rattle.sheet.specs.Cards.{Listing, Marking, equal_at, moved_in}
use Rattle.sheet.specs.declared.SheetJob.{SheetJob}
use Rattle.std.specs.Prelude.{Option, Some, None, Ok, Err}
use Rattle.card.specs.declared.refusal.Refusal.{Refusal}
use Rattle.sheet.proofs.Checked.{clash_cong, in_turn}
use Rattle.sheet.proofs.Found.{refusal}
use Rattle.sheet.proofs.Columns.{length_classes, classes_level}
use Rattle.sheet.proofs.Fill.{get_d_table, length-table}

-- what is known where the job's arrays are filled from the listed cards
pub record Filled (s people steps rules : List ℕ) (j : SheetJob) : Type 0 where
  pub people_listed : Listing s people
  pub few : length steps ≤ 12
  pub arrays : j ≡ job_of s people steps rules
  pub few_levels : class_levels s ≤ most_class_levels

-- the clash of a table is that of the cards' field
table_clash : (size : ℕ) (f : ℕ → ℕ) (l : List ℕ) (j k : ℕ) → j < k → k < length l → equal_at (table size f l) j k ≡ eqb (f (get_or l j 0)) (f (get_or l k 0))
table_clash size f l j k a b = ap₂ eqb (get_d_table size f l j (omega arith)) (get_d_table size f l k b)

module _ {s people steps rules : List ℕ} {j : SheetJob} (w : Filled s people steps rules j) where
  person_tags : j.person_tag ≡ table 64 (tag_of s) people
  unfolding job_of
  person_tags = ap (λ (x : SheetJob). x.person_tag) w.arrays

  step_tags : j.step_tag ≡ table 12 (tag_of s) steps
  unfolding job_of
  step_tags = ap (λ (x : SheetJob). x.step_tag) w.arrays

  classes : j.class ≡ class_table s people
  unfolding job_of
  classes = ap (λ (x : SheetJob). x.class) w.arrays

  levels : j.levels ≡ levels_in s
  unfolding job_of
  levels = ap (λ (x : SheetJob). x.levels) w.arrays

  -- a table of the people has 64 entries
  person-table : (f : ℕ → ℕ) → length (table 64 f people) ≡ 64
  person-table f = length-table 64 f people w.people_listed.fits

  pub person-tags-length : length people ≤ length j.person_tag
  person-tags-length =
      let b = w.people_listed.fits in
      let q : length j.person_tag ≡ 64 = ap length person_tags ∙ person-table (tag_of s) in
      omega arith

  pub classes_length : length j.class ≡ class_words
  classes_length = ap length classes ∙ length_classes s people w.people_listed.fits w.few_levels

  pub levels_few : j.levels ≤ most_levels
  levels_few = let a = w.few_levels in let b = levels in omega arith

  person_clash : first_clash (length people) (equal_at j.person_tag) ≡ first_clash (length people) (same_tag s people)
  person_clash =
      ap (λ (l : List ℕ). first_clash (length people) (equal_at l)) person_tags
      ∙ clash_cong (length people) _ _ (table_clash 64 (tag_of s) people)

  step_clash : first_clash (length steps) (equal_at j.step_tag) ≡ first_clash (length steps) (same_tag s steps)
  step_clash =
      ap (λ (l : List ℕ). first_clash (length steps) (equal_at l)) step_tags
      ∙ clash_cong (length steps) _ _ (table_clash 12 (tag_of s) steps)

  -- two people have one class of a level in the table exactly where they have it on their cards
  column_clash : (q i k : ℕ) → 1 ≤ q → q ≤ class_levels s → i < k → k < length people
      → equal_at (column_of (class_table s people) q) i k ≡ same_class_lem s people q i k
  column_clash q i k l m a b =
      ap (λ (x : List ℕ). equal_at x i k) (classes_level s people w.people_listed.fits w.few_levels q l m) ∙ table_clash 64 (class_of s q) people i k a b

  class_clashes : first_clash (length people) (moved_in j.class (j.levels - 2)) ≡ first_clash (length people) (class_moved s people)
  class_clashes =
      let d : j.levels - 2 ≡ class_levels s - 1 = omega (arith, levels) in
      let f = w.few_levels in
      ap₂ (λ (a : List ℕ) (n : ℕ). first_clash (length people) (moved_in a n)) classes d
      ∙ clash_cong (length people) _ _
      (λ i k a b. any_cong (class_levels s - 1) _ _
      (λ q l. ap₂ (λ (x y : Bool). x && not y)
      (column_clash (suc (suc q)) i k (omega arith) (omega arith) a b)
      (column_clash (suc q) i k (omega arith) (omega arith) a b)))

  module _ {cards : ℕ} {marks : List Bool} (m : Marking s cards marks (on_three people steps rules)) where
    loose_is : first_loose cards (marked marks) ≡ first_loose cards (on_three people steps rules)
    unfolding first_loose
    loose_is = first_cong cards _ _ (λ x l. ap (λ (y : Bool). not (eqb x 0 || y)) (m.so_far x))

    -- the first refusal of the four tests, or the job
    module _ (of_people of_steps of_classes of_loose given : Option Refusal)
        (a : (next : Read) → otherwise of_people next ≡ unless_at people (first_clash (length people) (equal_at j.person_tag)) tag_fault next)
        (b : (next : Read) → otherwise of_steps next ≡ unless_at steps (first_clash (length steps) (equal_at j.step_tag)) tag_fault next)
        (c : (next : Read) → otherwise of_classes next ≡ unless_at people (first_clash (length people) (moved_in j.class (j.levels - 2))) class_fault next)
        (d : (next : Read) → otherwise of_loose next ≡ unless (ltb (first_loose cards (marked marks)) cards) loose_fault (first_loose cards (marked marks)) next)
        (f : (next : Read) → otherwise given next ≡ otherwise of_people (otherwise of_steps (otherwise of_classes (otherwise of_loose next)))) where
      all_tests : otherwise given (job people steps rules) ≡ checked s cards people steps rules
      all_tests =
          f (job people steps rules)
          ∙ ap (otherwise of_people) (ap (otherwise of_steps) (ap (otherwise of_classes) (d _) ∙ c _) ∙ b _)
          ∙ a _
          ∙ in_turn s cards people steps rules person_clash step_clash class_clashes loose_is

      pub given_refusal : {r : Refusal} → given ≡ Some r → Err r ≡ answer s (checked s cards people steps rules)
      given_refusal e = refusal s (sym (ap (λ (x : Option Refusal). otherwise x (job people steps rules)) e) ∙ all_tests)

      pub given_job : given ≡ None → Ok j ≡ answer s (checked s cards people steps rules)
      unfolding answer
      given_job e = ap Ok w.arrays ∙ ap (answer s) (sym (ap (λ (x : Option Refusal). otherwise x (job people steps rules)) e) ∙ all_tests)
