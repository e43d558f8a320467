-- Which levels a readable sheet has; and that the edition before refused version 2 sheets for their header. Assumes nothing.
use mathlib.Core.Bool.{true, ◌&&◌}
use mathlib.Core.List.{List}
use mathlib.Core.Logic.{⊎_elim}
use mathlib.Core.Path.{◌≡◌, refl, sym, ap}
use Prim.Native.Nat.{ℕ, ◌/◌, ◌≤◌}
use native.Mathlib.Omega.{arith}
use lib.Dec.{eqb}
use lib.ListN.{length, get_or}
use borrow.Author.Tests.{eqb-true, le-ltb}
use Rattle.bits.proofs.Below.{and_left, and_right}
use Rattle.bits.proofs.Counting.{is_false}
use Rattle.card.specs.Layout.{card_word, card_long, kind_of, next_of, header_kind}
use Rattle.card.specs.Fields.{version_of, class_levels, levels_in, class_of}
use Rattle.card.specs.Refusals.{header_fault}
use Rattle.card.proofs.Levels.{first_levels, second_levels}
use Rattle.sheet.specs.Read.{Read, fault, length_ok}
use Rattle.sheet.proofs.InOrder.{header_in_order}
use Rattle.sheet.proofs.Passes.{sheet_passes}
use Rattle.sheet.proofs.Readable.{sheet_levels}
use Rattle.remaining.specs.Remaining.{steps_left, job_left}
use Rattle.remaining.proofs.Laws.{levels_left, readable_in}
use Rattle.instance.specs.Marked.{class_on}
use Rattle.instance.proofs.Classes.{class_level, past_classes}
use Rattle.instance.proofs.Laws.{instance_nested}
use Rattle.fulmarinvar.specs.FirstEdition as before
use Rattle.fulmarinvar.specs.Levels as demands

-- ---- the levels

-- at a class level a rule sees the class on the card, and else the person
on_card : (s people : List ℕ) (q p : ℕ) → 1 ≤ q → q ≤ class_levels s → class_on s people q p ≡ class_of s q (get_or people p 0)
on_card s people q p l m = rw (class_level (levels_in s) q l (omega arith)) refl

pub sheet_levels_demand : demands.SheetLevels
sheet_levels_demand s people steps rules e =
    let few = sheet_levels s people steps rules e in
    let header = header_in_order s (sheet_passes s people steps rules e).good_header in
    record {
      first_version = λ v. sym (first_levels s (λ d. omega arith));
      second_version = λ v. sym (second_levels s v);
      no_other = λ n. ⊎_elim (λ x. absurd (n x.0)) (λ x. x.0) header.version;
      first = λ p. on_card s people 1 p (omega arith) few.0;
      second = λ p l. on_card s people 2 p (omega arith) l;
      third = λ p l. on_card s people 3 p (omega arith) l;
      person = λ p. rw (past_classes (levels_in s) (levels_in s) (omega arith)) refl;
      levels = levels_left s people steps rules;
      nested =
          instance_nested (length people) (length (steps_left s steps)) (length rules) (job_left s people steps rules) (readable_in s people steps rules e);
    }

-- ---- the edition before

pub header_refused : demands.HeaderRefused
header_refused s n v h =
    let a = and_left (eqb (kind_of s 0) header_kind && eqb (version_of s) 1 && eqb (next_of s 0) 0 && eqb (card_word s 0 10) n) (eqb (card_long s 0 12) 0) h in
    let b = and_left (eqb (kind_of s 0) header_kind && eqb (version_of s) 1 && eqb (next_of s 0) 0) (eqb (card_word s 0 10) n) a in
    let c = and_left (eqb (kind_of s 0) header_kind && eqb (version_of s) 1) (eqb (next_of s 0) 0) b in
    let one : version_of s ≡ 1 = eqb-true _ _ (and_right (eqb (kind_of s 0) header_kind) (eqb (version_of s) 1) c) in
    omega arith

module _ (s : List ℕ) (v : version_of s ≡ 2) (good : length_ok (length s) ≡ true) where
  read_four : before.read_first s ≡ fault header_fault 0
  read_four = rw (good, is_false (before.header_first s (length s / 16)) (header_refused s (length s / 16) v)) refl

pub first_answers_four : demands.FirstAnswersFour
first_answers_four s v good =
    let e = read_four s v good in
    record {
      crew = λ buffer. ap (λ (r : Read). (before.crew_read_first s buffer r).number) e;
      spare = λ cap buffer l. rw (le-ltb 3 cap l) (ap (λ (r : Read). (before.spare_read_first cap s buffer r).number) e);
      opens = λ j. ap (λ (r : Read). (before.open_read_first j s r).number) e;
    }
