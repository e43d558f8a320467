-- The order in which a sheet is read, case by case: the answer that the code gives on its way is that of the definition.
-- Assumes nothing.
use mathlib.Core.Bool.{Bool, true, false}
use mathlib.Core.List.{List}
use mathlib.Core.Path.{◌≡◌, sym, ◌∙◌, ap}
use Prim.Native.Nat.{ℕ, ◌*◌, ◌/◌, ◌<◌, ◌≤◌}
use native.Mathlib.Omega.{arith}
use lib.ListN.{length, get_or}
use borrow.Author.Tests.{eq-eqb, ne_eqb, lt-ltb, le-ltb}
use Rattle.card.specs.Fields.{header_ok}
use Rattle.card.specs.Refusals.{length_fault, header_fault, field_fault, count_fault}
use Rattle.chain.specs.Walk.{Walked}
use Rattle.sheet.specs.Read.{fault, along, checked, people_walk, steps_walk, rules_walk, steps_read, people_read, read_people, read_sheet, length_ok, first_late}
use Rattle.std.specs.Prelude.{Option, Some, None}
use Rattle.sheet.specs.Cards.{place_below}
use Rattle.sheet.proofs.Found.{place_some, place_none}
use Rattle.sheet.proofs.InOrder.{length_right}

module _ (s : List ℕ) (cards : ℕ) (people : List ℕ) where
  module _ (steps : List ℕ) where
    pub no_steps : length steps ≡ 0 → fault count_fault 0 ≡ steps_read s cards people steps
    unfolding steps_read
    no_steps z = rw (eq-eqb _ _ z)

    module _ (some : length steps ≡ 0 → ⊥) {found : Option ℕ} (is : found ≡ place_below (length people) (first_late s (length steps) people)) where
      pub late_bit : {k : ℕ} → found ≡ Some k → fault field_fault (get_or people k 0) ≡ steps_read s cards people steps
      unfolding steps_read
      late_bit {k} e =
          let p = place_some is e in
          let x = p.1 in
          ap (λ (i : ℕ). fault field_fault (get_or people i 0)) (sym x)
          ∙ (rw (ne_eqb _ _ some, lt-ltb (first_late s (length steps) people) (length people) (omega (arith, p.0))))

      module _ (e : found ≡ None) where
        on : along (rules_walk s cards people steps (length steps)) (checked s cards people steps) ≡ steps_read s cards people steps
        unfolding steps_read
        on = rw (ne_eqb _ _ some, le-ltb (first_late s (length steps) people) (length people) (place_none is e))

        pub after_rules_walk : {w : Walked} → rules_walk s cards people steps (length steps) ≡ w → along w (checked s cards people steps) ≡ steps_read s cards people steps
        after_rules_walk w = ap (λ (x : Walked). along x (checked s cards people steps)) (sym w) ∙ on

  pub no_people : length people ≡ 0 → fault count_fault 0 ≡ people_read s cards people
  unfolding people_read
  no_people z = rw (eq-eqb _ _ z)

  module _ (some : length people ≡ 0 → ⊥) where
    pub after_steps_walk : {w : Walked} → steps_walk s cards people ≡ w → along w (steps_read s cards people) ≡ people_read s cards people
    unfolding people_read
    after_steps_walk w = ap (λ (x : Walked). along x (steps_read s cards people)) (sym w) ∙ (rw (ne_eqb (length people) 0 some))

module _ (s : List ℕ) (cards : ℕ) where
  pub after_people_walk : {w : Walked} → people_walk s cards ≡ w → along w (people_read s cards) ≡ read_people s cards
  unfolding read_people
  after_people_walk w = ap (λ (x : Walked). along x (people_read s cards)) (sym w)

-- what a good length says: there is a header, and the cards are 1 to 141
pub length_facts : (n : ℕ) → length_ok n ≡ true → (16 ≤ n) × ((16 * (n / 16) ≤ n) × (0 < n / 16) × (n / 16 ≤ 141))
length_facts n h =
    let r = length_right n h in
    let x = r.0 in let y = r.1 in let z = r.2 in
    (omega arith, (omega arith, omega arith, omega arith))

module _ (s : List ℕ) {t : Bool} where
  pub bad_length : t ≡ false → t ≡ length_ok (length s) → fault length_fault 0 ≡ read_sheet s
  unfolding read_sheet
  bad_length f d = rw (← d, f)

  module _ (f : t ≡ true) (d : t ≡ length_ok (length s)) where
    pub long_enough : (16 ≤ length s) × ((16 * (length s / 16) ≤ length s) × (0 < length s / 16) × (length s / 16 ≤ 141))
    long_enough = length_facts (length s) (sym d ∙ f)

    module _ {u : Bool} (b : u ≡ header_ok s (length s / 16)) where
      pub bad_header : u ≡ false → fault header_fault 0 ≡ read_sheet s
      unfolding read_sheet
      bad_header g = rw (← d, f, ← b, g)

      pub read_on : u ≡ true → read_people s (length s / 16) ≡ read_sheet s
      unfolding read_sheet
      read_on g = rw (← d, f, ← b, g)
