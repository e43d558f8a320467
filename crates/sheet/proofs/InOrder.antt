-- The tests of a card say that it is in order. Assumes nothing.
use mathlib.Core.Bool.{Bool, true, false, ◌&&◌}
use mathlib.Core.List.{List}
use mathlib.Core.Logic.{◌⊎◌, inl, inr}
use mathlib.Core.Path.{◌≡◌, refl, sym, subst}
use Prim.Native.Nat.{ℕ, zero, suc, ◌/◌, ◌%◌, ◌^◌, ◌<◌, ◌≤◌}
use native.Mathlib.Omega.{arith}
use native.Mathlib.Nat.{div-lt_iff_lt-mul, one-mul}
use lib.Dec.{eqb, leb, ltb}
use lib.Pow.{pow_pos}
use borrow.Author.Tests.{eqb-true, eqb-false, eq-eqb, ne_eqb, le-leb, leb-true, leb-false, ltb-true, ltb-false, not-true}
use Rattle.bits.specs.Word.{has_bit}
use Rattle.bits.proofs.Below.{by_cases, true-false, and_left, and_right}
use Rattle.bits.proofs.Masks.{bits_below}
use Rattle.bits.proofs.SetLaws.{has_below}
use Rattle.card.specs.Layout.{card_byte, card_word, card_long, kind_of, next_of, header_kind}
use Rattle.card.specs.Fields.{version_of, levels_byte, form_ok, header_ok, class_levels, levels_in, person_ok, step_ok, rule_ok, tag_of, class_of, class_field_ok, permitted_of, skipped_of, rule_kind_of, level_of, limit_of, scope_of, limit_ok, scope_size, nonzero, only_below_lem}
use Rattle.bits.specs.Sizes.{most_class_levels}
use Rattle.card.proofs.Levels.{form_cases, form_first, form_second, levels_few, field_used, field_unused, field_true}
use Rattle.card.proofs.Limits.{limit_cases}
use Rattle.card.proofs.Zeros.{word-zero, zero_word, long-zero, zero-long}
use Rattle.sheet.specs.Read.{length_ok}
use Rattle.sheet.specs.Faults.{cards_in, stepsChain, EndsAfter, HeaderInOrder, PersonInOrder, StepInOrder, LimitInOrder, RuleInOrder}

-- a set without bits from n on is below 2 ^ n
pub below_power : (n x : ℕ) → only_below_lem n x ≡ true → x < 2 ^ n
below_power n x h =
    let z : x / 2 ^ n ≡ 0 = eqb-true _ _ h in
    subst (λ (m : ℕ). x < m) (one-mul (2 ^ n)) ((div-lt_iff_lt-mul (pow_pos n)).0 (omega arith))

pub only_below : (n x : ℕ) → ((b : ℕ) → has_bit x b ≡ true → b < n) → only_below_lem n x ≡ true
only_below n x h =
    let l : x / 2 ^ n < 1 = (div-lt_iff_lt-mul (pow_pos n)).1 (subst (λ (m : ℕ). x < m) (sym (one-mul (2 ^ n))) (bits_below n x h)) in
    eq-eqb (x / 2 ^ n) 0 (omega arith)

pub bit_below : (n x : ℕ) → only_below_lem n x ≡ true → (b : ℕ) → has_bit x b ≡ true → b < n
bit_below n x h b t = has_below n x b (below_power n x h) t

pub above_zero : (x : ℕ) → nonzero x ≡ true → 0 < x
above_zero x h = let z : x ≡ 0 → ⊥ = eqb-false x 0 (not-true (eqb x 0) h) in omega arith

-- the eight bytes from byte 8 on
eight_zero : (s : List ℕ) (c : ℕ) → card_long s c 8 ≡ 0 → card_long s c 12 ≡ 0 → (b : ℕ) → 8 ≤ b → b < 16 → card_byte s c b ≡ 0
eight_zero s c x y b l m =
    by_cases (ltb b 12)
    (λ t. long-zero s c 8 x b l (ltb-true b 12 t))
    (λ t. long-zero s c 12 y b (ltb-false b 12 t) m)

low_zero : (s : List ℕ) (c : ℕ) → ((b : ℕ) → 8 ≤ b → b < 16 → card_byte s c b ≡ 0) → card_long s c 8 ≡ 0
low_zero s c h = zero-long s c 8 (λ b l m. h b l (omega arith))

high_zero : (s : List ℕ) (c : ℕ) → ((b : ℕ) → 8 ≤ b → b < 16 → card_byte s c b ≡ 0) → card_long s c 12 ≡ 0
high_zero s c h = zero-long s c 12 (λ b l m. h b (omega arith) m)

not-zero : {x : ℕ} → 0 < x → x ≡ 0 → ⊥
not-zero l e = omega arith

one_or_none : (x : ℕ) → x ≤ 1 → (x ≡ 0) ⊎ (x ≡ 1)
one_or_none x l = by_cases (eqb x 0) (λ t. inl (eqb-true x 0 t)) (λ t. inr (let d = eqb-false x 0 t in omega arith))

at_most_one : (x : ℕ) → (x ≡ 0) ⊎ (x ≡ 1) → x ≤ 1
at_most_one x (inl e) = omega arith
at_most_one x (inr e) = omega arith

-- tests that all pass
and_four : (a b c d : Bool) → a && b && c && d ≡ true → (a ≡ true) × (b ≡ true) × (c ≡ true) × (d ≡ true)
and_four a b c d h =
    let x = and_left (a && b && c) d h in let y = and_left (a && b) c x in
    (and_left a b y, and_right a b y, and_right (a && b) c x, and_right (a && b && c) d h)

and_five : (a b c d e : Bool) → a && b && c && d && e ≡ true → (a ≡ true) × (b ≡ true) × (c ≡ true) × (d ≡ true) × (e ≡ true)
and_five a b c d e h =
    let w = and_four a b c d (and_left (a && b && c && d) e h) in (w.0, w.1, w.2, w.3, and_right (a && b && c && d) e h)

and_six : (a b c d e f : Bool) → a && b && c && d && e && f ≡ true → (a ≡ true) × (b ≡ true) × (c ≡ true) × (d ≡ true) × (e ≡ true) × (f ≡ true)
and_six a b c d e f h =
    let w = and_five a b c d e (and_left (a && b && c && d && e) f h) in (w.0, w.1, w.2, w.3, w.4, and_right (a && b && c && d && e) f h)

-- a length that passes is not wrong, and the other way round
pub length_right : (n : ℕ) → length_ok n ≡ true → (n ≡ 0 → ⊥) × (n % 16 ≡ 0) × (n ≤ 2256)
length_right n h =
    let a = and_left (nonzero n && eqb (n % 16) 0) (leb n 2256) h in
    let some = eqb-false n 0 (not-true (eqb n 0) (and_left (nonzero n) (eqb (n % 16) 0) a)) in
    (some, eqb-true _ _ (and_right (nonzero n) (eqb (n % 16) 0) a), leb-true _ _ (and_right (nonzero n && eqb (n % 16) 0) (leb n 2256) h))

pub length-true : (n : ℕ) → (n ≡ 0 → ⊥) → n % 16 ≡ 0 → n ≤ 2256 → length_ok n ≡ true
length-true n a b c = rw (ne_eqb n 0 a, eq-eqb (n % 16) 0 b, le-leb n 2256 c) refl

pub length_wrong : (n : ℕ) → length_ok n ≡ false → (n ≡ 0) ⊎ ((n % 16 ≡ 0 → ⊥) ⊎ (2256 < n))
length_wrong n h =
    by_cases (eqb n 0) (λ t. inl (eqb-true n 0 t))
    (λ t. by_cases (eqb (n % 16) 0)
    (λ u. by_cases (leb n 2256)
    (λ v. true-false (length-true n (eqb-false n 0 t) (eqb-true _ _ u) (leb-true n 2256 v)) h)
    (λ v. inr (inr (leb-false n 2256 v))))
    (λ u. inr (inl (eqb-false _ _ u))))

module _ (s : List ℕ) where
  pub header-true : HeaderInOrder s → header_ok s (cards_in s) ≡ true
  unfolding header_ok
  header-true h =
      rw (
        eq-eqb _ _ h.kind,
        good_form h.version,
        eq-eqb _ _ h.next,
        eq-eqb _ _ h.cards,
        eq-eqb _ _ (h.unnamed 13 (omega arith) (omega arith)),
        eq-eqb _ _ (zero_word s 0 14 (λ b l m. h.unnamed b (omega arith) m)),
      )
      refl
    where
      good_form : ((version_of s ≡ 1) × (levels_byte s ≡ 0)) ⊎ ((version_of s ≡ 2) × (1 ≤ levels_byte s) × (levels_byte s ≤ 3)) → form_ok (version_of s) (levels_byte s) ≡ true
      good_form (inl w) = form_first (version_of s) (levels_byte s) w.0 w.1
      good_form (inr w) = form_second (version_of s) (levels_byte s) w.0 w.1 w.2

  -- what the tests of a header say
  header_tests : (n : ℕ) → header_ok s n ≡ true
      → (eqb (kind_of s 0) header_kind ≡ true) × (form_ok (version_of s) (levels_byte s) ≡ true) × (eqb (next_of s 0) 0 ≡ true) × (eqb (card_word s 0 10) n ≡ true)
      × (eqb (card_byte s 0 13) 0 ≡ true) × (eqb (card_word s 0 14) 0 ≡ true)
  unfolding header_ok
  header_tests n h =
      and_six (eqb (kind_of s 0) header_kind) (form_ok (version_of s) (levels_byte s)) (eqb (next_of s 0) 0) (eqb (card_word s 0 10) n) (eqb (card_byte s 0 13) 0)
      (eqb (card_word s 0 14) 0) h

  -- a good header gives one to three class levels
  pub header_levels : (n : ℕ) → header_ok s n ≡ true → (1 ≤ class_levels s) × (class_levels s ≤ most_class_levels)
  header_levels n h = levels_few s (header_tests n h).1

  pub header_in_order : header_ok s (cards_in s) ≡ true → HeaderInOrder s
  header_in_order h =
      let t = header_tests (cards_in s) h in
      record {
        kind = eqb-true _ _ t.0;
        version = form_cases (version_of s) (levels_byte s) t.1 (λ a b. inl (a, b)) (λ a b c. inr (a, b, c));
        next = eqb-true _ _ t.2;
        cards = eqb-true _ _ t.3;
        unnamed = λ b l m.
            by_cases (eqb b 13)
            (λ u. subst (λ (x : ℕ). card_byte s 0 x ≡ 0) (sym (eqb-true b 13 u)) (eqb-true _ _ t.4))
            (λ u. let d = eqb-false b 13 u in word-zero s 0 14 (eqb-true _ _ t.5) b (omega arith) m);
      }

-- what the tests of a person card say
abbrev pub PersonTested : List ℕ → ℕ → Type 0
PersonTested s c =
    (card_byte s c 1 ≡ 0)
    × (0 < tag_of s c)
    × (only_below_lem 12 (permitted_of s c) ≡ true)
    × ((q : ℕ) → 1 ≤ q → q ≤ most_class_levels → class_field_ok (class_levels s) q (class_of s q c) ≡ true)

-- of a step card
abbrev pub StepTested : List ℕ → ℕ → Type 0
StepTested s c = (skipped_of s c ≤ 1) × (0 < tag_of s c) × (card_long s c 8 ≡ 0) × (card_long s c 12 ≡ 0)

-- of a rule card
abbrev pub RuleTested : List ℕ → ℕ → ℕ → Type 0
RuleTested s steps c =
    (limit_ok (rule_kind_of s c) (limit_of s c) (scope_size (scope_of s c)) ≡ true)
    × (1 ≤ level_of s c)
    × (level_of s c ≤ levels_in s)
    × (only_below_lem steps (scope_of s c) ≡ true)
    × (card_long s c 8 ≡ 0)
    × (card_long s c 12 ≡ 0)

-- a limit that passes is in order, and the other way round
limit_in_order : (kind limit size : ℕ) → limit_ok kind limit size ≡ true → LimitInOrder kind limit size
limit_in_order zero limit size h = limit_cases 0 limit size h (λ a b c d. omega arith) (λ a b c d e. omega arith)
limit_in_order (suc zero) limit size h = limit_cases 1 limit size h (λ a b c d. (c, d)) (λ a b c d e. absurd (omega arith))
limit_in_order (suc (suc zero)) limit size h = limit_cases 2 limit size h (λ a b c d. (c, d)) (λ a b c d e. absurd (omega arith))
limit_in_order (suc (suc (suc zero))) limit size h = limit_cases 3 limit size h (λ a b c d. absurd (omega arith)) (λ a b c d e. (c, d, e))
limit_in_order (suc (suc (suc (suc zero)))) limit size h = limit_cases 4 limit size h (λ a b c d. absurd (omega arith)) (λ a b c d e. (c, d, e))
limit_in_order (suc (suc (suc (suc (suc zero))))) limit size h = limit_cases 5 limit size h (λ a b c d. absurd (omega arith)) (λ a b c d e. (c, d, e))
limit_in_order (suc (suc (suc (suc (suc (suc n)))))) limit size h =
    limit_cases (suc (suc (suc (suc (suc (suc n)))))) limit size h (λ a b c d. omega arith) (λ a b c d e. omega arith)

limit_true : (kind limit size : ℕ) → LimitInOrder kind limit size → limit_ok kind limit size ≡ true
unfolding limit_ok
limit_true zero limit size h = absurd h
limit_true (suc zero) limit size h = rw (eq-eqb size 2 h.0, eq-eqb limit 0 h.1) refl
limit_true (suc (suc zero)) limit size h = rw (eq-eqb size 2 h.0, eq-eqb limit 0 h.1) refl
limit_true (suc (suc (suc zero))) limit size h = rw (le-leb 2 size h.0, le-leb 1 limit h.1, le-leb limit size h.2) refl
limit_true (suc (suc (suc (suc zero)))) limit size h = rw (le-leb 2 size h.0, le-leb 1 limit h.1, le-leb limit size h.2) refl
limit_true (suc (suc (suc (suc (suc zero))))) limit size h = rw (le-leb 2 size h.0, le-leb 1 limit h.1, le-leb limit size h.2) refl
limit_true (suc (suc (suc (suc (suc (suc n)))))) limit size h = absurd h

module _ (s : List ℕ) (c : ℕ) where
  pub person_fields : person_ok s c ≡ true → PersonTested s c
  unfolding person_ok
  person_fields h =
      let t = and_six (eqb (card_byte s c 1) 0) (nonzero (tag_of s c)) (only_below_lem 12 (permitted_of s c)) (class_field_ok (class_levels s) 1 (class_of s 1 c))
      (class_field_ok (class_levels s) 2 (class_of s 2 c)) (class_field_ok (class_levels s) 3 (class_of s 3 c)) h in
      (eqb-true _ _ t.0, above_zero _ t.1, t.2, each_class t.3 t.4 t.5)
    where
      -- the three fields that a card has
      each_class : class_field_ok (class_levels s) 1 (class_of s 1 c) ≡ true → class_field_ok (class_levels s) 2 (class_of s 2 c) ≡ true
          → class_field_ok (class_levels s) 3 (class_of s 3 c) ≡ true → (q : ℕ) → 1 ≤ q → q ≤ most_class_levels → class_field_ok (class_levels s) q (class_of s q c) ≡ true
      each_class x y z zero l m = absurd (omega arith)
      each_class x y z (suc zero) l m = x
      each_class x y z (suc (suc zero)) l m = y
      each_class x y z (suc (suc (suc zero))) l m = z
      each_class x y z (suc (suc (suc (suc q)))) l m = absurd (omega arith)

  pub step_fields : step_ok s c ≡ true → StepTested s c
  unfolding step_ok
  step_fields h =
      let t = and_four (leb (skipped_of s c) 1) (nonzero (tag_of s c)) (eqb (card_long s c 8) 0) (eqb (card_long s c 12) 0) h in
      (leb-true _ _ t.0, above_zero _ t.1, eqb-true _ _ t.2, eqb-true _ _ t.3)

  pub rule_fields : (steps : ℕ) → rule_ok s steps c ≡ true → RuleTested s steps c
  unfolding rule_ok
  rule_fields steps h =
      let t = and_five (limit_ok (rule_kind_of s c) (limit_of s c) (scope_size (scope_of s c))) (leb 1 (level_of s c) && leb (level_of s c) (levels_in s))
      (only_below_lem steps (scope_of s c)) (eqb (card_long s c 8) 0) (eqb (card_long s c 12) 0) h in
      let from = and_left (leb 1 (level_of s c)) (leb (level_of s c) (levels_in s)) t.1 in
      let to = and_right (leb 1 (level_of s c)) (leb (level_of s c) (levels_in s)) t.1 in
      (t.0, leb-true 1 _ from, leb-true _ _ to, t.2, eqb-true _ _ t.3, eqb-true _ _ t.4)

  pub person_in_order : class_levels s ≤ most_class_levels → person_ok s c ≡ true → ((n : ℕ) → EndsAfter s stepsChain n → only_below_lem n (permitted_of s c) ≡ true) → PersonInOrder s c
  person_in_order few h late =
      let t = person_fields h in
      record {
        tag = t.1;
        used = λ q l m. field_used (class_levels s) q (class_of s q c) (t.3 q l (omega arith)) m;
        unused = λ q l m. field_unused (class_levels s) q (class_of s q c) (t.3 q (omega arith) m) l;
        permitted = bit_below 12 (permitted_of s c) t.2;
        steps = λ n e l. bit_below n (permitted_of s c) (late n e);
        second = t.0;
      }

  pub person-true : PersonInOrder s c → person_ok s c ≡ true
  unfolding person_ok
  person-true h =
      rw (
        eq-eqb (card_byte s c 1) 0 h.second,
        ne_eqb (tag_of s c) 0 (not-zero h.tag),
        only_below 12 (permitted_of s c) h.permitted,
        good 1 (omega arith) (omega arith),
        good 2 (omega arith) (omega arith),
        good 3 (omega arith) (omega arith),
      )
      refl
    where
      good : (q : ℕ) → 1 ≤ q → q ≤ most_class_levels → class_field_ok (class_levels s) q (class_of s q c) ≡ true
      good q l m = field_true (class_levels s) q (class_of s q c) (h.used q l) (λ k. h.unused q k m)

  pub step_in_order : step_ok s c ≡ true → StepInOrder s c
  step_in_order h = let t = step_fields h in record { tag = t.1; skipped = one_or_none (skipped_of s c) t.0; unnamed = eight_zero s c t.2 t.3 }

  pub step-true : StepInOrder s c → step_ok s c ≡ true
  unfolding step_ok
  step-true h =
      rw (
        le-leb (skipped_of s c) 1 (at_most_one (skipped_of s c) h.skipped),
        ne_eqb (tag_of s c) 0 (not-zero h.tag),
        eq-eqb (card_long s c 8) 0 (low_zero s c h.unnamed),
        eq-eqb (card_long s c 12) 0 (high_zero s c h.unnamed),
      )
      refl

  pub rule_in_order : (steps : ℕ) → rule_ok s steps c ≡ true → ((n : ℕ) → EndsAfter s stepsChain n → n ≡ steps) → RuleInOrder s c
  rule_in_order steps h only =
      let t = rule_fields steps h in
      record {
        limit = limit_in_order (rule_kind_of s c) (limit_of s c) (scope_size (scope_of s c)) t.0;
        level_from = t.1;
        level_to = t.2;
        scope = λ n e b w. subst (λ (x : ℕ). b < x) (sym (only n e)) (bit_below steps (scope_of s c) t.3 b w);
        unnamed = eight_zero s c t.4 t.5;
      }

  pub rule-true : (steps : ℕ) → EndsAfter s stepsChain steps → RuleInOrder s c → rule_ok s steps c ≡ true
  unfolding rule_ok
  rule-true steps e h =
      rw (
        limit_true (rule_kind_of s c) (limit_of s c) (scope_size (scope_of s c)) h.limit,
        le-leb 1 (level_of s c) h.level_from,
        le-leb (level_of s c) (levels_in s) h.level_to,
        only_below steps (scope_of s c) (h.scope steps e),
        eq-eqb (card_long s c 8) 0 (low_zero s c h.unnamed),
        eq-eqb (card_long s c 12) 0 (high_zero s c h.unnamed),
      )
      refl
