-- A refusal of the reader is a fault of the sheet at the card that it names; it is one of 3 to 12, at a card that a sheet can have.
-- Assumes nothing.
use mathlib.Core.Bool.{Bool, true, false, not, ◌&&◌, ◌||◌}
use mathlib.Core.List.{List, []}
use mathlib.Core.Logic.{inl, inr}
use mathlib.Core.Path.{◌≡◌, refl, sym, ◌∙◌, ap, ap₂, subst}
use Prim.Native.Nat.{ℕ, zero, suc, ◌-◌, ◌<◌, ◌≤◌}
use native.Mathlib.Omega.{arith}
use lib.Dec.{eqb, ltb}
use lib.ListN.{length, get_or}
use borrow.Author.Tests.{eqb-true, eqb-false, eq-eqb, ne_eqb, ltb-true, not-true, not-false}
use Rattle.bits.specs.Below.{any}
use Rattle.bits.specs.Member.{member}
use Rattle.bits.proofs.Below.{by_cases, true-false, below_suc, and_left, and_right, first_has, first_none}
use Rattle.bits.proofs.Counting.{any_of, any_at, any_none}
use Rattle.bits.proofs.Masks.{or_cases, or_left, or_right}
use Rattle.bits.proofs.Member.{member_place, member-not}
use Rattle.card.specs.Layout.{kind_of, person_kind, step_kind, rule_kind_lem}
use Rattle.card.specs.Fields.{header_ok, fields_ok, class_levels, permitted_of, only_below_lem}
use Rattle.card.specs.Refusals.{length_fault, header_fault, reached_fault, field_fault, count_fault, tag_fault, class_fault, loose_fault}
use Rattle.card.proofs.ByKind.{fields_person, fields_step, fields_rule}
use Rattle.chain.specs.Walk.{Walked, listed, refused, walk}
use Rattle.chain.specs.Answer.{chain_of}
use Rattle.chain.specs.Chained.{Upto, StopsAt, at_index, at_reached, at_count, at_kind, at_fields}
use Rattle.chain.proofs.Chained.{walk_chained}
use Rattle.chain.proofs.Refused.{walk_stopped}
use Rattle.sheet.specs.Read.{Read, job, fault, along, unless, length_ok, checked, steps_read, people_read, read_people, read_sheet}
use Rattle.sheet.specs.Read.{first_clash, first_late, first_loose, same_tag, same_class_lem, class_moved, on_two, on_three}
use Rattle.sheet.specs.Answer.{answer, sheet_of}
use Rattle.sheet.specs.Faults as faults
use Rattle.sheet.specs.Faults.{ChainName, peopleChain, stepsChain, rulesChain, rank, first_index, kind_along, most_along, index_at, cards_in}
use Rattle.sheet.specs.Faults.{ComesTo, InOrder, IndexBefore, Reached, FirstClashing, SameTags, SameClassOtherAbove, OnNoChain, Fault}
use Rattle.sheet.specs.Readable.{ReadRefusal}
use Rattle.std.specs.Prelude.{Err}
use Rattle.card.specs.Refusals.{fault_number, fault_numbered}
use Rattle.card.specs.declared.refusal.Refusal.{Refusal}
use Rattle.card.proofs.Numbers.{number-numbered}
use Rattle.sheet.proofs.Found.{err_same, err_ok}
use Rattle.sheet.proofs.InOrder.{only_below, length_wrong, header-true, person-true, step-true, rule-true}
use Rattle.sheet.proofs.Indices.{index_card, upto_leads, upto_comes, upto_holder, index_next, next_comes}
use Rattle.sheet.proofs.Indices.{Traced, traced, comes_card, comes_member, member_comes}
use Rattle.sheet.proofs.Order.{length_facts}

-- a refusal of a test, or of what follows it
unless_fault : {P : Type 0} (t : Bool) (f c : ℕ) (r : Read) (g d : ℕ) → unless t f c r ≡ fault g d
    → (t ≡ true → g ≡ f → c ≡ d → P) → (t ≡ false → r ≡ fault g d → P) → P
unless_fault true f c r g d e yes' on = yes' refl (cc) (cc)
unless_fault false f c r g d e yes' on = on refl e

along_fault : {P : Type 0} (w : Walked) (next : List ℕ → Read) (g d : ℕ) → along w next ≡ fault g d
    → (w ≡ refused g d → P) → ((l : List ℕ) → w ≡ listed l → next l ≡ fault g d → P) → P
along_fault (listed l) next g d e stop on = on l refl e
along_fault (refused f c) next g d e stop on = stop (ap₂ refused (cc) (cc))

-- ---- a chain

-- which cards the chains before have reached, and which cards pass the tests
module _ (s : List ℕ) (k : ChainName) (steps : ℕ) (before : ℕ → Bool)
    (came : (c : ℕ) → before c ≡ true → (l : ChainName) × (j : ℕ) × (rank l < rank k) × ComesTo s l j c)
    (missed : (c : ℕ) → before c ≡ false → (l : ChainName) (j : ℕ) → rank l < rank k → ComesTo s l j c → ⊥)
    (passes : (c : ℕ) → InOrder s k c → fields_ok s steps (kind_along k) c ≡ true) where
  -- a card that neither the chains before nor the indices before have reached
  not_reached : (m x : ℕ) → before x ≡ false → ((a : ℕ) → a < m → index_at s k a ≡ x → ⊥) → Reached s k m x → ⊥
  not_reached m x b apart r = go r.chain r.number r.came r.earlier
    where
      go : (l : ChainName) (a : ℕ) → ComesTo s l a x → IndexBefore l a k m → ⊥
      go l a w (inl h) = missed x b l a h w
      go l a w (inr h) = apart a h.1 (subst (λ (y : ChainName). ComesTo s y a x) h.0 w).index

  module _ (taken : List ℕ) (i : ℕ) (u : Upto (chain_of s (cards_in s) (kind_along k) steps before) (first_index s k) taken i) where
    card_at : (j : ℕ) → j < length taken → index_at s k j ≡ get_or taken j 0
    card_at = index_card s k (kind_along k) steps before taken i u

    next_at : index_at s k (length taken) ≡ i
    next_at = index_next s k (kind_along k) steps before taken i u

    -- none of the cards taken
    taken_new : (m : ℕ) → m < length taken → Reached s k m (index_at s k m) → ⊥
    taken_new m l =
        not_reached m (index_at s k m) (subst (λ (x : ℕ). before x ≡ false) (sym (card_at m l)) (u.fresh m l))
        (λ a h e. u.apart m l a h (sym (card_at a (omega arith)) ∙ e ∙ card_at m l))

    -- nor the one after them
    next_new : before i ≡ false → member taken i ≡ false → Reached s k (length taken) (index_at s k (length taken)) → ⊥
    next_new b t =
        not_reached (length taken) (index_at s k (length taken)) (subst (λ (x : ℕ). before x ≡ false) (sym next_at) b)
        (λ a h e. member-not taken i t a h (sym (card_at a h) ∙ e ∙ next_at))

    module _ (z : 0 < i) (f c : ℕ) where
      here : i < cards_in s → c ≡ i → ComesTo s k (length taken) c
      here l d = subst (ComesTo s k (length taken)) (sym d) (next_comes s k (kind_along k) steps before taken i u z l)

      again : f ≡ reached_fault → c ≡ i → i < cards_in s → Reached s k (length taken) c → Fault s f c
      again e d l r = faults.reached_before e (record { chain = k; number = length taken; comes = here l d; reached = r; first = taken_new })

      stop_fault : StopsAt (chain_of s (cards_in s) (kind_along k) steps before) (most_along k) taken i f c → Fault s f c
      stop_fault (at_index e d l) =
          let n = next_at in
          faults.index_too_high e
          (record {
            chain = k;
            number = length taken;
            leads = upto_leads s k (kind_along k) steps before taken i u;
            some = omega arith;
            high = omega arith;
            card = d ∙ upto_holder s k (kind_along k) steps before taken i u;
          })
      stop_fault (at_reached e d l t) =
          or_cases (before i) (member taken i) t
          (λ b. let w = came i b in
          again e d l (record { chain = w.0; number = w.1; came = subst (ComesTo s w.0 w.1) (sym d) w.3; earlier = inl w.2 }))
          (λ b. let w = member_place taken i b in
          again e d l
          (record {
            chain = k;
            number = w.0;
            came = subst (ComesTo s k w.0) (w.2 ∙ sym d) (upto_comes s k (kind_along k) steps before taken i u w.0 w.1);
            earlier = inr (refl, w.1);
          }))
      stop_fault (at_count e d l n b t) =
          faults.too_many e
          (record {
            chain = k;
            comes = subst (λ (m : ℕ). ComesTo s k m c) n (here l d);
            kinds = λ a h. ap (kind_of s) (card_at a (omega arith)) ∙ eqb-true _ _ (u.mine a (omega arith));
            new = λ a h. below_suc (length taken) a (omega arith) (taken_new a)
                (λ q. subst (λ (m : ℕ). Reached s k m (index_at s k m) → ⊥) (sym q) (next_new b t));
          })
      stop_fault (at_kind e d l t) =
          faults.other_kind e
          (record {
            chain = k;
            number = length taken;
            comes = here l d;
            other = λ q. eqb-false (kind_of s i) (kind_along k) t (ap (kind_of s) (sym d) ∙ q);
          })
      stop_fault (at_fields e d l m t) =
          faults.wrong_field e
          (record {
            chain = k;
            number = length taken;
            comes = here l d;
            kind = ap (kind_of s) d ∙ eqb-true _ _ m;
            wrong = λ o. true-false (passes i (subst (InOrder s k) d o)) t;
          })

  chain_fault : (f c : ℕ) → walk (chain_of s (cards_in s) (kind_along k) steps before) (most_along k) [] 0 (first_index s k) ≡ refused f c → Fault s f c
  chain_fault f c e =
      let w = walk_stopped (chain_of s (cards_in s) (kind_along k) steps before) (most_along k) (first_index s k) f c e in
      stop_fault w.taken w.index w.upto w.some f c w.why

-- a chain without cards has no first one
none_first : {s : List ℕ} {k : ChainName} {l : List ℕ} → Traced s k l → eqb (length l) 0 ≡ true → first_index s k ≡ 0
unfolding index_at
none_first {s} {k} {l} t e = ap (index_at s k) (sym (eqb-true (length l) 0 e)) ∙ t.ends.ends

-- ---- the first card that clashes

module _ {s : List ℕ} {k : ChainName} {l : List ℕ} (t : Traced s k l) (test : ℕ → ℕ → Bool) (clash : ℕ → ℕ → Type 0)
    (is-clash : (i j : ℕ) → test i j ≡ true → clash (get_or l i 0) (get_or l j 0))
    (is_found : (i j : ℕ) → clash (get_or l i 0) (get_or l j 0) → test i j ≡ true) where
  first_clashing : first_clash (length l) test < length l → FirstClashing s k clash (get_or l (first_clash (length l) test) 0)
  unfolding first_clash
  first_clashing h =
      let i = first_clash (length l) test in
      let w = any_at i (λ j. test j i) (first_has (length l) (λ m. any m (λ j. test j m)) h) in
      record {
        number = i;
        clashes =
            record {
              comes = t.each i h;
              kind = t.kinds i h;
              earlier_number = w.0;
              earlier_card = get_or l w.0 0;
              earlier = w.1;
              came = t.each w.0 (omega (arith, w.1));
              earlier_kind = t.kinds w.0 (omega (arith, w.1));
              another = t.apart w.0 i w.1 h;
              clashing = is-clash w.0 i w.2;
            };
        first = λ j d m c.
            let at_a = comes_card t c.earlier_number c.earlier_card c.came in
            let at-d = comes_card t j d c.comes in
            let both : clash (get_or l c.earlier_number 0) (get_or l j 0)
            = subst (λ (x : ℕ). clash x (get_or l j 0)) (sym at_a) (subst (clash c.earlier_card) (sym at-d) c.clashing) in
            true-false (is_found c.earlier_number j both)
            (any_none j (λ x. test x j) (first_none (length l) (λ m. any m (λ x. test x m)) j m) c.earlier_number c.earlier);
      }

-- the test of a class with two above says so, and the other way round
module _ (s l : List ℕ) (i k : ℕ) where
  moved_above : class_moved s l i k ≡ true → SameClassOtherAbove s (get_or l i 0) (get_or l k 0)
  moved_above h =
      let w = any_at (class_levels s - 1) (λ q. same_class_lem s l (suc (suc q)) i k && not (same_class_lem s l (suc q) i k)) h in
      let t = w.2 in
      record {
        above = suc w.0;
        from = omega arith;
        below = let l = w.1 in omega arith;
        same = eqb-true _ _ (and_left (same_class_lem s l (suc (suc w.0)) i k) _ t);
        other = eqb-false _ _ (not-true _ (and_right (same_class_lem s l (suc (suc w.0)) i k) _ t));
      }

  above_moved : SameClassOtherAbove s (get_or l i 0) (get_or l k 0) → class_moved s l i k ≡ true
  above_moved w =
      let q = w.above in
      let z : suc (q - 1) ≡ q = let f = w.from in omega arith in
      let t : (same_class_lem s l (suc q) i k && not (same_class_lem s l q i k)) ≡ true = rw (eq-eqb _ _ w.same, ne_eqb _ _ w.other) refl in
      any_of (class_levels s - 1) (λ r. same_class_lem s l (suc (suc r)) i k && not (same_class_lem s l (suc r) i k)) (q - 1)
      (let f = w.from in let b = w.below in omega arith)
      (subst (λ (r : ℕ). (same_class_lem s l (suc r) i k && not (same_class_lem s l r i k)) ≡ true) (sym z) t)

-- a card that is none of the people is on no chain before the steps
people_missed : {s people : List ℕ} → Traced s peopleChain people → (c : ℕ) → member people c ≡ false → (l : ChainName) (j : ℕ) → rank l < 1 → ComesTo s l j c → ⊥
people_missed t c b peopleChain j h w = true-false (comes_member t j c w) b
people_missed t c b stepsChain j h w = omega arith
people_missed t c b rulesChain j h w = omega arith

-- ---- the whole sheet

module _ (s : List ℕ) (g d : ℕ) where
  module _ (people steps : List ℕ) (tp : Traced s peopleChain people) (ts : Traced s stepsChain steps) where
    loose : (rules : List ℕ) → Traced s rulesChain rules → first_loose (cards_in s) (on_three people steps rules) < cards_in s
        → OnNoChain s (first_loose (cards_in s) (on_three people steps rules))
    unfolding first_loose
    loose rules tr h =
        let c = first_loose (cards_in s) (on_three people steps rules) in
        let miss : (eqb c 0 || on_three people steps rules c) ≡ false
        = not-true _ (first_has (cards_in s) (λ x. not (eqb x 0 || on_three people steps rules x)) h) in
        record {
          some = by_cases (eqb c 0) (λ t. true-false (or_left (eqb c 0) (on_three people steps rules c) t) miss) (λ t. let n = eqb-false c 0 t in omega arith);
          inside = h;
          none = λ k j w. true-false (or_right (eqb c 0) (on_three people steps rules c) (on k j w)) miss;
          lowest = λ e l m.
              let hit : (eqb e 0 || on_three people steps rules e) ≡ true
              = not-false _ (first_none (cards_in s) (λ x. not (eqb x 0 || on_three people steps rules x)) e m) in
              or_cases (eqb e 0) (on_three people steps rules e) hit
              (λ t. let z : e ≡ 0 = eqb-true e 0 t in absurd (omega arith))
              (λ t. or_cases (on_two people steps e) (member rules e) t
              (λ v. or_cases (member people e) (member steps e) v
              (λ q. let w = member_comes tp e q in (peopleChain, w.0, w.1))
              (λ q. let w = member_comes ts e q in (stepsChain, w.0, w.1)))
              (λ v. let w = member_comes tr e v in (rulesChain, w.0, w.1)));
        }
      where
        on : (k : ChainName) (j : ℕ) {c : ℕ} → ComesTo s k j c → on_three people steps rules c ≡ true
        on peopleChain j {c} w =
            or_left (on_two people steps c) (member rules c)
            (or_left (member people c) (member steps c) (comes_member tp j c w))
        on stepsChain j {c} w =
            or_left (on_two people steps c) (member rules c)
            (or_right (member people c) (member steps c) (comes_member ts j c w))
        on rulesChain j {c} w = or_right (on_two people steps c) (member rules c) (comes_member tr j c w)

    checked_fault : (rules : List ℕ) → Traced s rulesChain rules → checked s (cards_in s) people steps rules ≡ fault g d → Fault s g d
    unfolding checked
    checked_fault rules tr e =
        let i = first_clash (length people) (same_tag s people) in
        let j = first_clash (length steps) (same_tag s steps) in
        let b = first_clash (length people) (class_moved s people) in
        let c = first_loose (cards_in s) (on_three people steps rules) in
        unless_fault (ltb i (length people)) tag_fault (get_or people i 0) _ g d e
        (λ t x y. faults.tag_twice x
        (inl (subst (FirstClashing s peopleChain (SameTags s)) y
        (first_clashing tp (same_tag s people) (SameTags s) (λ v w. eqb-true _ _) (λ v w. eq-eqb _ _) (ltb-true _ _ t)))))
        (λ t e₁. unless_fault (ltb j (length steps)) tag_fault (get_or steps j 0) _ g d e₁
        (λ t x y. faults.tag_twice x
        (inr (subst (FirstClashing s stepsChain (SameTags s)) y
        (first_clashing ts (same_tag s steps) (SameTags s) (λ v w. eqb-true _ _) (λ v w. eq-eqb _ _) (ltb-true _ _ t)))))
        (λ t e₂. unless_fault (ltb b (length people)) class_fault (get_or people b 0) _ g d e₂
        (λ t x y. faults.class_in_two x
        (subst (FirstClashing s peopleChain (SameClassOtherAbove s)) y
        (first_clashing tp (class_moved s people) (SameClassOtherAbove s) (moved_above s people) (above_moved s people) (ltb-true _ _ t))))
        (λ t e₃. unless_fault (ltb c (cards_in s)) loose_fault c _ g d e₃
        (λ t x y. faults.on_no_chain x (subst (OnNoChain s) y (loose rules tr (ltb-true _ _ t))))
        (λ t z. let a : ◌≡◌ {A = ℕ} 0 1 = cc in absurd (omega arith)))))

    -- the rules chain, and what follows it
    rules_fault : along (walk (chain_of s (cards_in s) rule_kind_lem (length steps) (on_two people steps)) 64 [] 0 (first_index s rulesChain)) (checked s (cards_in s) people steps) ≡ fault g d → Fault s g d
    rules_fault e =
        along_fault _ (checked s (cards_in s) people steps) g d e
        (chain_fault s rulesChain (length steps) (on_two people steps) came missed
        (λ c o. fields_rule s (length steps) rule_kind_lem c (λ e. omega arith) (λ e. omega arith) ∙ rule-true s c (length steps) ts.ends o) g d)
        (λ rules w. checked_fault rules (traced s rulesChain (length steps) 64 (on_two people steps) rules (walk_chained _ _ _ rules w)))
      where
        came : (c : ℕ) → on_two people steps c ≡ true → (l : ChainName) × (j : ℕ) × (rank l < 2) × ComesTo s l j c
        came c t =
            or_cases (member people c) (member steps c) t
            (λ q. let w = member_comes tp c q in (peopleChain, w.0, omega arith, w.1))
            (λ q. let w = member_comes ts c q in (stepsChain, w.0, omega arith, w.1))

        missed : (c : ℕ) → on_two people steps c ≡ false → (l : ChainName) (j : ℕ) → rank l < 2 → ComesTo s l j c → ⊥
        missed c b peopleChain j h w = true-false (or_left (member people c) (member steps c) (comes_member tp j c w)) b
        missed c b stepsChain j h w = true-false (or_right (member people c) (member steps c) (comes_member ts j c w)) b
        missed c b rulesChain j h w = omega arith

    -- permitted bits from the number of steps on
    late : (length steps ≡ 0 → ⊥) → first_late s (length steps) people < length people
        → faults.WrongField s (get_or people (first_late s (length steps) people) 0)
    unfolding first_late
    late z h =
        let i = first_late s (length steps) people in
        record {
          chain = peopleChain;
          number = i;
          comes = tp.each i h;
          kind = tp.kinds i h;
          wrong = λ o.
              true-false (only_below (length steps) (permitted_of s (get_or people i 0)) (o.steps (length steps) ts.ends (omega arith)))
              (not-true _ (first_has (length people) (λ m. not (only_below_lem (length steps) (permitted_of s (get_or people m 0)))) h));
        }

    steps_fault : steps_read s (cards_in s) people steps ≡ fault g d → Fault s g d
    unfolding steps_read
    steps_fault e =
        unless_fault (eqb (length steps) 0) count_fault 0 _ g d e
        (λ t x y. faults.none_along x (record { card = sym y; none = inr (none_first ts t) }))
        (λ t e₁. unless_fault (ltb (first_late s (length steps) people) (length people)) field_fault (get_or people (first_late s (length steps) people) 0) _ g d e₁
        (λ u x y. faults.wrong_field x (subst (faults.WrongField s) y (late (eqb-false _ _ t) (ltb-true _ _ u))))
        (λ u. rules_fault))

  people_fault : read_people s (cards_in s) ≡ fault g d → Fault s g d
  unfolding read_people people_read
  people_fault e =
      along_fault _ (people_read s (cards_in s)) g d e
      (chain_fault s peopleChain 0 (λ c. false) (λ c t. true-false t refl) (λ c b l j h w. omega arith) (λ c o. fields_person s 0 person_kind c refl ∙ person-true s c o) g d)
      (λ people wp e₁.
      let tp = traced s peopleChain 0 64 (λ c. false) people (walk_chained _ _ _ people wp) in
      unless_fault (eqb (length people) 0) count_fault 0 _ g d e₁
      (λ t x y. faults.none_along x (record { card = sym y; none = inl (none_first tp t) }))
      (λ t e₂. along_fault _ (steps_read s (cards_in s) people) g d e₂
      (chain_fault s stepsChain 0 (member people) (λ c q. let w = member_comes tp c q in (peopleChain, w.0, omega arith, w.1)) (people_missed tp)
      (λ c o. fields_step s 0 step_kind c (λ e. omega arith) refl ∙ step-true s c o) g d)
      (λ steps ws. steps_fault people steps tp (traced s stepsChain 0 12 (member people) steps (walk_chained _ _ _ steps ws)))))

-- a refusal that is given is a fault of the sheet at that card
pub refusal_is_fault : (s : List ℕ) (f c : ℕ) → read_sheet s ≡ fault f c → Fault s f c
unfolding read_sheet
refusal_is_fault s f c e =
    unless_fault (not (length_ok (length s))) length_fault 0 _ f c e
    (λ t x y. faults.wrong_length x (record { card = sym y; wrong = length_wrong (length s) (not-true _ t) }))
    (λ t e₁. unless_fault (not (header_ok s (cards_in s))) header_fault 0 _ f c e₁
    (λ u x y. faults.wrong_header x (record { card = sym y; wrong = λ o. true-false (header-true s o) (not-true _ u) }))
    (λ u. people_fault s f c))

-- which refusals there are, and at which cards
pub fault_range : (s : List ℕ) (f c : ℕ) → Fault s f c → (3 ≤ f) × (f ≤ 12)
fault_range s f c (faults.wrong_length e w) = (omega arith, omega arith)
fault_range s f c (faults.wrong_header e w) = (omega arith, omega arith)
fault_range s f c (faults.index_too_high e w) = (omega arith, omega arith)
fault_range s f c (faults.reached_before e w) = (omega arith, omega arith)
fault_range s f c (faults.other_kind e w) = (omega arith, omega arith)
fault_range s f c (faults.wrong_field e w) = (omega arith, omega arith)
fault_range s f c (faults.none_along e w) = (omega arith, omega arith)
fault_range s f c (faults.too_many e w) = (omega arith, omega arith)
fault_range s f c (faults.tag_twice e w) = (omega arith, omega arith)
fault_range s f c (faults.class_in_two e w) = (omega arith, omega arith)
fault_range s f c (faults.on_no_chain e w) = (omega arith, omega arith)

comes_inside : {s : List ℕ} {k : ChainName} (j : ℕ) {c : ℕ} → ComesTo s k j c → c < cards_in s
comes_inside j w = let l = (w.leads j (omega arith)).1 in let e = w.index in omega arith

holder_inside : (s : List ℕ) (k : ChainName) (j : ℕ) → 0 < cards_in s → faults.LeadsUpTo s k j → faults.holder_at s k j < cards_in s
holder_inside s k zero z w = z
holder_inside s k (suc j) z w = (w j (omega arith)).1

-- the card of a fault is one of the file, where it has cards at all
pub fault_inside : (s : List ℕ) (f c : ℕ) → 0 < cards_in s → Fault s f c → c < cards_in s
fault_inside s f c z (faults.wrong_length e w) = let d = w.card in omega arith
fault_inside s f c z (faults.wrong_header e w) = let d = w.card in omega arith
fault_inside s f c z (faults.index_too_high e w) = let d = w.card in let l = holder_inside s w.chain w.number z w.leads in omega arith
fault_inside s f c z (faults.reached_before e w) = comes_inside w.number w.comes
fault_inside s f c z (faults.other_kind e w) = comes_inside w.number w.comes
fault_inside s f c z (faults.wrong_field e w) = comes_inside w.number w.comes
fault_inside s f c z (faults.none_along e w) = let d = w.card in omega arith
fault_inside s f c z (faults.too_many e w) = comes_inside (most_along w.chain) w.comes
fault_inside s f c z (faults.tag_twice e (inl w)) = comes_inside w.number w.clashes.comes
fault_inside s f c z (faults.tag_twice e (inr w)) = comes_inside w.number w.clashes.comes
fault_inside s f c z (faults.class_in_two e w) = comes_inside w.number w.clashes.comes
fault_inside s f c z (faults.on_no_chain e w) = w.inside

-- a sheet of a wrong length is refused for it
wrong_length_first : (s : List ℕ) (f c : ℕ) → length_ok (length s) ≡ false → read_sheet s ≡ fault f c → (f ≡ length_fault) × (c ≡ 0)
unfolding read_sheet
wrong_length_first s f c t e = let d : fault length_fault 0 ≡ fault f c = rw t at e in (cc, cc)

-- any other refusal is at a card of the file
pub refusal_inside : (s : List ℕ) (f c : ℕ) → read_sheet s ≡ fault f c → (f ≡ length_fault → ⊥) → c < cards_in s
refusal_inside s f c e n =
    by_cases (length_ok (length s))
    (λ t. fault_inside s f c (length_facts (length s) t).1.1 (refusal_is_fault s f c e))
    (λ t. absurd (n (wrong_length_first s f c t e).0))

pub sheet_refusal : (s : List ℕ) (f c : ℕ) → read_sheet s ≡ fault f c → ReadRefusal f c
sheet_refusal s f c e =
    let w = refusal_is_fault s f c e in
    let r = fault_range s f c w in
    record {
      from = r.0;
      to = r.1;
      card =
          by_cases (length_ok (length s))
          (λ t. let l = (length_facts (length s) t).1 in omega (arith, fault_inside s f c l.1 w, l.2))
          (λ t. omega (arith, (wrong_length_first s f c t e).1));
    }

-- a sheet that is refused was read to the number of that refusal
pub refusal_read : (s : List ℕ) (r : Refusal) → sheet_of s ≡ Err r → read_sheet s ≡ fault (fault_number r.fault) r.card
unfolding answer
refusal_read s r e = go (read_sheet s) refl e
  where
    go : (x : Read) → read_sheet s ≡ x → answer s x ≡ Err r → x ≡ fault (fault_number r.fault) r.card
    go (job p t u) d e = absurd (err_ok (sym e))
    go (fault g h) d e =
        let w = sheet_refusal s g h d in
        let n : fault_number (fault_numbered g) ≡ g = number-numbered g (omega (arith, w.from)) (omega (arith, w.to)) in
        ap (λ (x : ℕ). fault x h) (sym n) ∙ ap (λ (x : Refusal). fault (fault_number x.fault) x.card) (err_same e)

pub read_sheet_refusal : (s : List ℕ) (r : Refusal) → sheet_of s ≡ Err r → ReadRefusal (fault_number r.fault) r.card
read_sheet_refusal s r e = sheet_refusal s (fault_number r.fault) r.card (refusal_read s r e)
