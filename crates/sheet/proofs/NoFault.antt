-- "A sheet with none of the faults 3 to 12 is readable", and a readable sheet has none of them. Assumes nothing.
use mathlib.Core.Bool.{Bool, true, false, ◌||◌}
use mathlib.Core.List.{List, ◌++◌}
use mathlib.Core.Logic.{inl, inr, ⊎_elim}
use mathlib.Core.Path.{◌≡◌, refl, sym, ◌∙◌, ap, subst}
use Prim.Native.Nat.{ℕ, ◌<◌, ◌≤◌}
use native.Mathlib.Omega.{arith}
use lib.Dec.{ltb}
use lib.ListN.{length, get_or}
use borrow.Author.Tests.{eqb-false, ltb-true, ltb-false}
use Rattle.bits.specs.Member.{member}
use Rattle.bits.specs.Sizes.{most_class_levels}
use Rattle.bits.proofs.Below.{by_cases, true-false}
use Rattle.bits.proofs.Counting.{is_false}
use Rattle.bits.proofs.Masks.{or_cases, or_left, or_right}
use Rattle.bits.proofs.Member.{member_has, member-append}
use Rattle.card.specs.Layout.{kind_of}
use Rattle.card.specs.Fields.{header_ok, class_levels, permitted_of, only_below_lem}
use Rattle.sheet.specs.Read.{Read, job, fault, length_ok, read_sheet, on_two, first_clash, same_tag}
use Rattle.sheet.specs.Faults as faults
use Rattle.sheet.specs.Faults.{ChainName, peopleChain, stepsChain, rulesChain, rank, cards_in, kind_along, most_along, index_at, first_index}
use Rattle.sheet.specs.Faults.{ComesTo, InOrder, IndexBefore, Clashes, SameTags, SameClassOtherAbove, Fault}
use Rattle.sheet.specs.Readable.{Chains}
use Rattle.sheet.proofs.Chains.{chains}
use Rattle.sheet.proofs.InOrder.{length_right, header_levels, header_in_order, person_in_order, step_in_order, rule_in_order}
use Rattle.sheet.proofs.Indices.{Traced, traced, comes_before_end, comes_card, comes_member, leads_before_end, ends_once, member_comes}
use Rattle.sheet.proofs.Order.{length_facts}
use Rattle.sheet.proofs.Passes.{Passes, sheet_passes}
use Rattle.sheet.proofs.Readable.{person_card, step_card, rule_card, not_late, no_clash, later_above}
use Rattle.sheet.proofs.Refusals.{refusal_is_fault}

-- the cards of a chain
abbrev cards_along : List ℕ → List ℕ → List ℕ → ChainName → List ℕ
cards_along people steps rules peopleChain = people
cards_along people steps rules stepsChain = steps
cards_along people steps rules rulesChain = rules

-- of two tests neither of which passes
neither_left : (a b : Bool) → a || b ≡ false → a ≡ false
neither_left a b h = is_false a (λ t. true-false (or_left a b t) h)

neither_right : (a b : Bool) → a || b ≡ false → b ≡ false
neither_right a b h = is_false b (λ t. true-false (or_right a b t) h)

module _ (s people steps rules : List ℕ) (some : 0 < cards_in s) (p : Passes s (cards_in s) people steps rules) where
  read : Chains s (cards_in s) people steps rules
  read = chains s (cards_in s) people steps rules p

  abbrev cards_of : ChainName → List ℕ
  cards_of = cards_along people steps rules

  trace : (k : ChainName) → Traced s k (cards_of k)
  trace peopleChain = traced s peopleChain 0 64 (λ c. false) people read.people_chain
  trace stepsChain = traced s stepsChain 0 12 (member people) steps read.steps_chain
  trace rulesChain = traced s rulesChain (length steps) 64 (on_two people steps) rules read.rules_chain

  few : (k : ChainName) → length (cards_of k) ≤ most_along k
  few peopleChain = read.people_chain.short
  few stepsChain = read.steps_chain.short
  few rulesChain = read.rules_chain.short

  -- what is there at an index of a chain
  at : (k : ChainName) (P : ℕ → Type 0) → ((j : ℕ) → j < length (cards_of k) → P (get_or (cards_of k) j 0)) → (j c : ℕ) → ComesTo s k j c → P c
  at k P h j c w = subst P (comes_card (trace k) j c w) (h j (comes_before_end (trace k) j c w))

  in_order : class_levels s ≤ most_class_levels → (k : ChainName) (j : ℕ) → j < length (cards_of k) → InOrder s k (get_or (cards_of k) j 0)
  in_order few peopleChain j l =
      person_in_order s (get_or people j 0) few (person_card s people steps rules (cards_in s) p j l)
      (λ n e. subst (λ (m : ℕ). only_below_lem m (permitted_of s (get_or people j 0)) ≡ true) (sym (ends_once (trace stepsChain) n e)) (not_late s people steps rules (cards_in s) p j l))
  in_order few stepsChain j l = step_in_order s (get_or steps j 0) (step_card s people steps rules (cards_in s) p j l)
  in_order few rulesChain j l = rule_in_order s (get_or rules j 0) (length steps) (rule_card s people steps rules (cards_in s) p j l) (ends_once (trace stepsChain))

  no_index_too_high : (k : ChainName) (j : ℕ) → faults.LeadsUpTo s k j → cards_in s ≤ index_at s k j → ⊥
  no_index_too_high k j w h =
      let t = trace k in
      let m : j ≤ length (cards_of k) = leads_before_end t j w in
      by_cases (ltb j (length (cards_of k)))
      (λ f. let l : j < length (cards_of k) = ltb-true _ _ f in omega (arith, (t.ends.leads j l).1))
      (λ f.
      let l : length (cards_of k) ≤ j = ltb-false j (length (cards_of k)) f in
      let e : j ≡ length (cards_of k) = omega arith in
      let z : index_at s k j ≡ 0 = ap (index_at s k) e ∙ t.ends.ends in omega arith)

  -- a card is on one chain alone
  apart_chains : (k l : ChainName) → rank k < rank l → (j c : ℕ) → ComesTo s l j c → member (cards_of k) c ≡ false
  apart_chains peopleChain peopleChain h j c w = absurd (omega arith)
  apart_chains peopleChain stepsChain h j c w = at stepsChain (λ (x : ℕ). member people x ≡ false) read.steps_chain.fresh j c w
  apart_chains peopleChain rulesChain h j c w =
      neither_left (member people c) (member steps c) (at rulesChain (λ (x : ℕ). on_two people steps x ≡ false) read.rules_chain.fresh j c w)
  apart_chains stepsChain peopleChain h j c w = absurd (omega arith)
  apart_chains stepsChain stepsChain h j c w = absurd (omega arith)
  apart_chains stepsChain rulesChain h j c w =
      neither_right (member people c) (member steps c) (at rulesChain (λ (x : ℕ). on_two people steps x ≡ false) read.rules_chain.fresh j c w)
  apart_chains rulesChain peopleChain h j c w = absurd (omega arith)
  apart_chains rulesChain stepsChain h j c w = absurd (omega arith)
  apart_chains rulesChain rulesChain h j c w = absurd (omega arith)

  no_clashes : (k : ChainName) (clash : ℕ → ℕ → Type 0)
      → ((i j : ℕ) → i < j → j < length (cards_of k) → clash (get_or (cards_of k) i 0) (get_or (cards_of k) j 0) → ⊥) → (j c : ℕ) → Clashes s k clash j c → ⊥
  no_clashes k clash none j c w =
      let t = trace k in
      none w.earlier_number j w.earlier (comes_before_end t j c w.comes)
      (subst (λ (x : ℕ). clash x (get_or (cards_of k) j 0)) (sym (comes_card t w.earlier_number w.earlier_card w.came))
      (subst (clash w.earlier_card) (sym (comes_card t j c w.comes)) w.clashing))

  same_tags_not : (l : List ℕ) → length l ≤ first_clash (length l) (same_tag s l) → (i j : ℕ) → i < j → j < length l
      → SameTags s (get_or l i 0) (get_or l j 0) → ⊥
  same_tags_not l h i j m n = eqb-false _ _ (no_clash (length l) (same_tag s l) h i j m n)

  no_reached_before : (k l : ChainName) (i j c : ℕ) → ComesTo s k i c → ComesTo s l j c → IndexBefore k i l j → ⊥
  no_reached_before k l i j c a b (inl h) = true-false (comes_member (trace k) i c a) (apart_chains k l h j c b)
  no_reached_before k l i j c a b (inr w) =
      let a' : ComesTo s l i c = subst (λ (x : ChainName). ComesTo s x i c) w.0 a in
      let t = trace l in
      t.apart i j w.1 (comes_before_end t j c b) (comes_card t i c a' ∙ sym (comes_card t j c b))

  first_some : (k : ChainName) → (length (cards_of k) ≡ 0 → ⊥) → first_index s k ≡ 0 → ⊥
  unfolding index_at
  first_some k n e = let z : 0 < index_at s k 0 = ((trace k).ends.leads 0 (omega arith)).0 in omega arith

  -- every card is on a chain
  covered : (c : ℕ) → 0 < c → c < cards_in s → (k : ChainName) × (j : ℕ) × ComesTo s k j c
  covered c l m =
      let w = read.covered c l m in
      let h : member (people ++ steps ++ rules) c ≡ true = member_has (people ++ steps ++ rules) w.0 c w.1 w.2 in
      or_cases (member (people ++ steps) c) (member rules c) (sym (member-append (people ++ steps) rules c) ∙ h)
      (λ u. or_cases (member people c) (member steps c) (sym (member-append people steps c) ∙ u)
      (λ v. let x = member_comes (trace peopleChain) c v in (peopleChain, x.0, x.1))
      (λ v. let x = member_comes (trace stepsChain) c v in (stepsChain, x.0, x.1)))
      (λ u. let x = member_comes (trace rulesChain) c u in (rulesChain, x.0, x.1))

  passes_no_fault : length_ok (length s) ≡ true → header_ok s (cards_in s) ≡ true → (f c : ℕ) → Fault s f c → ⊥
  passes_no_fault a b f c (faults.wrong_length e w) =
      let r = length_right (length s) a in ⊎_elim r.0 (⊎_elim (λ n. n r.1) (λ l. omega (arith, r.2))) w.wrong
  passes_no_fault a b f c (faults.wrong_header e w) = w.wrong (header_in_order s b)
  passes_no_fault a b f c (faults.index_too_high e w) = no_index_too_high w.chain w.number w.leads w.high
  passes_no_fault a b f c (faults.reached_before e w) =
      let r = w.reached in no_reached_before r.chain w.chain r.number w.number c r.came w.comes r.earlier
  passes_no_fault a b f c (faults.other_kind e w) =
      w.other (at w.chain (λ (x : ℕ). kind_of s x ≡ kind_along w.chain) (trace w.chain).kinds w.number c w.comes)
  passes_no_fault a b f c (faults.wrong_field e w) = w.wrong (at w.chain (InOrder s w.chain) (in_order (header_levels s (cards_in s) b).1 w.chain) w.number c w.comes)
  passes_no_fault a b f c (faults.none_along e w) = ⊎_elim (first_some peopleChain p.people_some) (first_some stepsChain p.steps_some) w.none
  passes_no_fault a b f c (faults.too_many e w) =
      let l = comes_before_end (trace w.chain) (most_along w.chain) c w.comes in let m = few w.chain in omega arith
  passes_no_fault a b f c (faults.tag_twice e (inl w)) =
      no_clashes peopleChain (SameTags s) (same_tags_not people p.people_tags) w.number c w.clashes
  passes_no_fault a b f c (faults.tag_twice e (inr w)) =
      no_clashes stepsChain (SameTags s) (same_tags_not steps p.steps_tags) w.number c w.clashes
  passes_no_fault a b f c (faults.class_in_two e w) =
      no_clashes peopleChain (SameClassOtherAbove s)
      (λ i j l m h. h.other (later_above s people steps rules (cards_in s) p h.above i j h.from h.below l m h.same)) w.number c w.clashes
  passes_no_fault a b f c (faults.on_no_chain e w) = let x = covered c w.some w.inside in w.none x.0 x.1 x.2

-- a readable sheet has none of the faults
pub readable_no_fault : (s people steps rules : List ℕ) → read_sheet s ≡ job people steps rules → (f c : ℕ) → Fault s f c → ⊥
readable_no_fault s people steps rules e =
    let p = sheet_passes s people steps rules e in
    passes_no_fault s people steps rules (length_facts (length s) p.good_length).1.1 p.rest p.good_length p.good_header

-- and a sheet that has none is readable
pub no_fault_readable : (s : List ℕ) → ((f c : ℕ) → Fault s f c → ⊥) → (people : List ℕ) × (steps : List ℕ) × (rules : List ℕ) × (read_sheet s ≡ job people steps rules)
no_fault_readable s none = go (read_sheet s) refl
  where
    go : (r : Read) → read_sheet s ≡ r → (people : List ℕ) × (steps : List ℕ) × (rules : List ℕ) × (read_sheet s ≡ job people steps rules)
    go (job people steps rules) e = (people, steps, rules, e)
    go (fault f c) e = absurd (none f c (refusal_is_fault s f c e))
