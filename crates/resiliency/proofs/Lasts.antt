-- The last member of an away set: who is passed over, and who is the first that breaks the job. Assumes nothing.
use mathlib.Core.Bool.{Bool, true, false, ◌||◌}
use mathlib.Core.List.{List, [], ◌∷◌, ◌++◌}
use mathlib.Core.Path.{◌≡◌, refl, sym, subst, ap, ◌∙◌}
use Prim.Native.Nat.{ℕ, ◌≤◌, ◌<◌}
use native.Mathlib.Omega.{arith}
use lib.Bits.{bit_and, bit_xor}
use lib.Dec.{eqb, ltb}
use lib.ListN.{length, get_or}
use borrow.Author.Tests.{eqb-true, eq-eqb, ltb-true, ltb-false, lt-ltb, le-ltb, not-true}
use Rattle.bits.specs.Word.{has_bit}
use Rattle.bits.specs.Set.{unlike, Added, FirstAndRest}
use Rattle.bits.proofs.Below.{by_cases, true-false, and_right}
use Rattle.bits.proofs.Counting.{is_false}
use Rattle.bits.proofs.SetLaws.{and-bit, and-bit_left, and-bit_right, xor_bit, empty_lacks, zero_empty, added_keeps, removed_other}
use Rattle.bits.proofs.Masks.{taken_was}
use Rattle.bits.specs.Set.{Mask}
use Rattle.workflow.specs.Problem.{Job, May, Satisfiable}
use Rattle.bits.specs.Member.{member}
use Rattle.bits.proofs.Member.{member_place}
use Rattle.resiliency.specs.Away.{without}
use Rattle.resiliency.specs.Group.{Suiting}
use Rattle.resiliency.specs.Known.{Known, Suits, Needed, EachSpared, Within, Stood, joined, Last}
use Rattle.resiliency.proofs.Breaking.{fewer_away}
use Rattle.resiliency.proofs.Knowing.{and_other, valid-without, without-valid}
use Rattle.resiliency.specs.Onward.{Stands}

-- neither of two tests holds
or_none : (a b : Bool) → a ≡ false → b ≡ false → (a || b) ≡ false
or_none true b h k = h
or_none false b h k = k

-- ---- the people from one on

pub record Range (from to mask : ℕ) : Type 0 where
  pub within : (p : ℕ) → has_bit mask p ≡ true → (from ≤ p) × (p < to)
  pub has : (p : ℕ) → from ≤ p → p < to → has_bit mask p ≡ true

pub range_above : {from n x y : ℕ} → from ≤ n → Mask (λ p. ltb p n) x → Mask (λ p. ltb p from) y → Range from n (bit_xor x y)
range_above {from} {n} {x} {y} l mx my =
    record {
      within = λ p h. inside p (ltb p n) (ltb p from) refl refl (sym (bits p) ∙ h);
      has = λ p a b. bits p ∙ rw (lt-ltb p n b, le-ltb p from a) refl;
    }
  where
    bits : (p : ℕ) → has_bit (bit_xor x y) p ≡ unlike (ltb p n) (ltb p from)
    bits p = xor_bit x y p ∙ rw (mx.each p, my.each p) refl

    inside : (p : ℕ) (a b : Bool) → ltb p n ≡ a → ltb p from ≡ b → unlike a b ≡ true → (from ≤ p) × (p < n)
    inside p true true ea eb h = true-false h refl
    inside p true false ea eb h = (ltb-false p from eb, ltb-true p n ea)
    inside p false true ea eb h = absurd (omega (arith, ltb-false p n ea, ltb-true p from eb))
    inside p false false ea eb h = true-false h refl

-- ---- the people still to be tried as the last member

pub record Trying (j : Job) (may : May) (away from rest : ℕ) (words plans weight : List ℕ) : Type 0 where
  pub known : Known j may words plans
  pub weights : length weight ≡ 12
  pub start : from ≤ j.people
  pub within : (p : ℕ) → has_bit rest p ≡ true → (from ≤ p) × (p < j.people)
  pub passed : (p : ℕ) → from ≤ p → p < j.people → has_bit rest p ≡ false → Satisfiable j (without may (joined away p))

-- a plan of people within a mask does without one who is not in it
not_in : (mask p q : ℕ) → has_bit mask q ≡ true → has_bit mask p ≡ false → eqb q p ≡ false
not_in mask p q h t = is_false (eqb q p) (λ e. true-false h (subst (λ (x : ℕ). has_bit mask x ≡ false) (sym (eqb-true q p e)) t))

module _ {j : Job} {may : May} {away from : ℕ} where
  -- those whom no kept plan of the word does without
  pub trying_start : {words plans weight : List ℕ} {word among rest : ℕ} → Known j may words plans → length weight ≡ 12 → from ≤ j.people
      → Suits word plans away → Range from j.people among → Needed word plans among rest → Trying j may away from rest words plans weight
  trying_start {words} {plans} {weight} {word} {among} {rest} k w l suits range n =
      record {
        known = k;
        weights = w;
        start = l;
        within = λ p h. range.within p (n.part p h);
        passed = λ p a b h.
            let s = n.lacks p (range.has p a b) h in (
              k.plan s.0,
              valid-without j may (joined away p) (k.plan s.0) (k.valid s.0)
                  (λ t m. or_none (has_bit away (k.plan s.0 t)) _
                  (is_false _ (λ u. true-false (k.people s.0 t s.1 m) (suits.each s.0 _ s.1 s.2 u)))
                  (not_in (get_or plans s.0 0) p (k.plan s.0 t) (k.people s.0 t s.1 m) s.3)),
            );
      }

  -- a plan found without c answers for c and for all whom it does not need
  pub trying_next : {words plans weight words' plans' weight' : List ℕ} {rest left c x needs : ℕ} {r : Bool}
      → Trying j may away from rest words plans weight → FirstAndRest rest c left → Added away c x
      → Stood j may (has_bit x) words' plans' weight' r needs → r ≡ true
      → Trying j may away from (bit_and left needs) words' plans' weight'
  trying_next {rest = rest} {left} {c} {x} {needs} t d f s e =
      let w : Within j may (has_bit x) needs = s.won e in
      record {
        known = s.known;
        weights = s.weights;
        start = t.start;
        within = λ p h. t.within p (taken_was d p (and-bit_left left needs p h));
        passed = λ p a b h.
            by_cases (has_bit rest p)
            (λ u. by_cases (eqb p c)
            (λ q. subst (λ (z : ℕ). Satisfiable j (without may (joined away z))) (sym (eqb-true p c q))
            (fewer_away j may (has_bit x) (joined away c) (λ z l m. f.each z ∙ m) (w.0, w.1)))
            (λ q. other w p (and_other (has_bit left p) _ (removed_other d.removed p (λ z. true-false (eq-eqb p c z) q) ∙ u) (sym (and-bit left needs p) ∙ h))))
            (λ u. t.passed p a b u);
      }
    where
      other : (w : Within j may (has_bit x) needs) (p : ℕ) → has_bit needs p ≡ false → Satisfiable j (without may (joined away p))
      other w p h = (
        w.0,
        valid-without j may (joined away p) w.0 (without-valid j may (has_bit x) w.0 w.1)
            (λ t m. or_none (has_bit away (w.0 t)) _
            (is_false _ (λ u. true-false (added_keeps f _ u) (not-true _ (and_right (may t (w.0 t)) _ (w.1.authorised t m)))))
            (not_in needs p (w.0 t) (w.2 t m) h)),
      )

  -- none is found without c
  pub trying_found : {words plans weight words' plans' weight' : List ℕ} {rest left c x needs : ℕ} {r : Bool}
      → Trying j may away from rest words plans weight → FirstAndRest rest c left → Added away c x
      → Stood j may (has_bit x) words' plans' weight' r needs → r ≡ false → Last j may away from words' plans' weight' c
  trying_found {c = c} {x} t l f s e =
      let w = t.within c l.lowest.has in
      record {
        known = s.known;
        weights = s.weights;
        after = w.0;
        within = omega (arith, w.1);
        passed = λ p a b. t.passed p a (omega (arith, w.1)) (l.lowest.before p b);
        breaks = λ b h. s.lost e (fewer_away j may (joined away c) (has_bit x) (λ z m u. sym (f.each z) ∙ u) h);
      }

  -- nobody is left to try
  pub trying_end : {words plans weight : List ℕ} {rest : ℕ} → Trying j may away from rest words plans weight → rest ≡ 0
      → Last j may away from words plans weight j.people
  trying_end {rest = rest} t e =
      record {
        known = t.known;
        weights = t.weights;
        after = t.start;
        within = omega arith;
        passed = λ p a b. t.passed p a b (zero_empty rest e p);
        breaks = λ l. absurd (omega arith);
      }

-- ---- the groups that differ in their last member

abbrev pub Masks : ℕ → List ℕ → Type 0
Masks away xs = (q : ℕ) → has_bit away q ≡ member xs q

member-snoc : (xs : List ℕ) (p q : ℕ) → (member xs q || eqb q p) ≡ member (xs ++ (p ∷ [])) q
unfolding member
member-snoc [] p q = or-false (eqb q p)
  where
    or-false : (b : Bool) → b ≡ (b || false)
    or-false true = refl
    or-false false = refl
member-snoc (x ∷ xs) p q = or_last (eqb q x) (member xs q) (eqb q p) ∙ ap (λ (b : Bool). eqb q x || b) (member-snoc xs p q)
  where
    or_last : (a b c : Bool) → ((a || b) || c) ≡ (a || (b || c))
    or_last true b c = refl
    or_last false b c = refl

module _ {j : Job} {may : May} {away from : ℕ} {words plans weight : List ℕ} {c : ℕ} (xs : List ℕ) (m : Masks away xs)
    (l : Last j may away from words plans weight c) where
  same : (p q : ℕ) → joined away p q ≡ member (xs ++ (p ∷ [])) q
  same p q = ap (λ (b : Bool). b || eqb q p) (m q) ∙ member-snoc xs p q

  pub last_stands : (p : ℕ) → from ≤ p → p < c → Stands j may (xs ++ (p ∷ []))
  last_stands p a b = fewer_away j may (joined away p) (member (xs ++ (p ∷ []))) (λ q n h. same p q ∙ h) (l.passed p a b)

  pub last_breaks : c < j.people → Stands j may (xs ++ (c ∷ [])) → ⊥
  last_breaks b h = l.breaks b (fewer_away j may (member (xs ++ (c ∷ []))) (joined away c) (λ q n u. sym (same c q) ∙ u) h)

-- ---- a group with each last member is spared by one of the kept plans

module _ {j : Job} {may : May} {from : ℕ} {words plans : List ℕ} {word : ℕ} (xs : List ℕ) where
  pub each_stands : Known j may words plans → ((k : ℕ) → k < length xs → get_or xs k 0 < 64) → Suiting words xs word → EachSpared j.people from word plans
      → (p : ℕ) → from ≤ p → p < j.people → Stands j may (xs ++ (p ∷ []))
  each_stands k few s e p a b =
      let n = e.lacks p a b in (
        k.plan n.0,
        valid-without j may (member (xs ++ (p ∷ []))) (k.plan n.0) (k.valid n.0)
            (λ t m. sym (member-snoc xs p (k.plan n.0 t))
            ∙ or_none (member xs (k.plan n.0 t)) _
            (is_false _ (λ u. let at = member_place xs (k.plan n.0 t) u in
            true-false (k.people n.0 t n.1 m)
            (subst (λ (q : ℕ). has_bit (get_or plans n.0 0) q ≡ false) at.2 (k.spares n.0 (get_or xs at.0 0) n.1 (few at.0 at.1) (s.each n.0 at.0 n.2 at.1)))))
            (not_in (get_or plans n.0 0) p (k.plan n.0 t) (k.people n.0 t n.1 m) n.3)),
      )
