-- One entry more in the arrays: its person's line has its minutes more, and no other line moves. Assumes nothing.
use mathlib.Core.List.{List, [], ◌∷◌, ◌++◌}
use mathlib.Core.Path.{◌≡◌, refl, sym, ◌∙◌, ap, subst}
use Prim.Native.Nat.{ℕ, zero, suc, ◌+◌, ◌<◌, ◌≤◌}
use native.Mathlib.Omega.{arith}
use native.Mathlib.Nat.{not-suc-le-zero}
use lib.Dec.{eqb, ltb}
use lib.IntN.{ℤ, pos, ◌+ℤ◌, pos-+ℤ-pos}
use lib.ListN.{length, get_or, set, replicate, length-append, get_or-append}
use lib.Seq.{get_or-append_seam, get_or-set_same, get_or-set_other}
use borrow.Author.Tests.{eqb-true, eqb-false, ltb-true, ltb-false}
use Rattle.bits.specs.Below.{first}
use Rattle.bits.proofs.Below.{by_cases, below_suc, first-le, first_cong}
use Rattle.bits.proofs.Member.{member-not}
use Rattle.ledger.specs.Entry.{Entry}
use Rattle.ledger.specs.Lines.{SumsOf, LinesOf}
use Rattle.ledger.specs.Sums.{met_after, people_in, sum_of, sum_all, quoted_in, taken_in}
use Rattle.ledger.specs.declared.Ledger.{Ledger}
use Rattle.ledger.proofs.People.{Distinct, meet_old, meet_new, people_distinct, people_snoc, place_in, place_has, place_known, place_new}
use Rattle.ledger.proofs.Added.{sum_own, sum_other, sum_new, all_snoc}

-- the people with a known one more, and with a new one
pub people_old : (es : List Entry) (e : Entry) → place_in (people_in es) e.tag < length (people_in es) → people_in (es ++ e ∷ []) ≡ people_in es
people_old es e l = people_snoc es e ∙ meet_old (people_in es) e.tag (place_known (people_in es) e.tag l)

pub people_new : (es : List Entry) (e : Entry) → place_in (people_in es) e.tag ≡ length (people_in es) → people_in (es ++ e ∷ []) ≡ people_in es ++ e.tag ∷ []
people_new es e l = people_snoc es e ∙ meet_new (people_in es) e.tag (place_new (people_in es) e.tag l)

-- nobody else has the tag of a known person
other_place : (xs : List ℕ) (t k j : ℕ) → Distinct xs → k < length xs → get_or xs k 0 ≡ t → j < length xs → (j ≡ k → ⊥) → t ≡ get_or xs j 0 → ⊥
unfolding Distinct
other_place xs t k j d l h b n e =
    by_cases (ltb j k)
    (λ q. d j k (ltb-true j k q) l (sym e ∙ sym h))
    (λ q. let m = ltb-false j k q in d k j (omega arith) b (h ∙ e))

module _ (figure : Entry → ℕ) (es : List Entry) (e : Entry) (sums : List ℤ) (k : ℕ) where
  -- the entry k of the sums with the minutes more
  abbrev more : List ℤ
  more = set sums k (get_or sums k (pos 0) +ℤ pos (figure e))

  -- stated about the list that the people are
  sums_as : (people : List ℕ) → people_in (es ++ e ∷ []) ≡ people
      → ((j : ℕ) → j < length people → get_or more j (pos 0) ≡ pos (sum_of figure (get_or people j 0) (es ++ e ∷ [])))
      → ((j : ℕ) → length people ≤ j → get_or more j (pos 0) ≡ pos 0)
      → SumsOf figure (es ++ e ∷ []) more
  sums_as people q each rest =
      record {
        each = subst (λ (p : List ℕ). (j : ℕ) → j < length p → get_or more j (pos 0) ≡ pos (sum_of figure (get_or p j 0) (es ++ e ∷ []))) (sym q) each;
        rest = subst (λ (p : List ℕ). (j : ℕ) → length p ≤ j → get_or more j (pos 0) ≡ pos 0) (sym q) rest;
      }

  module _ (w : SumsOf figure es sums) (size : length sums ≡ 64) (low : k < 64) where
    at_line : get_or more k (pos 0) ≡ get_or sums k (pos 0) +ℤ pos (figure e)
    at_line = get_or-set_same sums k (get_or sums k (pos 0) +ℤ pos (figure e)) (pos 0) (omega (arith, size))

    elsewhere : (j : ℕ) → (j ≡ k → ⊥) → get_or more j (pos 0) ≡ get_or sums j (pos 0)
    elsewhere j d = get_or-set_other sums k j (get_or sums k (pos 0) +ℤ pos (figure e)) (pos 0) d

    -- the person is known
    sums_old : k < length (people_in es) → get_or (people_in es) k 0 ≡ e.tag → people_in (es ++ e ∷ []) ≡ people_in es → SumsOf figure (es ++ e ∷ []) more
    sums_old l h q =
        sums_as (people_in es) q
        (λ j b.
        by_cases (eqb j k)
        (λ t.
        subst (λ (i : ℕ). get_or more i (pos 0) ≡ pos (sum_of figure (get_or (people_in es) i 0) (es ++ e ∷ []))) (sym (eqb-true j k t))
        (at_line ∙ ap (λ (z : ℤ). z +ℤ pos (figure e)) (w.each k l) ∙ pos-+ℤ-pos (sum_of figure (get_or (people_in es) k 0) es) (figure e)
        ∙ ap pos (sym (sum_own figure (get_or (people_in es) k 0) es e (sym h)))))
        (λ t.
        let d = eqb-false j k t in
        elsewhere j d ∙ w.each j b
        ∙ ap pos (sym (sum_other figure (get_or (people_in es) j 0) es e (other_place (people_in es) e.tag k j (people_distinct es) l h b d)))))
        (λ j b. elsewhere j (λ d. absurd (omega arith)) ∙ w.rest j b)

    -- the person is new
    sums_new : k ≡ length (people_in es) → place_in (people_in es) e.tag ≡ length (people_in es) → people_in (es ++ e ∷ []) ≡ people_in es ++ e.tag ∷ []
        → SumsOf figure (es ++ e ∷ []) more
    sums_new l n q =
        let P : List ℕ = people_in es in
        let t : ℕ = e.tag in
        let size' : length (P ++ t ∷ []) ≡ length P + 1 = length-append P (t ∷ []) in
        let absent = place_new P t n in
        sums_as (P ++ t ∷ []) q
        (λ j b.
        below_suc (length P) j (omega (arith, size'))
        (λ c.
        let h : get_or (P ++ t ∷ []) j 0 ≡ get_or P j 0 = get_or-append P (t ∷ []) 0 j c in
        elsewhere j (λ d. absurd (omega arith)) ∙ w.each j c
        ∙ ap pos (sym (sum_other figure (get_or P j 0) es e (λ d. member-not P t absent j c (sym d))))
        ∙ ap (λ (x : ℕ). pos (sum_of figure x (es ++ e ∷ []))) (sym h))
        (λ c.
        let at : j ≡ k = c ∙ sym l in
        let h : get_or (P ++ t ∷ []) j 0 ≡ t = ap (λ (i : ℕ). get_or (P ++ t ∷ []) i 0) c ∙ get_or-append_seam P t [] 0 in
        ap (λ (i : ℕ). get_or more i (pos 0)) at ∙ at_line
        ∙ ap (λ (z : ℤ). z +ℤ pos (figure e)) (w.rest k (omega arith)) ∙ pos-+ℤ-pos 0 (figure e)
        ∙ ap (λ (x : ℕ). pos (x + figure e)) (sym (sum_new figure es t absent))
        ∙ ap pos (sym (sum_own figure t es e refl))
        ∙ ap (λ (x : ℕ). pos (sum_of figure x (es ++ e ∷ []))) (sym h)))
        (λ j b. elsewhere j (λ d. absurd (omega (arith, size'))) ∙ w.rest j (omega (arith, size')))

    -- either
    pub sums_more : k ≡ place_in (people_in es) e.tag → SumsOf figure (es ++ e ∷ []) more
    sums_more at =
        by_cases (ltb (place_in (people_in es) e.tag) (length (people_in es)))
        (λ b.
        let l = ltb-true (place_in (people_in es) e.tag) (length (people_in es)) b in
        sums_old (omega arith) (ap (λ (i : ℕ). get_or (people_in es) i 0) at ∙ place_has (people_in es) e.tag l) (people_old es e l))
        (λ b.
        let m = ltb-false (place_in (people_in es) e.tag) (length (people_in es)) b in
        let u = first-le (length (people_in es)) (λ i. eqb (get_or (people_in es) i 0) e.tag) in
        let n : place_in (people_in es) e.tag ≡ length (people_in es) = omega (arith, u, m) in
        sums_new (at ∙ n) n (people_new es e n))

-- ---- no entry at all

none_zero : (n k : ℕ) → get_or (replicate {A = ℤ} n (pos 0)) k (pos 0) ≡ pos 0
none_zero zero k = refl
none_zero (suc n) zero = refl
none_zero (suc n) (suc k) = none_zero n k

none_sums : (figure : Entry → ℕ) → SumsOf figure [] (replicate {A = ℤ} 64 (pos 0))
unfolding met_after
none_sums figure = record { each = λ k l. absurd (not-suc-le-zero l); rest = λ k l. none_zero 64 k }

pub no_lines : LinesOf []
    (record { people = 0; tag = replicate {A = ℕ} 64 0; quoted = replicate {A = ℤ} 64 (pos 0); taken = replicate {A = ℤ} 64 (pos 0); all_quoted = pos 0; all_taken = pos 0 })
unfolding met_after sum_all
no_lines =
    record {
      people = refl;
      few = omega arith;
      tags = λ k l. absurd (not-suc-le-zero l);
      quoted = none_sums quoted_in;
      taken = none_sums taken_in;
      all_quoted = refl;
      all_taken = refl;
    }

-- ---- one more entry in all arrays

tags_as : (es : List Entry) (e : Entry) (tag people : List ℕ) → people_in (es ++ e ∷ []) ≡ people
    → ((k : ℕ) → k < length people → get_or tag k 0 ≡ get_or people k 0)
    → (k : ℕ) → k < length (people_in (es ++ e ∷ [])) → get_or tag k 0 ≡ get_or (people_in (es ++ e ∷ [])) k 0
tags_as es e tag people q h = subst (λ (p : List ℕ). (k : ℕ) → k < length p → get_or tag k 0 ≡ get_or p k 0) (sym q) h

-- the tag of the entry written into its line
tags_more : (es : List Entry) (e : Entry) (tag : List ℕ) (k : ℕ) → length tag ≡ 64 → k < 64
    → ((j : ℕ) → j < length (people_in es) → get_or tag j 0 ≡ get_or (people_in es) j 0)
    → k ≡ place_in (people_in es) e.tag
    → (j : ℕ) → j < length (people_in (es ++ e ∷ [])) → get_or (set tag k e.tag) j 0 ≡ get_or (people_in (es ++ e ∷ [])) j 0
tags_more es e tag k size low h at =
    let P : List ℕ = people_in es in
    let t : ℕ = e.tag in
    let own : get_or (set tag k t) k 0 ≡ t = get_or-set_same tag k t 0 (omega (arith, size)) in
    by_cases (ltb (place_in P t) (length P))
    (λ b.
    let l = ltb-true (place_in P t) (length P) b in
    tags_as es e (set tag k t) P (people_old es e l)
    (λ j c.
    by_cases (eqb j k)
    (λ x.
    let i : j ≡ k = eqb-true j k x in
    ap (λ (n : ℕ). get_or (set tag k t) n 0) i ∙ own ∙ sym (place_has P t l) ∙ ap (λ (n : ℕ). get_or P n 0) (sym at ∙ sym i))
    (λ x. get_or-set_other tag k j t 0 (eqb-false j k x) ∙ h j c)))
    (λ b.
    let m = ltb-false (place_in P t) (length P) b in
    let u = first-le (length P) (λ i. eqb (get_or P i 0) t) in
    let n : place_in P t ≡ length P = omega (arith, u, m) in
    let size' : length (P ++ t ∷ []) ≡ length P + 1 = length-append P (t ∷ []) in
    tags_as es e (set tag k t) (P ++ t ∷ []) (people_new es e n)
    (λ j c.
    below_suc (length P) j (omega (arith, size'))
    (λ d. get_or-set_other tag k j t 0 (λ i. absurd (omega arith)) ∙ h j d ∙ sym (get_or-append P (t ∷ []) 0 j d))
    (λ d.
    let i : j ≡ k = d ∙ sym n ∙ sym at in
    ap (λ (x : ℕ). get_or (set tag k t) x 0) i ∙ own ∙ sym (get_or-append_seam P t [] 0) ∙ ap (λ (x : ℕ). get_or (P ++ t ∷ []) x 0) (sym d))))

-- how many there are then
people_more : (es : List Entry) (e : Entry) (k people r : ℕ) → people ≡ length (people_in es) → k < 64 → people ≤ 64 → k ≡ place_in (people_in es) e.tag
    → (k < people → r ≡ people) → (k ≡ people → r ≡ people + 1) → (r ≡ length (people_in (es ++ e ∷ []))) × (r ≤ 64)
people_more es e k people r q low few at old new =
    let P : List ℕ = people_in es in
    let t : ℕ = e.tag in
    by_cases (ltb (place_in P t) (length P))
    (λ b.
    let l = ltb-true (place_in P t) (length P) b in
    let same = ap length (people_old es e l) in
    let r' = old (omega (arith, l, q, at)) in
    (omega (arith, same, r', q), omega (arith, r')))
    (λ b.
    let m = ltb-false (place_in P t) (length P) b in
    let u = first-le (length P) (λ i. eqb (get_or P i 0) t) in
    let n : place_in P t ≡ length P = omega (arith, u, m) in
    let longer = ap length (people_new es e n) ∙ length-append P (t ∷ []) in
    let r' = new (omega (arith, n, q, at)) in
    (omega (arith, longer, r', q), omega (arith, r', n, q, at)))

-- the arrays of the ledger with one more entry, its line being the first with the tag
module _ (es : List Entry) (e : Entry) (l : Ledger) (k : ℕ) (w : LinesOf es l) where
  abbrev place : ℕ
  place = first l.people (λ j. eqb (get_or l.tag j 0) e.tag)

  pub place_same : place ≡ place_in (people_in es) e.tag
  place_same =
      subst (λ (n : ℕ). first n (λ j. eqb (get_or l.tag j 0) e.tag) ≡ place_in (people_in es) e.tag) (sym w.people)
      (first_cong (length (people_in es)) (λ j. eqb (get_or l.tag j 0) e.tag) (λ j. eqb (get_or (people_in es) j 0) e.tag)
      (λ j b. ap (λ (x : ℕ). eqb x e.tag) (w.tags j b)))

  pub lines_more : (r : Ledger) → length l.tag ≡ 64 → length l.quoted ≡ 64 → length l.taken ≡ 64 → k < 64 → k ≡ place
      → (k < l.people → r.people ≡ l.people) → (k ≡ l.people → r.people ≡ l.people + 1)
      → r.tag ≡ set l.tag k e.tag
      → r.quoted ≡ set l.quoted k (get_or l.quoted k (pos 0) +ℤ pos e.quoted)
      → r.taken ≡ set l.taken k (get_or l.taken k (pos 0) +ℤ pos e.taken)
      → r.all_quoted ≡ l.all_quoted +ℤ pos e.quoted
      → r.all_taken ≡ l.all_taken +ℤ pos e.taken
      → LinesOf (es ++ e ∷ []) r
  lines_more r st sq sn low at old new tags quoted taken allq allt =
      let here : k ≡ place_in (people_in es) e.tag = at ∙ place_same in
      let n = people_more es e k l.people r.people w.people low w.few here old new in
      record {
        people = n.0;
        few = n.1;
        tags = subst (λ (a : List ℕ). (j : ℕ) → j < length (people_in (es ++ e ∷ [])) → get_or a j 0 ≡ get_or (people_in (es ++ e ∷ [])) j 0) (sym tags)
            (tags_more es e l.tag k st low w.tags here);
        quoted = subst (SumsOf quoted_in (es ++ e ∷ [])) (sym quoted) (sums_more quoted_in es e l.quoted k w.quoted sq low here);
        taken = subst (SumsOf taken_in (es ++ e ∷ [])) (sym taken) (sums_more taken_in es e l.taken k w.taken sn low here);
        all_quoted = allq ∙ ap (λ (z : ℤ). z +ℤ pos e.quoted) w.all_quoted ∙ pos-+ℤ-pos (sum_all quoted_in es) e.quoted ∙ ap pos (sym (all_snoc quoted_in es e));
        all_taken = allt ∙ ap (λ (z : ℤ). z +ℤ pos e.taken) w.all_taken ∙ pos-+ℤ-pos (sum_all taken_in es) e.taken ∙ ap pos (sym (all_snoc taken_in es e));
      }
