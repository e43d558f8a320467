-- A walk that refuses stops at an index of the chain, for a reason that the refusal names. Assumes nothing.
use mathlib.Core.Bool.{Bool, true, false, not, ◌||◌}
use mathlib.Core.List.{List, [], ◌∷◌, ◌++◌}
use mathlib.Core.Path.{◌≡◌, refl, sym, ◌∙◌, ap}
use Prim.Native.Nat.{ℕ, zero, suc, ◌+◌, ◌<◌, ◌≤◌}
use native.Mathlib.Omega.{arith}
use lib.Dec.{eqb, leb, eqb-suc-zero}
use lib.ListN.{length, get_or}
use lib.Seq.{get_or-append_seam}
use borrow.Author.Tests.{eqb-true, eqb-false, leb-true, leb-false, not-true, not-false}
use Rattle.bits.specs.Member.{member}
use Rattle.bits.proofs.Below.{by_cases, true-false}
use Rattle.card.specs.Refusals.{reached_fault, kind_fault, field_fault, count_fault}
use Rattle.chain.specs.Walk.{listed, refused, Chain, walk, fault_at, first_fault}
use Rattle.chain.specs.Chained.{Upto, holder_in, StopsAt, at_index, at_reached, at_count, at_kind, at_fields, Stopped}
use Rattle.chain.proofs.Step.{walk_end, walk_index, walk_fault, walk_next, fault_full}
use Rattle.chain.proofs.Chained.{clean, length-snoc, upto_none, upto_more}

-- which fault a card has
fault_cases : {P : Type 0} (a b full other bad : Bool) → (first_fault (a || b) full other bad ≡ 0 → ⊥)
    → ((a || b) ≡ true → first_fault (a || b) full other bad ≡ reached_fault → P)
    → (a ≡ false → b ≡ false → full ≡ true → first_fault (a || b) full other bad ≡ count_fault → P)
    → (other ≡ true → first_fault (a || b) full other bad ≡ kind_fault → P)
    → (other ≡ false → bad ≡ true → first_fault (a || b) full other bad ≡ field_fault → P)
    → P
unfolding first_fault
fault_cases true b full other bad n w x y z = w refl refl
fault_cases false true full other bad n w x y z = w refl refl
fault_cases false false true other bad n w x y z = x refl refl refl refl
fault_cases false false false true bad n w x y z = y refl refl
fault_cases false false false false true n w x y z = z refl refl refl
fault_cases false false false false false n w x y z = absurd (n refl)

-- the card taken last holds the index that comes next
holder_snoc : (acc : List ℕ) (i : ℕ) → i ≡ holder_in (acc ++ i ∷ [])
holder_snoc acc i =
    let n : suc (length acc) ≡ length (acc ++ i ∷ []) = omega (arith, length-snoc acc i) in
    sym (get_or-append_seam acc i [] 0) ∙ ap (λ (n : ℕ). get_or (0 ∷ (acc ++ i ∷ [])) n 0) n

module _ (k : Chain) (most first : ℕ) where
  module _ (acc : List ℕ) (h i room : ℕ) (u : Upto k first acc i) (f c : ℕ) (e : walk k room acc h i ≡ refused f c) where
    stopped : StopsAt k most acc i f c → (i ≡ 0 → ⊥) → Stopped k most first f c
    stopped w n = record { taken = acc; index = i; some = omega arith; upto = u; why = w }

    stop_index : h ≡ holder_in acc → (i ≡ 0 → ⊥) → k.cards ≤ i → Stopped k most first f c
    stop_index eh n l =
        let w : walk k room acc h i ≡ refused 5 h = walk_index k acc h i n room l in
        let x : f ≡ 5 = cc in let y : c ≡ h = cc in
        stopped (at_index x (y ∙ eh) l) n

    stop_fault : (full : Bool) → eqb room 0 ≡ full → (full ≡ true → length acc ≡ most) → (i ≡ 0 → ⊥) → i < k.cards → (fault_at k full acc i ≡ 0 → ⊥)
        → Stopped k most first f c
    stop_fault full r last n l q =
        let w : walk k room acc h i ≡ refused (fault_at k full acc i) i = walk_fault k acc h i n room full r l q in
        let x : f ≡ fault_at k full acc i = cc in let y : c ≡ i = cc in
        fault_cases (k.before i) (member acc i) full (not (k.mine i)) (not (k.fields i)) q
        (λ t d. stopped (at_reached (x ∙ d) y l t) n)
        (λ r t s d. stopped (at_count (x ∙ d) y l (last s) r t) n)
        (λ t d. stopped (at_kind (x ∙ d) y l (not-true (k.mine i) t)) n)
        (λ s t d. stopped (at_fields (x ∙ d) y l (not-false (k.mine i) s) (not-true (k.fields i) t)) n)

    never : {P : Type 0} → i ≡ 0 → P
    never z =
        let w : walk k room acc h i ≡ listed acc = ap (walk k room acc h) z ∙ walk_end k acc h room in
        let a : ◌≡◌ {A = ℕ} 0 1 = cc in absurd (omega arith)

  walk_stops : (room : ℕ) (acc : List ℕ) (h i f c : ℕ) → length acc + room ≡ most → h ≡ holder_in acc → Upto k first acc i
      → walk k room acc h i ≡ refused f c → Stopped k most first f c
  walk_stops zero acc h i f c r eh u e =
      by_cases (eqb i 0) (λ t. never acc h i zero u f c e (eqb-true i 0 t))
      (λ t. by_cases (leb k.cards i) (λ v. stop_index acc h i zero u f c e eh (eqb-false i 0 t) (leb-true _ _ v))
      (λ v. stop_fault acc h i zero u f c e true refl (λ s. omega arith) (eqb-false i 0 t) (leb-false _ _ v) (λ z. true-false refl (fault_full _ _ _ _ z))))
  walk_stops (suc room) acc h i f c r eh u e =
      by_cases (eqb i 0) (λ t. never acc h i (suc room) u f c e (eqb-true i 0 t))
      (λ t. by_cases (leb k.cards i) (λ v. stop_index acc h i (suc room) u f c e eh (eqb-false i 0 t) (leb-true _ _ v))
      (λ v. let n = eqb-false i 0 t in let l = leb-false k.cards i v in
      by_cases (eqb (fault_at k false acc i) 0)
      (λ g.
      let len = length-snoc acc i in
      walk_stops room (acc ++ i ∷ []) i (k.next i) f c (omega arith) (holder_snoc acc i) (upto_more k first acc i u n l (clean k false acc i (eqb-true _ _ g)))
      (sym (walk_next k acc h i n room l (eqb-true _ _ g)) ∙ e))
      (λ g. stop_fault acc h i (suc room) u f c e false (eqb-suc-zero room) (λ s. true-false s refl) n l (eqb-false _ _ g))))

  -- a walk from the chain's first index
  pub walk_stopped : (f c : ℕ) → walk k most [] 0 first ≡ refused f c → Stopped k most first f c
  walk_stopped f c e = walk_stops most [] 0 first f c (omega arith) refl (upto_none k first) e
