-- A walk that lists cards lists the whole chain. Assumes nothing.
use mathlib.Core.Bool.{Bool, true, false, not, ◌||◌}
use mathlib.Core.List.{List, [], ◌∷◌, ◌++◌}
use mathlib.Core.Path.{◌≡◌, refl, sym, ◌∙◌, ap, subst}
use Prim.Native.Nat.{ℕ, zero, suc, ◌+◌, ◌<◌, ◌≤◌}
use native.Mathlib.Omega.{arith}
use native.Mathlib.Nat.{not-suc-le-zero}
use lib.Dec.{eqb, leb, eqb-suc-zero}
use lib.ListN.{length, get_or, length-append, get_or-append}
use lib.Seq.{get_or-append_seam}
use borrow.Author.Tests.{eqb-true, eqb-false, leb-true, leb-false}
use Rattle.bits.specs.Member.{member}
use Rattle.bits.proofs.Member.{member-not}
use Rattle.bits.proofs.Below.{by_cases, true-false, below_suc}
use Rattle.chain.specs.Walk.{listed, refused, Chain, walk, fault_at, first_fault}
use Rattle.chain.specs.Chained.{Chained, Upto}
use Rattle.chain.proofs.Step.{walk_end, walk_index, walk_fault, walk_next, fault_full}

-- the tests that a card without a fault has passed
pub record Clean (k : Chain) (acc : List ℕ) (i : ℕ) : Type 0 where
  pub before : k.before i ≡ false
  pub new : member acc i ≡ false
  pub mine : k.mine i ≡ true
  pub fields : k.fields i ≡ true

pub clean : (k : Chain) (full : Bool) (acc : List ℕ) (i : ℕ) → fault_at k full acc i ≡ 0 → Clean k acc i
unfolding first_fault
clean k full acc i e = go (k.before i) (member acc i) full (k.mine i) (k.fields i) refl refl refl refl e
  where
    go : (a b f m g : Bool) → k.before i ≡ a → member acc i ≡ b → k.mine i ≡ m → k.fields i ≡ g → first_fault (a || b) f (not m) (not g) ≡ 0 → Clean k acc i
    go true b f m g p q r s z = absurd (omega arith)
    go false true f m g p q r s z = absurd (omega arith)
    go false false true m g p q r s z = absurd (omega arith)
    go false false false false g p q r s z = absurd (omega arith)
    go false false false true false p q r s z = absurd (omega arith)
    go false false false true true p q r s z = record { before = p; new = q; mine = r; fields = s }

pub length-snoc : (l : List ℕ) (i : ℕ) → length (l ++ i ∷ []) ≡ length l + 1
length-snoc l i = length-append l (i ∷ [])

get_d_snoc_zero : (l : List ℕ) (j : ℕ) → get_or (l ++ 0 ∷ []) j 0 ≡ get_or l j 0
get_d_snoc_zero [] zero = refl
get_d_snoc_zero [] (suc j) = refl
get_d_snoc_zero (x ∷ l) zero = refl
get_d_snoc_zero (x ∷ l) (suc j) = get_d_snoc_zero l j

-- what holds of each card, and of one more, by the card's place
at_snoc : (P : ℕ → ℕ → Type 0) (l : List ℕ) (i : ℕ) → ((j : ℕ) → j < length l → P j (get_or l j 0)) → P (length l) i
    → (j : ℕ) → j < length (l ++ i ∷ []) → P j (get_or (l ++ i ∷ []) j 0)
at_snoc P l i h p j m =
    below_suc (length l) j (omega (arith, length-snoc l i))
    (λ q. subst (λ (x : ℕ). P j x) (sym (get_or-append l (i ∷ []) 0 j q)) (h j q))
    (λ e. subst (λ (x : ℕ). P x (get_or (l ++ i ∷ []) x 0)) (sym e) (subst (λ (x : ℕ). P (length l) x) (sym (get_or-append_seam l i [] 0)) p))

module _ (k : Chain) (first : ℕ) where
  pub upto_none : Upto k first [] first
  upto_none =
      record {
        starts = refl;
        linked = λ j h. absurd (not-suc-le-zero h);
        some = λ j h. absurd (not-suc-le-zero h);
        inside = λ j h. absurd (not-suc-le-zero h);
        apart = λ j h. absurd (not-suc-le-zero h);
        fresh = λ j h. absurd (not-suc-le-zero h);
        mine = λ j h. absurd (not-suc-le-zero h);
        fields = λ j h. absurd (not-suc-le-zero h);
      }

  pub upto_more : (acc : List ℕ) (i : ℕ) → Upto k first acc i → (i ≡ 0 → ⊥) → i < k.cards → Clean k acc i → Upto k first (acc ++ i ∷ []) (k.next i)
  upto_more acc i u n l c =
      let len = length-snoc acc i in
      record {
        starts = get_or-append (acc ++ i ∷ []) (k.next i ∷ []) 0 0 (omega arith) ∙ u.starts;
        linked =
            at_snoc (λ (j x : ℕ). get_or ((acc ++ i ∷ []) ++ k.next i ∷ []) (j + 1) 0 ≡ k.next x) acc i
            (λ j h. get_or-append (acc ++ i ∷ []) (k.next i ∷ []) 0 (j + 1) (omega arith) ∙ u.linked j h)
            (subst (λ (x : ℕ). get_or ((acc ++ i ∷ []) ++ k.next i ∷ []) x 0 ≡ k.next i) len (get_or-append_seam (acc ++ i ∷ []) (k.next i) [] 0));
        some = at_snoc (λ (j x : ℕ). 0 < x) acc i u.some (omega arith);
        inside = at_snoc (λ (j x : ℕ). x < k.cards) acc i u.inside l;
        apart =
            at_snoc (λ (j x : ℕ). (m : ℕ) → m < j → get_or (acc ++ i ∷ []) m 0 ≡ x → ⊥) acc i
            (λ j h m q e. u.apart j h m q (sym (get_or-append acc (i ∷ []) 0 m (omega arith)) ∙ e))
            (λ m q e. member-not acc i c.new m q (sym (get_or-append acc (i ∷ []) 0 m q) ∙ e));
        fresh = at_snoc (λ (j x : ℕ). k.before x ≡ false) acc i u.fresh c.before;
        mine = at_snoc (λ (j x : ℕ). k.mine x ≡ true) acc i u.mine c.mine;
        fields = at_snoc (λ (j x : ℕ). k.fields x ≡ true) acc i u.fields c.fields;
      }

  -- a whole chain, and index 0 after it
  pub chained_upto : (most : ℕ) (l : List ℕ) → Chained k most first l → Upto k first l 0
  chained_upto most l c =
      record {
        starts = get_d_snoc_zero l 0 ∙ c.starts;
        linked = λ j h. get_d_snoc_zero l (j + 1) ∙ c.linked j h;
        some = c.some;
        inside = c.inside;
        apart = λ j h i m. c.apart i j m h;
        fresh = c.fresh;
        mine = c.mine;
        fields = c.fields;
      }

  upto_all : (most : ℕ) (acc : List ℕ) → length acc ≤ most → Upto k first acc 0 → Chained k most first acc
  upto_all most acc s u =
      record {
        short = s;
        starts = sym (get_d_snoc_zero acc 0) ∙ u.starts;
        linked = λ j h. sym (get_d_snoc_zero acc (j + 1)) ∙ u.linked j h;
        some = u.some;
        inside = u.inside;
        apart = λ i j l h. u.apart j h i l;
        fresh = u.fresh;
        mine = u.mine;
        fields = u.fields;
      }

  -- how a walk that lists cards begins: with the end, or with a card without a fault
  listed_cases : {P : Type 0} (room : ℕ) (acc : List ℕ) (h i : ℕ) (l : List ℕ) → walk k room acc h i ≡ listed l
      → (i ≡ 0 → acc ≡ l → P)
      → ((r : ℕ) → room ≡ suc r → (i ≡ 0 → ⊥) → i < k.cards → fault_at k false acc i ≡ 0 → walk k r (acc ++ i ∷ []) i (k.next i) ≡ listed l → P)
      → P
  listed_cases {P} room acc h i l e at-end on =
      by_cases (eqb i 0)
      (λ t.
      let z : i ≡ 0 = eqb-true i 0 t in
      let w : walk k room acc h 0 ≡ listed acc = walk_end k acc h room in
      let d : walk k room acc h i ≡ listed acc = ap (walk k room acc h) z ∙ w in
      at-end z (listed_inj (sym d ∙ e)))
      (λ t. let n : i ≡ 0 → ⊥ = eqb-false i 0 t in
      by_cases (leb k.cards i)
      (λ u. never (sym (walk_index k acc h i n room (leb-true k.cards i u)) ∙ e))
      (λ u. met room n (leb-false k.cards i u) e on))
    where
      listed_inj : {a b : List ℕ} → listed a ≡ listed b → a ≡ b
      listed_inj p = cc

      never : {f c : ℕ} → refused f c ≡ listed l → P
      never p = let z : ◌≡◌ {A = ℕ} 0 1 = cc in absurd (omega arith)

      met : (room : ℕ) → (i ≡ 0 → ⊥) → i < k.cards → walk k room acc h i ≡ listed l
          → ((r : ℕ) → room ≡ suc r → (i ≡ 0 → ⊥) → i < k.cards → fault_at k false acc i ≡ 0 → walk k r (acc ++ i ∷ []) i (k.next i) ≡ listed l → P)
          → P
      met zero n b e on = never (sym (walk_fault k acc h i n zero true refl b (λ z. true-false refl (fault_full _ _ _ _ z))) ∙ e)
      met (suc r) n b e on =
          by_cases (eqb (fault_at k false acc i) 0)
          (λ t. let f : fault_at k false acc i ≡ 0 = eqb-true _ _ t in on r refl n b f (sym (walk_next k acc h i n r b f) ∙ e))
          (λ t. never (sym (walk_fault k acc h i n (suc r) false (eqb-suc-zero r) b (eqb-false _ _ t)) ∙ e))

  walk_upto : (most room : ℕ) (acc : List ℕ) (h i : ℕ) (l : List ℕ) → length acc + room ≤ most → Upto k first acc i
      → walk k room acc h i ≡ listed l → Chained k most first l
  walk_upto most zero acc h i l r u e =
      listed_cases zero acc h i l e
      (λ z a. subst (Chained k most first) a (upto_all most acc (omega arith) (subst (Upto k first acc) z u)))
      (λ q s n b f w. absurd (omega arith))
  walk_upto most (suc room) acc h i l r u e =
      listed_cases (suc room) acc h i l e
      (λ z a. subst (Chained k most first) a (upto_all most acc (omega arith) (subst (Upto k first acc) z u)))
      (λ q s n b f w.
      let len = length-snoc acc i in
      let same : room ≡ q = omega arith in
      walk_upto most room (acc ++ i ∷ []) i (k.next i) l (omega arith) (upto_more acc i u n b (clean k false acc i f))
      (ap (λ (x : ℕ). walk k x (acc ++ i ∷ []) i (k.next i)) same ∙ w))

  -- the cards that a walk lists are the whole chain
  pub walk_chained : (most : ℕ) (l : List ℕ) → walk k most [] 0 first ≡ listed l → Chained k most first l
  walk_chained most l e = walk_upto most most [] 0 first l (omega arith) upto_none e
