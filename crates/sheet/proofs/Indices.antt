-- The cards that a walk takes are those that the chain's indices lead to. Assumes nothing.
use mathlib.Core.Bool.{Bool, true}
use mathlib.Core.List.{List, [], ◌∷◌, ◌++◌}
use mathlib.Core.Path.{◌≡◌, refl, sym, ◌∙◌, ap, subst}
use Prim.Native.Nat.{ℕ, zero, suc, ◌<◌, ◌≤◌}
use native.Mathlib.Omega.{arith}
use native.Mathlib.Numerals.{add-one}
use lib.Dec.{ltb}
use lib.ListN.{length, get_or, get_or-append}
use lib.Seq.{get_or-append_seam}
use borrow.Author.Tests.{eqb-true, ltb-true, ltb-false}
use Rattle.bits.specs.Member.{member}
use Rattle.bits.proofs.Below.{by_cases, below_suc}
use Rattle.bits.proofs.Member.{member_place, member_has}
use Rattle.card.specs.Layout.{kind_of, next_of}
use Rattle.chain.specs.Answer.{chain_of}
use Rattle.chain.specs.Chained.{Chained, Upto, holder_in}
use Rattle.chain.proofs.Chained.{chained_upto}
use Rattle.sheet.specs.Faults.{ChainName, cards_in, first_index, kind_along, index_at, holder_at, LeadsUpTo, ComesTo, EndsAfter}

module _ (s : List ℕ) (k : ChainName) (kind steps : ℕ) (before : ℕ → Bool) (acc : List ℕ) (i : ℕ)
    (u : Upto (chain_of s (cards_in s) kind steps before) (first_index s k) acc i) where
  index_is : (j : ℕ) → j ≤ length acc → index_at s k j ≡ get_or (acc ++ i ∷ []) j 0
  unfolding index_at
  index_is zero l = sym u.starts
  index_is (suc j) l =
      ap (next_of s) (index_is j (omega arith) ∙ get_or-append acc (i ∷ []) 0 j (omega arith))
      ∙ sym (u.linked j (omega arith))
      ∙ ap (λ (n : ℕ). get_or (acc ++ i ∷ []) n 0) (add-one j)

  pub index_card : (j : ℕ) → j < length acc → index_at s k j ≡ get_or acc j 0
  index_card j l = index_is j (omega arith) ∙ get_or-append acc (i ∷ []) 0 j l

  pub index_next : index_at s k (length acc) ≡ i
  index_next = index_is (length acc) (omega arith) ∙ get_or-append_seam acc i [] 0

  pub upto_leads : LeadsUpTo s k (length acc)
  upto_leads j l = let e = index_card j l in (omega (arith, u.some j l), omega (arith, u.inside j l))

  pub upto_comes : (j : ℕ) → j < length acc → ComesTo s k j (get_or acc j 0)
  upto_comes j l = record { index = index_card j l; leads = λ m h. upto_leads m (omega arith) }

  -- the index that comes next leads to a card too
  pub next_comes : 0 < i → i < cards_in s → ComesTo s k (length acc) i
  next_comes a b =
      let e = index_next in
      record { index = e; leads = λ m h. below_suc (length acc) m h (upto_leads m) (λ d. subst (λ (x : ℕ). (0 < index_at s k x) × (index_at s k x < cards_in s)) (sym d) (omega arith, omega arith)) }

  pub upto_holder : holder_in acc ≡ holder_at s k (length acc)
  upto_holder = go (length acc) (omega arith)
    where
      go : (m : ℕ) → m ≤ length acc → get_or (0 ∷ acc) m 0 ≡ holder_at s k m
      go zero l = refl
      go (suc m) l = sym (index_card m l)

-- the cards of a chain that was read: each where its index leads, and the end after them
pub record Traced (s : List ℕ) (k : ChainName) (l : List ℕ) : Type 0 where
  pub each : (j : ℕ) → j < length l → ComesTo s k j (get_or l j 0)
  pub ends : EndsAfter s k (length l)
  pub apart : (i j : ℕ) → i < j → j < length l → get_or l i 0 ≡ get_or l j 0 → ⊥
  pub kinds : (j : ℕ) → j < length l → kind_of s (get_or l j 0) ≡ kind_along k

pub traced : (s : List ℕ) (k : ChainName) (steps most : ℕ) (before : ℕ → Bool) (l : List ℕ)
    → Chained (chain_of s (cards_in s) (kind_along k) steps before) most (first_index s k) l → Traced s k l
traced s k steps most before l c =
    let kind = kind_along k in
    let u = chained_upto (chain_of s (cards_in s) kind steps before) (first_index s k) most l c in
    record {
      each = upto_comes s k kind steps before l 0 u;
      ends = record { leads = upto_leads s k kind steps before l 0 u; ends = index_next s k kind steps before l 0 u };
      apart = c.apart;
      kinds = λ j h. eqb-true _ _ (c.mine j h);
    }

module _ {s : List ℕ} {k : ChainName} {l : List ℕ} (t : Traced s k l) where
  -- a chain comes to no other cards
  pub comes_before_end : (j c : ℕ) → ComesTo s k j c → j < length l
  comes_before_end j c h =
      by_cases (ltb j (length l)) (ltb-true j (length l))
      (λ f. let z : length l ≤ j = ltb-false j (length l) f in absurd (omega (arith, (h.leads (length l) (omega arith)).0, t.ends.ends)))

  pub comes_card : (j c : ℕ) → ComesTo s k j c → get_or l j 0 ≡ c
  comes_card j c h = sym (t.each j (comes_before_end j c h)).index ∙ h.index

  pub leads_before_end : (j : ℕ) → LeadsUpTo s k j → j ≤ length l
  leads_before_end j h =
      by_cases (ltb (length l) j)
      (λ f. let z : length l < j = ltb-true (length l) j f in absurd (omega (arith, (h (length l) z).0, t.ends.ends)))
      (λ f. ltb-false (length l) j f)

  pub ends_once : (n : ℕ) → EndsAfter s k n → n ≡ length l
  ends_once n e =
      let a : n ≤ length l = leads_before_end n e.leads in
      by_cases (ltb n (length l))
      (λ f. let z : n < length l = ltb-true n (length l) f in absurd (omega (arith, (t.ends.leads n z).0, e.ends)))
      (λ f. let z : length l ≤ n = ltb-false n (length l) f in omega arith)

  pub member_comes : (c : ℕ) → member l c ≡ true → (j : ℕ) × ComesTo s k j c
  member_comes c m = let w = member_place l c m in (w.0, subst (ComesTo s k w.0) w.2 (t.each w.0 w.1))

  pub comes_member : (j c : ℕ) → ComesTo s k j c → member l c ≡ true
  comes_member j c h = member_has l j c (comes_before_end j c h) (comes_card j c h)
