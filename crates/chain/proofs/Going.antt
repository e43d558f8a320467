-- The invariant of the walk: what the definition gives from here is what it gives from the start, and the marks are those of the earlier
-- chains with the cards listed so far. Assumes nothing.
use mathlib.Core.Bool.{Bool, true, false, not, ◌||◌, or-false, or-true}
use mathlib.Core.List.{List, [], ◌∷◌, ◌++◌}
use mathlib.Core.Path.{◌≡◌, sym, ◌∙◌, ap, subst}
use Prim.Native.Nat.{ℕ, suc, ◌+◌, ◌-◌, ◌<◌, ◌≤◌}
use native.Mathlib.Omega.{arith}
use native.Mathlib.Nat.{sub-zero}
use native.Mathlib.Numerals.{add-one}
use lib.Dec.{eqb}
use lib.ListN.{length, take, set, length-set}
use lib.Seq.{take-suc-set, get_or-set_same, get_or-set_other}
use borrow.Author.Tests.{eqb-true, eqb-false, eq-eqb, ne_eqb}
use Rattle.bits.specs.Member.{member}
use Rattle.bits.proofs.Member.{member-snoc}
use Rattle.bits.proofs.Below.{by_cases}
use Rattle.chain.specs.Walk.{listed, refused, Chain, walk, fault_at, first_fault}
use Rattle.chain.specs.Answer.{Walks, fault_found, marked}
use Rattle.std.specs.Prelude.{Option, Some, None, Ok, Err}
use Rattle.card.specs.Refusals.{fault_number}
use Rattle.card.specs.declared.refusal.Fault.{Fault}
use Rattle.card.specs.declared.refusal.Fault.TheVariants.{Index}
use Rattle.card.specs.declared.refusal.Refusal.{Refusal}
use Rattle.card.proofs.Numbers.{number-some}
use Rattle.chain.proofs.Step.{walk_end, walk_index, walk_fault, walk_next, fault_full}

pub record Going (k : Chain) (most first : ℕ) (marks : List Bool) (list : List ℕ) (taken holder at : ℕ) : Type 0 where
  pub room : taken ≤ most
  pub rest : walk k (most - taken) (take taken list) holder at ≡ walk k most [] 0 first
  pub marking : (c : ℕ) → marked marks c ≡ (k.before c || member (take taken list) c)
  pub held : holder < 141
  pub list_length : length list ≡ 64
  pub marks_length : length marks ≡ 141

-- one card more is marked
mark_more : (before : ℕ → Bool) (marks : List Bool) (l : List ℕ) (i : ℕ)
    → ((c : ℕ) → marked marks c ≡ (before c || member l c))
    → i < length marks
    → (c : ℕ) → marked (set marks i true) c ≡ (before c || member (l ++ i ∷ []) c)
mark_more before marks l i m b c =
    by_cases (eqb c i)
    (λ t. ap (λ (x : ℕ). marked (set marks i true) x) (eqb-true c i t) ∙ get_or-set_same marks i true false b
    ∙ sym (ap (λ (x : Bool). before c || x) (member-snoc l i c ∙ ap (λ (x : Bool). member l c || x) t ∙ or-true (member l c)) ∙ or-true (before c)))
    (λ t. get_or-set_other marks i c true false (eqb-false c i t) ∙ m c
    ∙ ap (λ (x : Bool). before c || x) (sym (member-snoc l i c ∙ ap (λ (x : Bool). member l c || x) t ∙ or-false (member l c))))

-- the room that is left is none exactly when the chain is full
full_room : (taken most : ℕ) → taken ≤ most → eqb (most - taken) 0 ≡ eqb taken most
full_room taken most l =
    by_cases (eqb taken most)
    (λ t. let e : taken ≡ most = eqb-true taken most t in eq-eqb (most - taken) 0 (omega arith) ∙ sym t)
    (λ t. let e : taken ≡ most → ⊥ = eqb-false taken most t in ne_eqb (most - taken) 0 (λ z. e (omega arith)) ∙ sym t)

module _ (k : Chain) (most first : ℕ) where
  pub going_start : (marks : List Bool) (list : List ℕ) → ((c : ℕ) → marked marks c ≡ k.before c) → length marks ≡ 141 → length list ≡ 64
      → Going k most first marks list 0 0 first
  unfolding member
  going_start marks list b m l =
      record {
        room = omega arith;
        rest = ap (λ (r : ℕ). walk k r [] 0 first) (sub-zero most);
        marking = λ c. b c ∙ sym (or-false (k.before c));
        held = omega arith;
        list_length = l;
        marks_length = m;
      }

  module _ {marks : List Bool} {list : List ℕ} {taken holder at : ℕ} (g : Going k most first marks list taken holder at) where
    pub going_end : at ≡ 0 → Walks most (walk k most [] 0 first) (Ok taken) k.before marks list
    going_end z =
        let e : walk k most [] 0 first ≡ listed (take taken list)
        = sym g.rest ∙ ap (λ (i : ℕ). walk k (most - taken) (take taken list) holder i) z ∙ walk_end k (take taken list) holder (most - taken) in
        record {
          counted = g.room;
          answer = sym e;
          marking = λ l w c. let q : take taken list ≡ l = cc in subst (λ (x : List ℕ). marked marks c ≡ (k.before c || member x c)) q (g.marking c);
          list_length = g.list_length;
          marks_length = g.marks_length;
        }

    stopped : {r : Refusal} → walk k (most - taken) (take taken list) holder at ≡ refused (fault_number r.fault) r.card
        → Walks most (walk k most [] 0 first) (Err r) k.before marks list
    stopped e =
        record {
          counted = omega arith;
          answer = sym e ∙ g.rest;
          marking = λ l w d. let r = g.rest in let z : ◌≡◌ {A = ℕ} 0 1 = cc in absurd (omega arith);
          list_length = g.list_length;
          marks_length = g.marks_length;
        }

    -- the fault of the card met, by the marks, is that of the definition
    met_fault : first_fault (marked marks at) (eqb taken most) (not (k.mine at)) (not (k.fields at)) ≡ fault_at k (eqb taken most) (take taken list) at
    met_fault = ap (λ (b : Bool). first_fault b (eqb taken most) (not (k.mine at)) (not (k.fields at))) (g.marking at)

    module _ (n : at ≡ 0 → ⊥) where
      pub going_index : k.cards ≤ at → {r : Refusal} → r ≡ record { fault = Index; card = holder } → Walks most (walk k most [] 0 first) (Err r) k.before marks list
      unfolding fault_number
      going_index l e = stopped (walk_index k (take taken list) holder at n (most - taken) l ∙ ap (λ (x : Refusal). refused (fault_number x.fault) x.card) (sym e))

      -- what was found of the card met
      module _ {found : Option Fault} (d : fault_found found ≡ first_fault (marked marks at) (eqb taken most) (not (k.mine at)) (not (k.fields at))) where
        pub going_fault : at < k.cards → {f : Fault} → found ≡ Some f → {r : Refusal} → r ≡ record { fault = f; card = at }
            → Walks most (walk k most [] 0 first) (Err r) k.before marks list
        going_fault l {f} is e =
            let u : fault_number f ≡ fault_at k (eqb taken most) (take taken list) at = ap fault_found (sym is) ∙ d ∙ met_fault in
            stopped
            (walk_fault k (take taken list) holder at n (most - taken) (eqb taken most) (full_room taken most g.room) l (λ z. number-some f (u ∙ z))
            ∙ ap (λ (x : ℕ). refused x at) (sym u)
            ∙ ap (λ (x : Refusal). refused (fault_number x.fault) x.card) (sym e))

        pub going_room : found ≡ None → taken < most
        going_room z =
            let u : eqb taken most ≡ false
            = fault_full (marked marks at) (eqb taken most) (not (k.mine at)) (not (k.fields at)) (sym d ∙ ap fault_found z) in
            let d : taken ≡ most → ⊥ = eqb-false taken most u in
            let r = g.room in omega arith

        pub going_next : at < k.cards → at < 141 → most ≤ 64 → found ≡ None → (next : ℕ) → next ≡ k.next at
            → Going k most first (set marks at true) (set list taken at) (taken + 1) at next
        going_next l b m z next en =
            let u : taken < most = going_room z in
            let e : fault_at k (eqb taken most) (take taken list) at ≡ 0 = sym met_fault ∙ sym d ∙ ap fault_found z in
            let len = g.list_length in
            let acc : take (taken + 1) (set list taken at) ≡ take taken list ++ at ∷ []
            = rw add-one (take-suc-set list taken at (omega arith)) in
            let f : fault_at k false (take taken list) at ≡ 0
            = subst (λ (b : Bool). fault_at k b (take taken list) at ≡ 0) (ne_eqb taken most (omega arith)) e in
            let r : most - taken ≡ suc (most - (taken + 1)) = omega arith in
            record {
              room = omega arith;
              rest =
                  ap (λ (x : ℕ). walk k (most - (taken + 1)) (take (taken + 1) (set list taken at)) at x) en
                  ∙ ap (λ (x : List ℕ). walk k (most - (taken + 1)) x at (k.next at)) acc
                  ∙ sym (walk_next k (take taken list) holder at n (most - (taken + 1)) l f)
                  ∙ ap (λ (x : ℕ). walk k x (take taken list) holder at) (sym r)
                  ∙ g.rest;
              marking = λ c.
                  mark_more k.before marks (take taken list) at g.marking (omega (arith, g.marks_length)) c
                  ∙ ap (λ (x : List ℕ). k.before c || member x c) (sym acc);
              held = b;
              list_length = length-set list taken at ∙ g.list_length;
              marks_length = length-set marks at true ∙ g.marks_length;
            }
