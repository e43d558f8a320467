-- The members of a group as a set, and the kept plans that do without all of them. Assumes nothing.
use mathlib.Core.Bool.{Bool, false, ◌||◌}
use mathlib.Core.List.{List, [], ◌∷◌, ◌++◌}
use mathlib.Core.Path.{◌≡◌, sym, subst, ap, ◌∙◌}
use Prim.Native.Nat.{ℕ, ◌+◌, ◌≤◌, ◌<◌}
use native.Mathlib.Omega.{arith}
use native.Mathlib.Nat.{not-suc-le-zero}
use native.Mathlib.Numerals.{add-one}
use lib.Bits.{bit_and}
use lib.ListN.{length, get_or, take}
use lib.Seq.{take-suc, length-take-le}
use lib.Dec.{eqb}
use Rattle.bits.specs.Word.{has_bit}
use Rattle.bits.specs.Set.{Added}
use Rattle.bits.specs.Member.{member}
use Rattle.bits.proofs.Below.{below_suc}
use Rattle.bits.proofs.Member.{member-snoc, member_place}
use Rattle.bits.proofs.SetLaws.{empty_lacks, and-bit_left, and-bit_right}
use Rattle.workflow.proofs.Lists.{length-snoc, snoc_before, snoc_at}
use Rattle.std.proofs.lemmas.List.{take_all}
use Rattle.resiliency.specs.Group.{members_in, Sized, Masking, Suiting}
use Rattle.resiliency.specs.declared.group.Group.{Group}
use Rattle.resiliency.specs.Known.{Known, Suits}
use Rattle.workflow.specs.Problem.{Job, May}

-- one more of the items
next_item : (xs : List ℕ) (k : ℕ) → k < length xs → take (k + 1) xs ≡ take k xs ++ get_or xs k 0 ∷ []
next_item xs k l = rw add-one (take-suc xs k 0 l)

pub masking_none : (xs : List ℕ) → Masking (take 0 xs) 0
unfolding member
masking_none xs = record { each = λ q. empty_lacks q }

pub masking_more : (xs : List ℕ) (k set set' : ℕ) → k < length xs → Masking (take k xs) set → Added set (get_or xs k 0) set'
    → Masking (take (k + 1) xs) set'
masking_more xs k set set' l m a =
    record {
      each = λ q.
          a.each q ∙ ap (λ (b : Bool). b || eqb q (get_or xs k 0)) (m.each q)
          ∙ sym (ap (λ (ys : List ℕ). member ys q) (next_item xs k l) ∙ member-snoc (take k xs) (get_or xs k 0) q);
    }

pub suiting_none : (known xs : List ℕ) (word : ℕ) → Suiting known (take 0 xs) word
suiting_none known xs word = record { each = λ i k h l. absurd (not-suc-le-zero l) }

-- one member more, and of the plans those that do without that person too
pub suiting_snoc : (known xs : List ℕ) (p word : ℕ) → Suiting known xs word → Suiting known (xs ++ p ∷ []) (bit_and word (get_or known p 0))
suiting_snoc known xs p word s =
    record {
      each = λ i m h b.
          below_suc (length xs) m (subst (λ (z : ℕ). m < z) (length-snoc xs p) b)
          (λ c. rw (snoc_before xs p m c) (s.each i m (and-bit_left word _ i h) c))
          (λ e. rw (e, snoc_at xs p) (and-bit_right word (get_or known p 0) i h));
    }

pub few_snoc : (xs : List ℕ) (p : ℕ) → ((k : ℕ) → k < length xs → get_or xs k 0 < 64) → p < 64
    → (k : ℕ) → k < length (xs ++ p ∷ []) → get_or (xs ++ p ∷ []) k 0 < 64
few_snoc xs p few l k b =
    below_suc (length xs) k (subst (λ (z : ℕ). k < z) (length-snoc xs p) b) (λ c. rw (snoc_before xs p k c) (few k c)) (λ e. rw (e, snoc_at xs p) l)

pub suiting_more : (known xs : List ℕ) (k word : ℕ) → k < length xs → Suiting known (take k xs) word
    → Suiting known (take (k + 1) xs) (bit_and word (get_or known (get_or xs k 0) 0))
suiting_more known xs k word l s = rw (next_item xs k l) (suiting_snoc known (take k xs) (get_or xs k 0) word s)

-- all items
pub whole : (P : List ℕ → Type 0) (xs : List ℕ) (k : ℕ) → length xs ≤ k → P (take k xs) → P xs
whole P xs k l p = subst P (take_all k xs l) p

-- the kept plans of the word do without everyone of the set
pub suits_group : {j : Job} {may : May} {known plans : List ℕ} → Known j may known plans → (xs : List ℕ) (set word : ℕ)
    → ((k : ℕ) → k < length xs → get_or xs k 0 < 64) → Masking xs set → Suiting known xs word → Suits word plans set
suits_group {plans = plans} k xs set word few m s =
    record {
      each = λ i p b w h.
          let at = member_place xs p (sym (m.each p) ∙ h) in
          subst (λ (q : ℕ). has_bit (get_or plans i 0) q ≡ false) at.2 (k.spares i (get_or xs at.0 0) b (few at.0 at.1) (s.each i at.0 w at.1));
    }

-- the members are as many as the size says
pub members_count : (g : Group) → Sized g → length (members_in g) ≡ g.size
members_count g s = length-take-le g.size g.member (let r = s.room in let f = s.few in omega arith)
