-- What the code's answer for a chain means, and what it leaves in the marks. Assumes nothing.
use Rattle.std.specs.Prelude.{Option, Some, None, Result, Ok, Err, Bool, false, ◌||◌, List, ◌≡◌, ℕ, ◌≤◌, eqb, length, get_or, take}
use Rattle.bits.specs.Member.{member}
use Rattle.card.specs.Layout.{kind_of, next_of}
use Rattle.card.specs.Fields.{fields_ok}
use Rattle.card.specs.Refusals.{fault_number}
use Rattle.card.specs.declared.refusal.Fault.{Fault}
use Rattle.card.specs.declared.refusal.Refusal.{Refusal}
use Rattle.chain.specs.Walk.{Walked, listed, refused, Chain}

-- the chain of a kind in a sheet of some cards, where before says which cards earlier chains have reached
abbrev pub chain_of : List ℕ → ℕ → ℕ → ℕ → (ℕ → Bool) → Chain
chain_of s cards kind steps before =
    record {
      cards = cards;
      mine = λ c. eqb (kind_of s c) kind;
      fields = fields_ok s steps kind;
      next = next_of s;
      before = before;
    }

abbrev pub marked : List Bool → ℕ → Bool
marked marks c = get_or marks c false

-- the answer together with the array of cards
abbrev pub as_walked : Result ℕ Refusal → List ℕ → Walked
as_walked (Ok n) list = listed (take n list)
as_walked (Err r) list = refused (fault_number r.fault) r.card

-- how many cards an answer lists
abbrev pub listed_count : Result ℕ Refusal → ℕ
listed_count (Ok n) = n
listed_count (Err r) = 0

-- the number of the fault that a card was found to have, 0 for none
abbrev pub fault_found : Option Fault → ℕ
fault_found None = 0
fault_found (Some f) = fault_number f

-- what a walk for at most some cards promises of its answer and of the arrays that it leaves; before says which cards were marked
pub record Walks (most : ℕ) (w : Walked) (r : Result ℕ Refusal) (before : ℕ → Bool) (marks : List Bool) (list : List ℕ) : Type 0 where
  pub counted : listed_count r ≤ most
  pub answer : as_walked r list ≡ w
  -- where the chain was read, its cards are marked besides those that were
  pub marking : (l : List ℕ) → w ≡ listed l → (c : ℕ) → marked marks c ≡ (before c || member l c)
  pub list_length : length list ≡ 64
  pub marks_length : length marks ≡ 141
