-- What the reader knows when one more chain has been walked. Assumes nothing.
use mathlib.Core.Bool.{Bool, false, ◌||◌}
use mathlib.Core.List.{List, []}
use mathlib.Core.Path.{◌≡◌, refl, sym, ◌∙◌, ap, fun_ext}
use Prim.Native.Nat.{ℕ, zero, suc, ◌*◌, ◌<◌, ◌≤◌}
use native.Mathlib.Omega.{arith}
use lib.ListN.{length, get_or, take, replicate}
use lib.Seq.{length-take-le}
use Rattle.bits.specs.Member.{member}
use Rattle.bits.specs.Sizes.{most_class_levels}
use Rattle.card.specs.Fields.{class_levels}
use Rattle.chain.specs.Walk.{listed, refused, walk}
use Rattle.chain.specs.Answer.{Walks, as_walked, chain_of, marked, listed_count}
use Rattle.std.specs.Prelude.{Result, Ok, Err}
use Rattle.card.specs.Refusals.{fault_number}
use Rattle.card.specs.declared.refusal.Refusal.{Refusal}
use Rattle.chain.proofs.Chained.{walk_chained}
use Rattle.sheet.specs.Cards.{Listing, Marking}

module _ {s : List ℕ} {cards : ℕ} (kind steps : ℕ) {most first : ℕ} {marks₀ : List Bool} {reached : ℕ → Bool} (m : Marking s cards marks₀ reached) (fits : most ≤ 64)
    {start : ℕ} (starts : first ≡ start) {ended : Result ℕ Refusal} {marks : List Bool} {list : List ℕ}
    (w : Walks most (walk (chain_of s cards kind steps (marked marks₀)) most [] 0 first) ended (marked marks₀) marks list) where
  -- the walk over the marks is the walk over the cards reached
  walk_reached : walk (chain_of s cards kind steps (marked marks₀)) most [] 0 first ≡ walk (chain_of s cards kind steps reached) most [] 0 start
  walk_reached =
      ap (λ (b : ℕ → Bool). walk (chain_of s cards kind steps b) most [] 0 first) (fun_ext m.so_far)
      ∙ ap (λ (i : ℕ). walk (chain_of s cards kind steps reached) most [] 0 i) starts

  pub stage_refused : {r : Refusal} → ended ≡ Err r → walk (chain_of s cards kind steps reached) most [] 0 start ≡ refused (fault_number r.fault) r.card
  stage_refused e = sym walk_reached ∙ sym w.answer ∙ ap (λ (x : Result ℕ Refusal). as_walked x list) e

  module _ {n : ℕ} (e : ended ≡ Ok n) where
    pub stage_listed : walk (chain_of s cards kind steps reached) most [] 0 start ≡ listed (take n list)
    stage_listed = sym walk_reached ∙ sym w.answer ∙ ap (λ (x : Result ℕ Refusal). as_walked x list) e

    pub stage_count : n ≤ most
    stage_count =
        let c : listed_count ended ≤ most = w.counted in
        let d : listed_count ended ≡ n = ap listed_count e in omega arith

    -- so many cards are listed
    pub stage_length : length (take n list) ≡ n
    stage_length = let c = stage_count in let z = w.list_length in length-take-le n list (omega arith)

    pub stage_listing : Listing s (take n list)
    stage_listing =
        let c = stage_count in let d = stage_length in
        record {
          fits = omega arith;
          inside = λ k h.
              let i = (walk_chained (chain_of s cards kind steps reached) start most (take n list) stage_listed).inside k h in
              let b = m.whole in omega arith;
        }

    pub stage_marking : Marking s cards marks (λ c. reached c || member (take n list) c)
    stage_marking =
        record {
          some = m.some;
          most = m.most;
          whole = m.whole;
          levels = m.levels;
          size = w.marks_length;
          so_far = λ c. w.marking (take n list) (walk_reached ∙ stage_listed) c ∙ ap (λ (b : Bool). b || member (take n list) c) (m.so_far c);
        }

-- before any chain no card is marked
pub nothing_marked : (s : List ℕ) (cards : ℕ) → 0 < cards → cards ≤ 141 → 16 * cards ≤ length s → class_levels s ≤ most_class_levels
    → Marking s cards (replicate 141 false) (λ c. false)
nothing_marked s cards l m w few =
    record { some = l; most = m; whole = w; levels = few; size = refl; so_far = λ c. none_set 141 c }
  where
    none_set : (n c : ℕ) → get_or (replicate n false) c false ≡ false
    none_set zero c = refl
    none_set (suc n) zero = refl
    none_set (suc n) (suc c) = none_set n c
