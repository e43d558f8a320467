-- The tests that follow the chains, as `checked` has them. Assumes nothing.
use mathlib.Core.Bool.{Bool}
use mathlib.Core.List.{List}
use mathlib.Core.Path.{◌≡◌}
use Prim.Native.Nat.{ℕ, ◌<◌}
use lib.Dec.{ltb}
use lib.ListN.{length}
use Rattle.bits.proofs.Below.{first_cong}
use Rattle.bits.proofs.Counting.{any_cong}
use Rattle.card.specs.Refusals.{tag_fault, class_fault, loose_fault}
use Rattle.sheet.specs.Read.{job, unless, unless_at, checked, on_three, first_clash, first_loose, same_tag, class_moved}

-- a clash depends on the pairs below the bound alone
pub clash_cong : (n : ℕ) (f g : ℕ → ℕ → Bool) → ((j k : ℕ) → j < k → k < n → f j k ≡ g j k) → first_clash n f ≡ first_clash n g
unfolding first_clash
clash_cong n f g h = first_cong n _ _ (λ k l. any_cong k _ _ (λ j m. h j k m l))

-- the tests of `checked` one after the other, by what the four searches give
module _ (s : List ℕ) (n : ℕ) (people steps rules : List ℕ) {i j k c : ℕ}
    (is-i : i ≡ first_clash (length people) (same_tag s people)) (is-j : j ≡ first_clash (length steps) (same_tag s steps))
    (is-k : k ≡ first_clash (length people) (class_moved s people)) (is-c : c ≡ first_loose n (on_three people steps rules)) where
  pub in_turn : unless_at people i tag_fault (unless_at steps j tag_fault (unless_at people k class_fault (unless (ltb c n) loose_fault c (job people steps rules))))
      ≡ checked s n people steps rules
  unfolding checked
  in_turn = λ t. unless_at people (is-i t) tag_fault (unless_at steps (is-j t) tag_fault (unless_at people (is-k t) class_fault
      (unless (ltb (is-c t) n) loose_fault (is-c t) (job people steps rules))))
