-- The first person of a class as its label; c gives the class of each person. Assumes nothing.
use mathlib.Core.List.{List}
use mathlib.Core.Path.{◌≡◌, refl, sym, subst, ap, ◌∙◌}
use Prim.Native.Nat.{ℕ, ◌%◌, ◌<◌}
use native.Mathlib.Omega.{arith}
use lib.Dec.{eqb}
use lib.ListN.{get_or}
use borrow.Author.Tests.{eqb-true, eq-eqb}
use Rattle.bits.specs.Set.{Lowest}
use Rattle.bits.proofs.Below.{true-false, first_unique}
use Rattle.bits.proofs.Counting.{is_false}
use Rattle.bits.proofs.SetLaws.{zero_empty}
use Rattle.pattern.specs.Number.{first_use}
use Rattle.pattern.specs.Rule.{level_in}
use Rattle.pattern.specs.declared.Size.{Size}
use Rattle.pattern.specs.Given.{Given}
use Rattle.eligible.specs.Classes.{Crowd, OneLevel, Grouped, RuleAt}

module _ (people : ℕ) (c : ℕ → ℕ) where
  -- the lowest of a class's people names it
  pub lowest_name : {p mask m : ℕ} → Crowd people c p mask → Lowest mask m → m ≡ first_use people c p
  unfolding first_use
  lowest_name {p} {mask} {m} w low =
      let o = w.only m low.has in
      sym (first_unique people (λ x. eqb (c x) (c p)) m (omega (arith, o.0)) (λ l. eq-eqb (c m) (c p) o.1)
      (λ k l. is_false _ (λ t. true-false (w.has k (omega (arith, o.0)) (eqb-true (c k) (c p) t)) (low.before k l))))

  -- so it is where the mask of each class is known, and one of so many people has it
  pub mask_name : Grouped people c → {p mask m : ℕ} → p < people → mask ≡ c (p % 64) → ((mask ≡ 0 → ⊥) → Lowest mask m) → m ≡ first_use people c p
  mask_name g {p} {mask} {m} l its low =
      let small : p % 64 ≡ p = omega (arith, g.few) in
      let is : mask ≡ c p = its ∙ ap c small in
      let w = g.each p l in
      lowest_name w (subst (λ (x : ℕ). Lowest x m) is (low (λ e. true-false (w.has p l refl) (zero_empty (c p) (sym is ∙ e) p))))

-- the table of a job has the classes that its rules are about
module _ {size : Size} {crowd rule : List ℕ} (given : Given size crowd rule) (i : ℕ) (l : i < size.rules) where
  -- the level of a rule
  pub level_of_lem : OneLevel crowd (level_in (get_or rule i 0))
  level_of_lem =
      let ok = given.ruled.rule_ok i l in
      record { sized = given.crowds.sized; from = ok.from; to = omega (arith, given.ruled.few_levels, ok.to) }

  -- the table has the classes of that level
  pub rule_at : RuleAt size crowd (get_or rule i 0)
  rule_at =
      let ok = given.ruled.rule_ok i l in
      record {
        few_steps = given.ruled.few_steps;
        scoped = given.ruled.scopes i l;
        grouped = record {
          few = given.few_people;
          each = λ p m.
              record {
                has = λ p' k e. given.crowds.has _ p p' ok.from ok.to m k e;
                only = λ p' h. given.crowds.only _ p p' ok.from ok.to m h;
              };
        };
      }
