-- Which test a card's kind chooses. Assumes nothing.
use mathlib.Core.Path.{◌≡◌}
use mathlib.Core.List.{List}
use Prim.Native.Nat.{ℕ}
use borrow.Author.Tests.{eq-eqb, ne_eqb}
use Rattle.card.specs.Layout.{person_kind, step_kind}
use Rattle.card.specs.Fields.{person_ok, step_ok, rule_ok, fields_ok}

module _ (s : List ℕ) (steps kind c : ℕ) where
  pub fields_person : kind ≡ person_kind → fields_ok s steps kind c ≡ person_ok s c
  unfolding fields_ok
  fields_person p = rw (eq-eqb _ _ p)

  pub fields_step : (kind ≡ person_kind → ⊥) → kind ≡ step_kind → fields_ok s steps kind c ≡ step_ok s c
  unfolding fields_ok
  fields_step n p = rw (ne_eqb _ _ n, eq-eqb _ _ p)

  pub fields_rule : (kind ≡ person_kind → ⊥) → (kind ≡ step_kind → ⊥) → fields_ok s steps kind c ≡ rule_ok s steps c
  unfolding fields_ok
  fields_rule n m = rw (ne_eqb _ _ n, ne_eqb _ _ m)
