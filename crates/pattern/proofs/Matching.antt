-- Lemma 3.9 of document 004, for any number of levels: S can go to C exactly where the groups of S can be matched with classes of C.
-- Assumes nothing.
use mathlib.Core.Bool.{Bool, true}
use mathlib.Core.Path.{◌≡◌, sym, ◌∙◌}
use Prim.Native.Nat.{ℕ, suc, ◌<◌}
use native.Mathlib.Omega.{arith}
use Rattle.workflow.specs.Problem.{Job, May}
use Rattle.workflow.specs.Independent.{Alike, classes_of}
use Rattle.pattern.specs.Pattern.{Label, Labelled, Consistent, Refining}
use Rattle.pattern.specs.Realize.{Realized, fibre, groups, Hosts, Matching}
use Rattle.pattern.proofs.Sets.{fibre_of, fibre_in, fibre_at, groups_in_lem, groups_own, alike_part}
use Rattle.pattern.proofs.Realize.{realized-glue}

-- a matching along some edges is one along others that are there too
pub matching_map : (n : ℕ) (group : ℕ → Bool) (E E' : ℕ → ℕ → Type 0) (f : ℕ → ℕ)
    → ((g v : ℕ) → g < n → group g ≡ true → E g v → E' g v) → Matching n group E f → Matching n group E' f
matching_map n group E E' f h m = record { along = λ g l i. h g (f g) l i (m.along g l i); injective = m.injective }

module _ (j : Job) (may : May) (label : Label) (q : ℕ) (deep : q < j.levels) (S C : ℕ → Bool) where
  -- from a plan: the class of a group is that of its first step
  pub realized_match : Realized j may label q S C → (f : ℕ → ℕ) × Matching j.steps (groups S (label (suc q))) (Hosts j may label q S C) f
  realized_match (π, r) = (λ g. k (π g), record { along = hosts; injective = differ })
    where
      c : ℕ → ℕ
      c = label (suc q)

      k : ℕ → ℕ
      k = j.class (suc q)

      now : Alike j.steps S (classes_of j (suc q) π) c
      now = r.alike (suc q) (omega arith) deep

      hosts : (g : ℕ) → g < j.steps → groups S c g ≡ true → Hosts j may label q S C g (k (π g))
      hosts g l h = (
        π,
        record {
          within = λ s m n. r.within s m (fibre_in S c g s n);
          inside = λ s m n.
              fibre_of C k _ (π s) (r.inside s m (fibre_in S c g s n))
              (now.back s g m l (fibre_in S c g s n) (groups_in_lem S c g h) (fibre_at S c g s n ∙ sym (groups_own S c g h)));
          authorised = λ s m n. r.authorised s m (fibre_in S c g s n);
          alike = λ x a b. alike_part j.steps (fibre S c g) S _ _ (λ s m n. fibre_in S c g s n) (r.alike x (omega arith) b);
        },
      )

      differ : (g g' : ℕ) → g < j.steps → g' < j.steps → groups S c g ≡ true → groups S c g' ≡ true → k (π g) ≡ k (π g') → g ≡ g'
      differ g g' l l' h h' e =
          sym (groups_own S c g h) ∙ now.forth g g' l l' (groups_in_lem S c g h) (groups_in_lem S c g' h') e ∙ groups_own S c g' h'

  -- from a matching: glue the plans of the groups
  pub match_realized : Refining j → Consistent j.steps j.levels S label → Labelled j.steps S (label (suc q)) → (f : ℕ → ℕ)
      → Matching j.steps (groups S (label (suc q))) (Hosts j may label q S C) f → Realized j may label q S C
  match_realized refining consistent lab f m =
      realized-glue j may label q deep S C f refining consistent lab m.injective m.along
