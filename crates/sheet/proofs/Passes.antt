-- A sheet that was read has passed every test on the way. Assumes nothing.
use mathlib.Core.Bool.{Bool, true, false, not}
use mathlib.Core.List.{List}
use mathlib.Core.Path.{◌≡◌, refl, subst}
use Prim.Native.Nat.{ℕ, ◌/◌, ◌≤◌}
use native.Mathlib.Omega.{arith}
use lib.Dec.{eqb, ltb}
use lib.ListN.{length}
use borrow.Author.Tests.{eqb-false, ltb-false, not-false}
use Rattle.card.specs.Fields.{header_ok}
use Rattle.chain.specs.Walk.{Walked, listed, refused}
use Rattle.sheet.specs.Read.{Read, job, along, unless, length_ok, checked, steps_read, people_read, read_people, read_sheet}
use Rattle.sheet.specs.Read.{first_clash, first_late, first_loose, same_tag, class_moved, on_three, people_walk, steps_walk, rules_walk}

-- a test that was passed: it did not refuse, and the rest gives the same
unless_job : (t : Bool) (f c : ℕ) (r : Read) (people steps rules : List ℕ) → unless t f c r ≡ job people steps rules → (t ≡ false) × (r ≡ job people steps rules)
unless_job true f c r people steps rules e = let z : ◌≡◌ {A = ℕ} 0 1 = cc in absurd (omega arith)
unless_job false f c r people steps rules e = (refl, e)

-- a chain that was listed
record Listed (w : Walked) (next : List ℕ → Read) (r : Read) : Type 0 where
  list : List ℕ
  walked : w ≡ listed list
  on : next list ≡ r

along_listed : (w : Walked) (next : List ℕ → Read) (people steps rules : List ℕ) → along w next ≡ job people steps rules → Listed w next (job people steps rules)
along_listed (listed l) next people steps rules e = record { list = l; walked = refl; on = e }
along_listed (refused f c) next people steps rules e = let z : ◌≡◌ {A = ℕ} 0 1 = cc in absurd (omega arith)

-- what every test said
pub record Passes (s : List ℕ) (n : ℕ) (people steps rules : List ℕ) : Type 0 where
  pub people_walk_lem : people_walk s n ≡ listed people
  pub people_some : length people ≡ 0 → ⊥
  pub steps_walk_lem : steps_walk s n people ≡ listed steps
  pub steps_some : length steps ≡ 0 → ⊥
  pub no_late : length people ≤ first_late s (length steps) people
  pub rules_walk_lem : rules_walk s n people steps (length steps) ≡ listed rules
  pub people_tags : length people ≤ first_clash (length people) (same_tag s people)
  pub steps_tags : length steps ≤ first_clash (length steps) (same_tag s steps)
  pub classes : length people ≤ first_clash (length people) (class_moved s people)
  pub no_loose : n ≤ first_loose n (on_three people steps rules)

module _ (s : List ℕ) (n : ℕ) (people' steps' rules' : List ℕ) where
  checked_job : (people steps rules : List ℕ) → checked s n people steps rules ≡ job people' steps' rules'
      → (length people ≤ first_clash (length people) (same_tag s people))
      × (length steps ≤ first_clash (length steps) (same_tag s steps))
      × (length people ≤ first_clash (length people) (class_moved s people))
      × (n ≤ first_loose n (on_three people steps rules))
      × (job people steps rules ≡ job people' steps' rules')
  unfolding checked
  checked_job people steps rules e =
      let i = first_clash (length people) (same_tag s people) in
      let k = first_clash (length steps) (same_tag s steps) in
      let b = first_clash (length people) (class_moved s people) in
      let c = first_loose n (on_three people steps rules) in
      let p₁ = unless_job (ltb i (length people)) _ _ _ people' steps' rules' e in
      let p₂ = unless_job (ltb k (length steps)) _ _ _ people' steps' rules' p₁.1 in
      let p₃ = unless_job (ltb b (length people)) _ _ _ people' steps' rules' p₂.1 in
      let p₄ = unless_job (ltb c n) _ _ _ people' steps' rules' p₃.1 in
      (ltb-false _ _ p₁.0, ltb-false _ _ p₂.0, ltb-false _ _ p₃.0, ltb-false _ _ p₄.0, p₄.1)

  passes : read_people s n ≡ job people' steps' rules' → Passes s n people' steps' rules'
  unfolding read_people people_read steps_read
  passes e =
      let a = along_listed _ (λ people. people_read s n people) people' steps' rules' e in
      let p = a.list in
      let a₁ = unless_job (eqb (length p) 0) _ _ _ people' steps' rules' a.on in
      let b = along_listed _ (λ steps. steps_read s n p steps) people' steps' rules' a₁.1 in
      let t = b.list in
      let b₁ = unless_job (eqb (length t) 0) _ _ _ people' steps' rules' b.on in
      let b₂ = unless_job (ltb (first_late s (length t) p) (length p)) _ _ _ people' steps' rules' b₁.1 in
      let d = along_listed _ (λ rules. checked s n p t rules) people' steps' rules' b₂.1 in
      let r = d.list in
      let c = checked_job p t r d.on in
      let all : Passes s n p t r
      = record {
        people_walk_lem = a.walked;
        people_some = eqb-false _ _ a₁.0;
        steps_walk_lem = b.walked;
        steps_some = eqb-false _ _ b₁.0;
        no_late = ltb-false _ _ b₂.0;
        rules_walk_lem = d.walked;
        people_tags = c.0;
        steps_tags = c.1;
        classes = c.2;
        no_loose = c.3;
      } in
      same p t r c.4 all
    where
      same : (p t r : List ℕ) → job p t r ≡ job people' steps' rules' → Passes s n p t r → Passes s n people' steps' rules'
      same p t r e h =
          let x : p ≡ people' = cc in let y : t ≡ steps' = cc in let z : r ≡ rules' = cc in
          subst (λ (q : List ℕ). Passes s n q steps' rules') x (subst (λ (q : List ℕ). Passes s n p q rules') y (subst (λ (q : List ℕ). Passes s n p t q) z h))

-- a sheet that was read has a good length and header, and has passed the rest
pub record PassesAll (s people steps rules : List ℕ) : Type 0 where
  pub good_length : length_ok (length s) ≡ true
  pub good_header : header_ok s (length s / 16) ≡ true
  pub rest : Passes s (length s / 16) people steps rules

pub sheet_passes : (s people steps rules : List ℕ) → read_sheet s ≡ job people steps rules → PassesAll s people steps rules
unfolding read_sheet
sheet_passes s people steps rules e =
    let a = unless_job (not (length_ok (length s))) _ _ _ people steps rules e in
    let b = unless_job (not (header_ok s (length s / 16))) _ _ _ people steps rules a.1 in
    record { good_length = not-false _ a.0; good_header = not-false _ b.0; rest = passes s (length s / 16) people steps rules b.1 }
