-- What the calls keep of a job, whatever its history: the sheet that it holds, who has signed, and its count. Assumes nothing.
use mathlib.Core.Bool.{Bool, true, cond}
use mathlib.Core.List.{List, [], ◌∷◌}
use mathlib.Core.Logic.{◌↔◌, ◌⊎◌, inl, inr, ⊎_elim}
use mathlib.Core.Path.{◌≡◌, refl, sym, ◌∙◌, ap, subst}
use Prim.Native.Nat.{ℕ, suc, ◌+◌, ◌*◌, ◌≤◌, ◌<◌, min}
use native.Mathlib.Omega.{arith}
use lib.Dec.{eqb, ltb}
use lib.ListN.{length, get_or, set, length-set}
use lib.Seq.{get_or-set_same, get_or-set_other}
use borrow.Author.Tests.{eq-eqb, ne_eqb, eqb-true, eqb-false, ltb-true, ltb-false}
use Rattle.bits.proofs.Below.{by_cases}
use Rattle.card.specs.Fields.{tag_of}
use Rattle.sheet.proofs.InOrder.{length_right}
use Rattle.sheet.proofs.Passes.{sheet_passes}
use Rattle.sheet.proofs.Readable.{readable_job, sheet_levels}
use Rattle.sheet.specs.Answer.{zeros}
use Rattle.sheet.specs.Faults.{cards_in}
use Rattle.sheet.specs.Read.{job, read_sheet}
use Rattle.remaining.proofs.KeptLaws.{kept_below_lem, kept_ordered, kept_few}
use Rattle.remaining.proofs.Laws.{steps_left-length, steps_left_at}
use Rattle.remaining.specs.Remaining.{skipped_at, kept_of, kept_at, steps_left}
use Rattle.workflow.specs.Problem.{Satisfiable}
use Rattle.instance.specs.Instance.{instance_in, may_do}
use Rattle.signing.proofs.Cases.{sign_cases, sign_nothing}
use Rattle.signing.proofs.Holding.{held_never, held-opened}
use Rattle.signing.proofs.OpenCases.{open_cases}
use Rattle.signing.proofs.Opening.{zero_at}
use Rattle.signing.specs.Bound.{is_open_lem}
use Rattle.signing.specs.Cases.{Names, CanFinish, OpenCase, unreadable, planless, done, SignCase, unknown, signed, ungranted, given}
use Rattle.signing.specs.Open.{open_answer}
use Rattle.signing.specs.Sign.{most_refusals, counted, refused_signing, granted, sign_answer}
use Rattle.signing.specs.State.{Answered, never_opened, held, opened}
use Rattle.signing.specs.declared.JobState.{JobState}
use Rattle.fulmarinvar.specs.Demands.{JobOfCards}
use Rattle.fulmarinvar.specs.History.{Event, opening, signing, History, NeverOpened, last_opened, Granted, refused_count}
use Rattle.fulmarinvar.specs.Promise.{OpenPromise, SignPromise}
use Rattle.fulmarinvar.proofs.Ending.{reader_refusal}
use Rattle.fulmarinvar.proofs.SheetDemand.{jobs_of_cards}

-- the signers are those granted, and the job can still be finished
pub record Kept (h : List Event) (s people steps rules : List ℕ) (signer : List ℕ) : Type 0 where
  pub matches : (t p : ℕ) → t < length (steps_left s steps) → p < length people
      → (get_or signer t 0 ≡ suc p) ↔ Granted h (tag_of s (get_or (steps_left s steps) t 0)) (tag_of s (get_or people p 0))
  pub each : (t : ℕ) → t < length (steps_left s steps) → (get_or signer t 0 ≡ 0) ⊎ ((p : ℕ) × (p < length people) × (get_or signer t 0 ≡ suc p))
  pub beyond : (t : ℕ) → length (steps_left s steps) ≤ t → get_or signer t 0 ≡ 0
  pub named : (a b : ℕ) → Granted h a b → (t : ℕ) × (p : ℕ) × Names s (steps_left s steps) a t × Names s people b p
  pub finish : CanFinish s people steps rules signer

pub data Standing (h : List Event) (signer : List ℕ) : Type 0 where
  never : NeverOpened h → last_opened h ≡ [] → ((a b : ℕ) → Granted h a b → ⊥) → Standing h signer
  working : (people steps rules : List ℕ) → read_sheet (last_opened h) ≡ job people steps rules → Kept h (last_opened h) people steps rules signer → Standing h signer

pub record Stands (h : List Event) (j : JobState) : Type 0 where
  pub holds : held j ≡ last_opened h
  pub sized : length j.signer ≡ 12
  pub count : j.refusals ≡ min (refused_count h) most_refusals
  pub standing : Standing h j.signer

-- ---- all bytes zero

stands_never : Stands [] never_opened
unfolding last_opened refused_count
stands_never = record { holds = held_never; sized = refl; count = refl; standing = never tt refl (λ a b g. g) }

-- ---- where nothing is opened and nothing granted

standing_like : (h h' : List Event) (signer : List ℕ) → last_opened h' ≡ last_opened h → (NeverOpened h → NeverOpened h')
    → ((a b : ℕ) → Granted h' a b ↔ Granted h a b) → Standing h signer → Standing h' signer
standing_like h h' signer e unopened same (never o d none-granted) = never (unopened o) (e ∙ d) (λ a b g. none-granted a b ((same a b).0 g))
standing_like h h' signer e unopened same (working people steps rules r k) =
    working people steps rules (ap read_sheet e ∙ r)
    (subst (λ (s : List ℕ). Kept h' s people steps rules signer) (sym e)
    (record {
      matches = λ t p l m. let w = k.matches t p l m in (λ x. (same _ _).1 (w.0 x), λ x. w.1 ((same _ _).0 x));
      each = k.each;
      beyond = k.beyond;
      named = λ a b g. k.named a b ((same a b).0 g);
      finish = k.finish;
    }))

stands_unopened : (h : List Event) (i : JobState) (s : List ℕ) (n : ℕ) → (n ≡ 0 → ⊥) → Stands h i → Stands (opening s n ∷ h) i
unfolding last_opened refused_count
stands_unopened h i s n z w =
    let e = ne_eqb n 0 z in
    let last = ap (λ (b : Bool). cond b s (last_opened h)) e in
    record {
      holds = w.holds ∙ sym last;
      sized = w.sized;
      count = w.count ∙ sym (ap (λ (b : Bool). min (cond b 0 (refused_count h)) most_refusals) e);
      standing = standing_like h (opening s n ∷ h) i.signer last (λ o. (z, o)) (λ a b. (λ g. g.1, λ g. (z, g))) w.standing;
    }

counted-min : (r : ℕ) → counted (min r most_refusals) ≡ min (suc r) most_refusals
counted-min r =
    by_cases (ltb (min r most_refusals) most_refusals)
    (λ t. let l = ltb-true (min r most_refusals) most_refusals t in ap (λ (b : Bool). cond b (suc (min r most_refusals)) (min r most_refusals)) t ∙ (omega arith))
    (λ t. let l = ltb-false (min r most_refusals) most_refusals t in ap (λ (b : Bool). cond b (suc (min r most_refusals)) (min r most_refusals)) t ∙ (omega arith))

stands_refused : (h : List Event) (i : JobState) (a b n f : ℕ) → (n ≡ 0 → ⊥) → Stands h i → Stands (signing a b n ∷ h) (refused_signing f i).job
unfolding last_opened refused_count held
stands_refused h i a b n f z w =
    record {
      holds = w.holds;
      sized = w.sized;
      count =
          ap counted w.count ∙ counted-min (refused_count h)
          ∙ sym (ap (λ (b : Bool). min (cond b (refused_count h) (suc (refused_count h))) most_refusals) (ne_eqb n 0 z));
      standing = standing_like h (signing a b n ∷ h) i.signer refl (λ o. o) (λ x y. (λ g. ⊎_elim (λ e. absurd (z e.0)) (λ e. e) g, inr)) w.standing;
    }

-- ---- an opening

module _ (s people steps rules : List ℕ) (r : read_sheet s ≡ job people steps rules) where
  fits : length s ≤ 2256
  fits = (length_right (length s) (sheet_passes s people steps rules r).good_length).2

  pub few_steps : length (steps_left s steps) ≤ 12
  few_steps =
      omega (
        arith,
        steps_left-length s steps,
        kept_few (skipped_at s steps) (length steps),
        (readable_job s people steps rules (cards_in s) (sheet_passes s people steps rules r).rest (sheet_levels s people steps rules r)).steps_most,
      )

  stands_opened : (h : List Event) (n : ℕ) → n ≡ 0 → Satisfiable (instance_in s people steps rules) (may_do s people steps rules) → Stands (opening s n ∷ h) (opened s)
  unfolding last_opened refused_count opened
  stands_opened h n z w =
      let e = eq-eqb n 0 z in
      let last = ap (λ (b : Bool). cond b s (last_opened h)) e in
      record {
        holds = held-opened s fits ∙ sym last;
        sized = refl;
        count = sym (ap (λ (b : Bool). min (cond b 0 (refused_count h)) most_refusals) e);
        standing =
            working people steps rules (ap read_sheet last ∙ r)
            (subst (λ (x : List ℕ). Kept (opening s n ∷ h) x people steps rules (zeros 12)) (sym last)
            (record {
              matches = λ t p l m. (λ x. absurd (omega (arith, zero_at 12 t, x)), λ g. absurd (g.0 z));
              each = λ t l. inl (zero_at 12 t);
              beyond = λ t l. zero_at 12 t;
              named = λ a b g. absurd (g.0 z);
              finish = (w.0, w.1, λ t l c. absurd (c (eq-eqb (get_or (zeros 12) t 0) 0 (zero_at 12 t))));
            }));
      }

  -- ---- a grant

  cards : JobOfCards s people steps rules
  cards = jobs_of_cards s people steps rules r

  same_place : (cards : List ℕ) → ((t u : ℕ) → t < u → u < length cards → tag_of s (get_or cards t 0) ≡ tag_of s (get_or cards u 0) → ⊥)
      → (a t u : ℕ) → Names s cards a t → Names s cards a u → t ≡ u
  same_place cards differ a t u x y =
      by_cases (ltb t u) (λ l. absurd (differ t u (ltb-true t u l) y.below (x.is ∙ sym y.is)))
      (λ l.
      by_cases (ltb u t) (λ m. absurd (differ u t (ltb-true u t m) x.below (y.is ∙ sym x.is)))
      (λ m. let c = ltb-false t u l in let d = ltb-false u t m in omega arith))

  pub same_card : (a t u : ℕ) → Names s steps a t → Names s steps a u → t ≡ u
  same_card = same_place steps cards.step_tags

  pub same_step : (a t u : ℕ) → Names s (steps_left s steps) a t → Names s (steps_left s steps) a u → t ≡ u
  same_step =
      same_place (steps_left s steps)
      (λ t u l m e.
      let n = steps_left-length s steps in
      let b : u < length (kept_of s steps) = omega arith in
      cards.step_tags (kept_at s steps t) (kept_at s steps u) (kept_ordered (skipped_at s steps) (length steps) t u l b)
      (kept_below_lem (skipped_at s steps) (length steps) u b)
      (ap (tag_of s) (sym (steps_left_at s steps t (omega arith))) ∙ e ∙ ap (tag_of s) (steps_left_at s steps u b)))

  pub same_person : (a p q : ℕ) → Names s people a p → Names s people a q → p ≡ q
  same_person = same_place people cards.person_tags

  module _ (h : List Event) (signer : List ℕ) (long : length signer ≡ 12) (k : Kept h s people steps rules signer)
      (a b t p : ℕ) (step : Names s (steps_left s steps) a t) (person : Names s people b p) (free : is_open_lem signer t ≡ true) (n : ℕ) (z : n ≡ 0) where
    abbrev more : List ℕ
    more = set signer t (suc p)

    here : get_or more t 0 ≡ suc p
    here = let l = step.below in let m = few_steps in get_or-set_same signer t (suc p) 0 (omega arith)

    there : (u : ℕ) → (u ≡ t → ⊥) → get_or more u 0 ≡ get_or signer u 0
    there u d = get_or-set_other signer t u (suc p) 0 d

    abbrev Match : ℕ → ℕ → Type 0
    Match u q = (get_or more u 0 ≡ suc q) ↔ Granted (signing a b n ∷ h) (tag_of s (get_or (steps_left s steps) u 0)) (tag_of s (get_or people q 0))

    match_here : (q : ℕ) → q < length people → Match t q
    match_here q m = (
      λ x.
          let e : p ≡ q = omega (arith, here, x) in
          inl (z, sym step.is, sym person.is ∙ ap (λ (i : ℕ). tag_of s (get_or people i 0)) e),
      λ g.
          ⊎_elim (λ e. here ∙ ap suc (same_person b p q person (record { below = m; is = sym e.2 })))
          (λ e. absurd (omega (arith, eqb-true (get_or signer t 0) 0 free, (k.matches t q step.below m).1 e))) g,
    )

    match_there : (u q : ℕ) → u < length (steps_left s steps) → q < length people → (u ≡ t → ⊥) → Match u q
    match_there u q l m d = (
      λ x. inr ((k.matches u q l m).0 (sym (there u d) ∙ x)),
      λ g.
          ⊎_elim (λ e. absurd (d (same_step a u t (record { below = l; is = sym e.1 }) step))) (λ e. there u d ∙ (k.matches u q l m).1 e) g,
    )

    kept_granted : CanFinish s people steps rules more → Kept (signing a b n ∷ h) s people steps rules more
    kept_granted w =
        record {
          matches = λ u q l m.
              by_cases (eqb u t) (λ e. subst (λ (x : ℕ). Match x q) (sym (eqb-true u t e)) (match_here q m)) (λ e. match_there u q l m (eqb-false u t e));
          each = λ u l.
              by_cases (eqb u t)
              (λ e. inr (p, person.below, ap (λ (x : ℕ). get_or more x 0) (eqb-true u t e) ∙ here))
              (λ e. let d = there u (eqb-false u t e) in
              ⊎_elim (λ x. inl (d ∙ x)) (λ x. inr (x.0, x.1, d ∙ x.2)) (k.each u l));
          beyond = λ u l. there u (λ e. absurd (omega (arith, step.below))) ∙ k.beyond u l;
          named = λ x y g.
              ⊎_elim
              (λ e. (t, p, record { below = step.below; is = step.is ∙ e.1 }, record { below = person.below; is = person.is ∙ e.2 }))
              (λ e. k.named x y e) g;
          finish = w;
        }

-- ---- any history

module _ (h : List Event) (i : JobState) (w : Stands h i) where
  -- what an opening leaves
  opening_stands : (s : List ℕ) (n : ℕ) (j : JobState) → OpenPromise i s n j → Stands (opening s n ∷ h) j
  opening_stands s n j o = go (open_answer i s) o.returned o.job_left_lem (open_cases s i)
    where
      go : (r : Answered) → n ≡ r.number → j ≡ r.job → OpenCase s i r → Stands (opening s n ∷ h) j
      go r en ej (unreadable f c d e) =
          let x = reader_refusal s f c d in
          let number : n ≡ f * 256 + c = en ∙ ap (λ (y : Answered). y.number) e in
          subst (Stands (opening s n ∷ h)) (sym (ej ∙ ap (λ (y : Answered). y.job) e))
          (stands_unopened h i s n (λ z. absurd (omega (arith, number, x.is, x.from))) w)
      go r en ej (planless people steps rules d fails e) =
          let number : n ≡ 13 * 256 + 0 = en ∙ ap (λ (y : Answered). y.number) e in
          subst (Stands (opening s n ∷ h)) (sym (ej ∙ ap (λ (y : Answered). y.job) e)) (stands_unopened h i s n (λ z. absurd (omega arith)) w)
      go r en ej (done people steps rules d plan e) =
          subst (Stands (opening s n ∷ h)) (sym (ej ∙ ap (λ (y : Answered). y.job) e))
          (stands_opened s people steps rules d h n (en ∙ ap (λ (y : Answered). y.number) e) plan)

  -- and a signing
  module _ (a b n : ℕ) (j : JobState) (o : SignPromise i a b n j) where
    -- a refusal
    turned_stands : (f : ℕ) → 14 ≤ f → sign_answer i a b ≡ refused_signing f i → Stands (signing a b n ∷ h) j
    turned_stands f l e =
        let number : n ≡ f * 256 + 0 = o.returned ∙ ap (λ (y : Answered). y.number) e in
        subst (Stands (signing a b n ∷ h)) (sym (o.job_left_lem ∙ ap (λ (y : Answered). y.job) e))
        (stands_refused h i a b n f (λ z. absurd (omega arith)) w)

    module _ (people steps rules : List ℕ) (r : read_sheet (last_opened h) ≡ job people steps rules) (k : Kept h (last_opened h) people steps rules i.signer) where
      given_stands : (t p : ℕ) → Names (last_opened h) (steps_left (last_opened h) steps) a t → Names (last_opened h) people b p → is_open_lem i.signer t ≡ true
          → CanFinish (last_opened h) people steps rules (set i.signer t (suc p)) → sign_answer i a b ≡ granted t p i → Stands (signing a b n ∷ h) j
      unfolding last_opened refused_count held
      given_stands t p step person free plan e =
          let z : n ≡ 0 = o.returned ∙ ap (λ (y : Answered). y.number) e in
          subst (Stands (signing a b n ∷ h)) (sym (o.job_left_lem ∙ ap (λ (y : Answered). y.job) e))
          (record {
            holds = w.holds;
            sized = length-set i.signer t (suc p) ∙ w.sized;
            count = w.count ∙ sym (ap (λ (b : Bool). min (cond b (refused_count h) (suc (refused_count h))) most_refusals) (eq-eqb n 0 z));
            standing = working people steps rules r
                (kept_granted (last_opened h) people steps rules r h i.signer w.sized k a b t p step person free n z plan);
          })

      case_stands : SignCase (last_opened h) people steps rules i a b (sign_answer i a b) → Stands (signing a b n ∷ h) j
      case_stands (unknown x e) = turned_stands 14 (omega arith) e
      case_stands (signed t p x y c e) = turned_stands 15 (omega arith) e
      case_stands (ungranted t p x y c f e) = turned_stands 16 (omega arith) e
      case_stands (given t p x y c f e) = given_stands t p x y c f e

    signing_stands : Stands (signing a b n ∷ h) j
    signing_stands = go w.standing
      where
        go : Standing h i.signer → Stands (signing a b n ∷ h) j
        go (never o d nobody) = turned_stands 14 (omega arith) (sign_nothing i a b (w.holds ∙ d))
        go (working people steps rules r k) =
            case_stands people steps rules r k (sign_cases (last_opened h) people steps rules i w.holds r a b)

pub stands : (h : List Event) (j : JobState) → History h j → Stands h j
stands [] j e = subst (Stands []) (sym e) stands_never
stands (opening s n ∷ h) j e = opening_stands h e.0 (stands h e.0 e.1) s n j e.2
stands (signing a b n ∷ h) j e = signing_stands h e.0 (stands h e.0 e.1) a b n j e.2
