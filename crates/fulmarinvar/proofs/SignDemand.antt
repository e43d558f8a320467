-- What is asked of signing follows from the promises, of a job changed by its calls alone. Assumes nothing.
use mathlib.Core.Bool.{Bool, true, false, cond}
use mathlib.Core.List.{List, [], ◌∷◌}
use mathlib.Core.Logic.{◌⊎◌, inl, inr, ⊎_elim}
use mathlib.Core.Path.{◌≡◌, refl, sym, ◌∙◌, ap, ap₂, subst}
use Prim.Native.Nat.{ℕ, suc, ◌+◌, ◌*◌, ◌<◌}
use native.Mathlib.Omega.{arith}
use lib.Dec.{eqb}
use lib.ListN.{length, get_or, set}
use lib.Seq.{get_or-set_same, get_or-set_other}
use borrow.Author.Tests.{eq-eqb, ne_eqb, eqb-true, eqb-false}
use Rattle.bits.proofs.Below.{by_cases, true-false}
use Rattle.card.specs.Fields.{tag_of}
use Rattle.sheet.specs.Read.{Read, job, fault, read_sheet}
use Rattle.remaining.proofs.KeptLaws.{kept_below_lem, kept_remains}
use Rattle.remaining.proofs.Laws.{steps_left-length, steps_left_at}
use Rattle.remaining.specs.Remaining.{skipped_at, kept_of, kept_at, steps_left}
use Rattle.workflow.specs.Problem.{Plan, Agree, Valid}
use Rattle.workflow.specs.Leaves.{plan_left}
use Rattle.workflow.specs.Skipped.{ValidLeft, SatisfiableLeft}
use Rattle.instance.specs.Instance.{instance_in, may_do}
use Rattle.instance.specs.Marked.{marked_in, permitted_in}
use Rattle.instance.proofs.Marked.{permits_left, valid_in, satisfiable_in, plan_back}
use Rattle.signing.proofs.Cases.{sign_cases, sign_nothing, sign_unreadable}
use Rattle.signing.specs.Bound.{is_open_lem}
use Rattle.signing.specs.Cases.{Names, CanFinish, SignCase, unknown, signed, ungranted, given}
use Rattle.signing.specs.Sign.{refused_signing, granted, sign_answer}
use Rattle.signing.specs.State.{Answered, with_count, held}
use Rattle.signing.specs.declared.JobState.{JobState}
use Rattle.fulmarinvar.specs.Signing as demands
use Rattle.fulmarinvar.specs.Signing.{SignedAs, Agrees, Signs}
use Rattle.fulmarinvar.specs.History.{Event, opening, signing, History, NeverOpened, last_opened, Granted, Open}
use Rattle.fulmarinvar.specs.Promise.{SignPromise}
use Rattle.fulmarinvar.proofs.OneReading.{same_cards, nothing_unreadable}
use Rattle.fulmarinvar.proofs.SheetDemand.{jobs_of_cards, steps_remain}
use Rattle.fulmarinvar.proofs.Stands.{Kept, Standing, never, working, stands, few_steps, same_card, same_step, same_person}

-- no opening has succeeded
never_last : (h : List Event) → NeverOpened h → last_opened h ≡ []
unfolding last_opened
never_last [] o = refl
never_last (opening s n ∷ h) o = ap (λ (b : Bool). cond b s (last_opened h)) (ne_eqb n 0 o.0) ∙ never_last h o.1
never_last (signing a b n ∷ h) o = never_last h o

pub never_opened_demand : demands.NeverOpenedDemand
never_opened_demand h j w o =
    let e = never_last h o in
    record {
      unknown = λ a b number left p.
          let n : number ≡ 14 * 256 + 0 = p.returned ∙ ap (λ (y : Answered). y.number) (sign_nothing j a b ((stands h j w).holds ∙ e)) in
          omega arith;
      ungranted = go (stands h j w).standing e;
    }
  where
    go : Standing h j.signer → last_opened h ≡ [] → (a b : ℕ) → Granted h a b → ⊥
    go (never x y f) e = f
    go (working people steps rules r k) e = absurd (nothing_unreadable (sym (ap read_sheet e) ∙ r))

pub opened_demand : demands.OpenedDemand
opened_demand h j w = go (stands h j w).standing
  where
    go : Standing h j.signer → NeverOpened h
        ⊎ ((people : List ℕ) × (steps : List ℕ) × (rules : List ℕ) × (read_sheet (last_opened h) ≡ job people steps rules)
        × SatisfiableLeft (marked_in (last_opened h) people steps rules) (permitted_in (last_opened h) people))
    go (never o e f) = inl o
    go (working people steps rules r k) =
        let s = last_opened h in
        inr (
          people,
          steps,
          rules,
          r,
          (satisfiable_in s people steps rules r (permitted_in s people) (may_do s people steps rules) (permits_left s people steps rules)).1 (k.finish.0, k.finish.1),
        )

pub count_demand : demands.CountDemand
count_demand h j number w o = o.returned ∙ (stands h j w).count

-- ---- a job with a sheet

module _ (h : List Event) (j : JobState) (people steps rules : List ℕ) (w : History h j) (r : read_sheet (last_opened h) ≡ job people steps rules) where
  abbrev s : List ℕ
  s = last_opened h

  abbrev signer : List ℕ
  signer = j.signer

  kept : Kept h s people steps rules signer
  kept = go (stands h j w).standing
    where
      go : Standing h signer → Kept h s people steps rules signer
      go (never o e f) = absurd (nothing_unreadable (sym (ap read_sheet e) ∙ r))
      go (working p t q e k) = same_cards s e r (λ x y z. Kept h s x y z signer) k

  -- a step was granted to somebody exactly where it has a signer
  module _ (a t : ℕ) (step : Names s (steps_left s steps) a t) where
    closed_granted : (is_open_lem signer t ≡ true → ⊥) → (c : ℕ) × Granted h a c
    closed_granted n =
        ⊎_elim (λ z. absurd (n (eq-eqb (get_or signer t 0) 0 z)))
        (λ x. (
          tag_of s (get_or people x.0 0),
          subst (λ (y : ℕ). Granted h y (tag_of s (get_or people x.0 0))) step.is ((kept.matches t x.0 step.below x.1).0 x.2),
        ))
        (kept.each t step.below)

    open_free : Open h a → get_or signer t 0 ≡ 0
    open_free o =
        by_cases (is_open_lem signer t) (eqb-true (get_or signer t 0) 0)
        (λ f. let x = closed_granted (λ e. true-false e f) in absurd (o x.0 x.1))

    free_open : get_or signer t 0 ≡ 0 → Open h a
    free_open z b g =
        let x = kept.named a b g in
        let e : x.0 ≡ t = same_step s people steps rules r a x.0 t x.2 step in
        let m = (kept.matches x.0 x.1 x.2.below x.3.below).1
        (subst (λ (y : ℕ). Granted h y (tag_of s (get_or people x.1 0))) (sym x.2.is) (subst (Granted h a) (sym x.3.is) g)) in
        let v : get_or signer x.0 0 ≡ get_or signer t 0 = ap (λ (y : ℕ). get_or signer y 0) e in
        absurd (omega (arith, m, v, z))

  signers : SignedAs h s people (steps_left s steps) j
  signers =
      record {
        holds = (stands h j w).holds;
        signed = kept.matches;
        unsigned = λ t l.
            let own : Names s (steps_left s steps) (tag_of s (get_or (steps_left s steps) t 0)) t = record { below = l; is = refl } in
            (free_open (tag_of s (get_or (steps_left s steps) t 0)) t own, open_free (tag_of s (get_or (steps_left s steps) t 0)) t own);
        beyond = kept.beyond;
        named = kept.named;
      }

  -- a plan agrees with the grants exactly where it agrees with the signers
  granted_signer : (π : Plan) → ((u : ℕ) → u < length (steps_left s steps) → (is_open_lem signer u ≡ true → ⊥) → get_or signer u 0 ≡ suc (π u))
      → (u q : ℕ) → u < length (steps_left s steps) → q < length people → Granted h (tag_of s (get_or (steps_left s steps) u 0)) (tag_of s (get_or people q 0)) → π u ≡ q
  granted_signer π agrees u q l m g =
      let e = (kept.matches u q l m).1 g in
      let d = agrees u l (λ z. absurd (omega (arith, eqb-true (get_or signer u 0) 0 z, e))) in
      omega arith

  -- a plan of the instance, as one of all steps
  back : (σ : Plan) → Valid (instance_in s people steps rules) (may_do s people steps rules) σ
      → (π : Plan) × ValidLeft (marked_in s people steps rules) (permitted_in s people) π × Agree (length (steps_left s steps)) σ (plan_left (kept_at s steps) π)
  back = plan_back s people steps rules r (permitted_in s people) (may_do s people steps rules) (permits_left s people steps rules)

  module _ (t p : ℕ) (l : t < length (steps_left s steps)) (m : p < length people) (free : get_or signer t 0 ≡ 0) where
    abbrev more : List ℕ
    more = set signer t (suc p)

    here : get_or more t 0 ≡ suc p
    here = let k = few_steps s people steps rules r in let n = (stands h j w).sized in get_or-set_same signer t (suc p) 0 (omega arith)

    there : (u : ℕ) → (u ≡ t → ⊥) → get_or more u 0 ≡ get_or signer u 0
    there u d = get_or-set_other signer t u (suc p) 0 d

    agrees_finish : Agrees h s people steps rules t p → CanFinish s people steps rules more
    agrees_finish x = (
      plan_left (kept_at s steps) x.0,
      (valid_in s people steps rules r (permitted_in s people) (may_do s people steps rules) (permits_left s people steps rules) x.0).0 x.1,
      λ u k c.
          by_cases (eqb u t)
          (λ e. let d = eqb-true u t e in ap (λ (y : ℕ). get_or more y 0) d ∙ here ∙ ap suc (sym (ap (plan_left (kept_at s steps) x.0) d ∙ x.2)))
          (λ e.
          let d = there u (eqb-false u t e) in
          ⊎_elim (λ z. absurd (c (eq-eqb (get_or more u 0) 0 (d ∙ z))))
          (λ y. d ∙ y.2 ∙ ap suc (sym (x.3 u y.0 k y.1 ((kept.matches u y.0 k y.1).0 y.2)))) (kept.each u k)),
    )

    finish_agrees : CanFinish s people steps rules more → Agrees h s people steps rules t p
    finish_agrees x =
        let b = back x.0 x.1 in (
          b.0,
          b.1,
          (let d = x.2 t l (λ z. absurd (omega (arith, eqb-true (get_or more t 0) 0 z, here))) in omega (arith, d, here, b.2 t l)),
          λ u q k n g.
              let e = (kept.matches u q k n).1 g in
              let d = there u (λ z. absurd (omega (arith, e, free, ap (λ (y : ℕ). get_or signer y 0) z))) in
              let f = x.2 u k (λ z. absurd (omega (arith, eqb-true (get_or more u 0) 0 z, d, e))) in
              omega (arith, d, e, f, b.2 u k),
        )

  -- ---- a signing
  module _ (a b number : ℕ) (left : JobState) (o : SignPromise j a b number left) where
    numbered : (x : Answered) → sign_answer j a b ≡ x → number ≡ x.number
    numbered x e = o.returned ∙ ap (λ (y : Answered). y.number) e

    -- another step and person of these tags are the same
    moved : (t p u q : ℕ) → Names s (steps_left s steps) a t → Names s people b p → Names s (steps_left s steps) a u → Names s people b q
        → Agrees h s people steps rules u q → Agrees h s people steps rules t p
    moved t p u q st pe su pq x =
        subst (λ (y : ℕ). Agrees h s people steps rules y p) (same_step s people steps rules r a u t su st)
        (subst (λ (y : ℕ). Agrees h s people steps rules u y) (same_person s people steps rules r b q p pq pe) x)

    case_signs : SignCase s people steps rules j a b (sign_answer j a b) → Signs h s people steps rules j a b number left
    case_signs (unknown x e) =
        let n : number ≡ 14 * 256 + 0 = numbered _ e in
        record {
          unknown = (λ z. x, λ z. omega arith);
          signed = λ t p st pe. absurd (x t p st pe);
          granted = λ t p st pe f. absurd (x t p st pe);
          ungranted = λ t p st pe f. absurd (x t p st pe);
          signs = λ t p st pe z. absurd (x t p st pe);
        }
    case_signs (signed t p st pe c e) =
        let n : number ≡ 15 * 256 + 0 = numbered _ e in
        let taken = closed_granted a t st c in
        record {
          unknown = (λ z. absurd (omega arith), λ z. absurd (z t p st pe));
          signed = λ u q su pq. (λ z. taken, λ z. omega arith);
          granted = λ u q su pq f. absurd (f taken.0 taken.1);
          ungranted = λ u q su pq f. absurd (f taken.0 taken.1);
          signs = λ u q su pq z. absurd (omega arith);
        }
    case_signs (ungranted t p st pe c f e) =
        let n : number ≡ 16 * 256 + 0 = numbered _ e in
        let free = eqb-true (get_or signer t 0) 0 c in
        let fails : Agrees h s people steps rules t p → ⊥ = λ x. f (agrees_finish t p st.below pe.below free x) in
        record {
          unknown = (λ z. absurd (omega arith), λ z. absurd (z t p st pe));
          signed = λ u q su pq. (λ z. absurd (omega arith), λ z. absurd (free_open a t st free z.0 z.1));
          granted = λ u q su pq g. (λ z. absurd (omega arith), λ x. absurd (fails (moved t p u q st pe su pq x)));
          ungranted = λ u q su pq g. (λ z x. fails (moved t p u q st pe su pq x), λ z. omega arith);
          signs = λ u q su pq z. absurd (omega arith);
        }
    case_signs (given t p st pe c f e) =
        let n : number ≡ 0 = numbered _ e in
        let free = eqb-true (get_or signer t 0) 0 c in
        let agrees = finish_agrees t p st.below pe.below free f in
        record {
          unknown = (λ z. absurd (omega arith), λ z. absurd (z t p st pe));
          signed = λ u q su pq. (λ z. absurd (omega arith), λ z. absurd (free_open a t st free z.0 z.1));
          granted = λ u q su pq g. (λ z. moved u q t p su pq st pe agrees, λ x. n);
          ungranted = λ u q su pq g. (λ z. absurd (omega arith), λ z. absurd (z (moved u q t p su pq st pe agrees)));
          signs = λ u q su pq z.
              o.job_left_lem ∙ ap (λ (y : Answered). y.job) e
              ∙ ap₂ (λ (x y : ℕ). (granted x y j).job) (same_step s people steps rules r a t u st su) (same_person s people steps rules r b p q pe pq);
        }

    signs : Signs h s people steps rules j a b number left
    signs = case_signs (sign_cases s people steps rules j (stands h j w).holds r a b)

  -- ---- somebody can sign, and who has signed
  abbrev step_tag : ℕ → ℕ
  step_tag t = tag_of s (get_or (steps_left s steps) t 0)

  abbrev person_tag : ℕ → ℕ
  person_tag p = tag_of s (get_or people p 0)

  somebody : (t : ℕ) → t < length (steps_left s steps) → Open h (step_tag t)
      → (p : ℕ) × (p < length people) × ((number : ℕ) (left : JobState) → SignPromise j (step_tag t) (person_tag p) number left → number ≡ 0)
  somebody t l f =
      let x = kept.finish in
      let b = back x.0 x.1 in
      let m = x.1.within t l in (
        x.0 t,
        m,
        λ number left o.
            ((signs (step_tag t) (person_tag (x.0 t)) number left o).granted t (x.0 t) (record { below = l; is = refl }) (record { below = m; is = refl }) f).1
            (b.0, b.1, sym (b.2 t l), λ u q k n g. sym (b.2 u k) ∙ granted_signer x.0 x.2 u q k n g),
      )

  -- by the steps of the whole chain
  module _ (t : ℕ) (l : t < length steps) (remains : skipped_at s steps t ≡ false) where
    among : (k : ℕ) × (k < length (steps_left s steps)) × (kept_at s steps k ≡ t)
    among = (steps_remain s steps).every t l remains

    among_tag : step_tag among.0 ≡ tag_of s (get_or steps t 0)
    among_tag =
        let k = among in
        let n = steps_left-length s steps in
        ap (tag_of s) (steps_left_at s steps k.0 (omega (arith, k.1))) ∙ ap (λ (u : ℕ). tag_of s (get_or steps u 0)) k.2

  finished : ((t : ℕ) → t < length steps → skipped_at s steps t ≡ false → Open h (tag_of s (get_or steps t 0)) → ⊥)
      → (π : Plan)
      × ValidLeft (marked_in s people steps rules) (permitted_in s people) π
      × ((t : ℕ) → t < length steps → skipped_at s steps t ≡ false → Granted h (tag_of s (get_or steps t 0)) (person_tag (π t)))
  finished f =
      let x = kept.finish in
      let b = back x.0 x.1 in (
        b.0,
        b.1,
        λ t l q.
            let k = among t l q in
            let e = among_tag t l q in
            let given = (kept.matches k.0 (x.0 k.0) k.1 (x.1.within k.0 k.1)).0
            (x.2 k.0 k.1 (λ z. f t l q (subst (Open h) e (free_open (step_tag k.0) k.0 (record { below = k.1; is = refl }) (eqb-true (get_or signer k.0 0) 0 z)))))
            in
            subst (λ (y : ℕ). Granted h y (person_tag (b.0 t))) e
            (subst (λ (y : ℕ). Granted h (step_tag k.0) (person_tag y)) (b.2 k.0 k.1 ∙ ap b.0 k.2) given),
      )

pub signed_demand : demands.SignedDemand
signed_demand h j people steps rules w r = signers h j people steps rules w r

pub sign_demand : demands.SignDemand
sign_demand h j people steps rules a b number left w r o = signs h j people steps rules w r a b number left o

pub somebody_demand : demands.SomebodyDemand
somebody_demand h j people steps rules w r t l q f =
    let k = among h j people steps rules w r t l q in
    let e = among_tag h j people steps rules w r t l q in
    let x = somebody h j people steps rules w r k.0 k.1 (subst (Open h) (sym e) f) in (
      x.0,
      x.1,
      λ number left o. x.2 number left (subst (λ (y : ℕ). SignPromise j y (tag_of (last_opened h) (get_or people x.0 0)) number left) (sym e) o),
    )

-- a step that remains has another tag than a skipped one
pub skipped_demand : demands.SkippedDemand
skipped_demand h j people steps rules b number left w r t l q o =
    let s = last_opened h in
    (signs h j people steps rules w r (tag_of s (get_or steps t 0)) b number left o).unknown.1
    (λ k p x y.
    let n = steps_left-length s steps in
    let c : k < length (kept_of s steps) = omega (arith, x.below) in
    let same : kept_at s steps k ≡ t
    = same_card s people steps rules r (tag_of s (get_or steps t 0)) (kept_at s steps k) t
    (record { below = kept_below_lem (skipped_at s steps) (length steps) k c; is = ap (tag_of s) (sym (steps_left_at s steps k c)) ∙ x.is }) (record { below = l; is = refl })
    in
    true-false q (ap (skipped_at s steps) (sym same) ∙ kept_remains (skipped_at s steps) (length steps) k c))

-- tag 0 is on no card of a chain
zero_unnamed : (s people steps rules : List ℕ) → read_sheet s ≡ job people steps rules → (a b t p : ℕ) → (a ≡ 0) ⊎ (b ≡ 0)
    → Names s (steps_left s steps) a t → Names s people b p → ⊥
zero_unnamed s people steps rules r a b t p z st pe =
    let c = jobs_of_cards s people steps rules r in
    let n = steps_left-length s steps in
    let b : t < length (kept_of s steps) = omega (arith, st.below) in
    let tag : tag_of s (get_or steps (kept_at s steps t) 0) ≡ a = ap (tag_of s) (sym (steps_left_at s steps t b)) ∙ st.is in
    ⊎_elim (λ e. absurd (omega (arith, e, tag, c.step_tag (kept_at s steps t) (kept_below_lem (skipped_at s steps) (length steps) t b)))) (λ e. absurd (omega (arith, e, pe.is, c.person_tag p pe.below))) z

pub zero_demand : demands.ZeroDemand
zero_demand j a b number left o z = go (read_sheet (held j)) refl
  where
    unknown_number : sign_answer j a b ≡ refused_signing 14 j → number ≡ 14 * 256
    unknown_number e = let n : number ≡ 14 * 256 + 0 = o.returned ∙ ap (λ (y : Answered). y.number) e in omega arith

    cases : (people steps rules : List ℕ) → read_sheet (held j) ≡ job people steps rules → SignCase (held j) people steps rules j a b (sign_answer j a b)
        → number ≡ 14 * 256
    cases people steps rules r (unknown x e) = unknown_number e
    cases people steps rules r (signed t p st pe c e) = absurd (zero_unnamed (held j) people steps rules r a b t p z st pe)
    cases people steps rules r (ungranted t p st pe c f e) = absurd (zero_unnamed (held j) people steps rules r a b t p z st pe)
    cases people steps rules r (given t p st pe c f e) = absurd (zero_unnamed (held j) people steps rules r a b t p z st pe)

    go : (x : Read) → read_sheet (held j) ≡ x → number ≡ 14 * 256
    go (fault f c) e = unknown_number (sign_unreadable j a b f c e)
    go (job people steps rules) e = cases people steps rules e (sign_cases (held j) people steps rules j refl e a b)

pub finished_demand : demands.FinishedDemand
finished_demand h j people steps rules w r f = finished h j people steps rules w r f

-- ---- a refusal, whatever the job

pub signing_ends_demand : demands.SigningEndsDemand
signing_ends_demand j a b number left o = go (read_sheet (held j)) refl
  where
    refused : (f : ℕ) → sign_answer j a b ≡ refused_signing f j → (number ≡ f * 256 + 0)
        × (left ≡ with_count j left.refusals)
    refused f e =
        let d = o.job_left_lem ∙ ap (λ (y : Answered). y.job) e in (
          o.returned ∙ ap (λ (y : Answered). y.number) e,
          d
              ∙ ap (with_count j) (sym (ap (λ (y : JobState). y.refusals) d)),
        )

    cases : (people steps rules : List ℕ) → SignCase (held j) people steps rules j a b (sign_answer j a b) → demands.SigningEnds j number left
    cases people steps rules (unknown x e) = let k = refused 14 e in inr (inl (omega (arith, k.0)), k.1)
    cases people steps rules (signed t p st pe c e) = let k = refused 15 e in inr (inr (inl (omega (arith, k.0))), k.1)
    cases people steps rules (ungranted t p st pe c f e) = let k = refused 16 e in inr (inr (inr (omega (arith, k.0))), k.1)
    cases people steps rules (given t p st pe c f e) = inl (o.returned ∙ ap (λ (y : Answered). y.number) e)

    go : (x : Read) → read_sheet (held j) ≡ x → demands.SigningEnds j number left
    go (fault f c) e = let k = refused 14 (sign_unreadable j a b f c e) in inr (inl (omega (arith, k.0)), k.1)
    go (job people steps rules) e = cases people steps rules (sign_cases (held j) people steps rules j refl e a b)
