-- Every outcome of a call is an answer, or a numbered refusal that leaves the buffer as it was. Assumes nothing.
use mathlib.Core.List.{List}
use mathlib.Core.Logic.{◌⊎◌, inl, inr, ⊎_elim}
use mathlib.Core.Path.{◌≡◌, refl, sym, subst}
use Prim.Native.Nat.{ℕ, ◌≤◌}
use native.Mathlib.Omega.{arith}
use Rattle.sheet.specs.Faults as faults
use Rattle.sheet.specs.Faults.{Fault}
use Rattle.sheet.specs.Read.{fault, read_sheet}
use Rattle.sheet.proofs.Refusals.{refusal_is_fault, refusal_inside, fault_range, sheet_refusal}
use Rattle.answer.specs.Number.{refusal_number}
use Rattle.fulmarinvar.specs.Demands.{NumberedRefusal, ReadToAnEnd}

-- a refusal of a call itself, at card 0
pub own_refusal : (s : List ℕ) (r : ℕ) → ((1 ≤ r) × (r ≤ 2)) ⊎ (r ≡ 13) → NumberedRefusal s (refusal_number r 0)
own_refusal s r w =
    record {
      refusal = r;
      card = 0;
      is = refl;
      from = ⊎_elim (λ x. x.0) (λ x. omega arith) w;
      to = ⊎_elim (λ x. omega (arith, x.1)) (λ x. omega arith) w;
      small = omega arith;
      header = λ x. refl;
      inside = λ a b. ⊎_elim (λ x. absurd (omega (arith, x.1))) (λ x. absurd (omega arith)) w;
      justified = λ a b. ⊎_elim (λ x. absurd (omega (arith, x.1))) (λ x. absurd (omega arith)) w;
    }

-- "Card 0." of 3 and 4
zero_card : (s : List ℕ) (f c : ℕ) → Fault s f c → f ≤ 4 → c ≡ 0
zero_card s f c (faults.wrong_length e w) l = w.card
zero_card s f c (faults.wrong_header e w) l = w.card
zero_card s f c (faults.index_too_high e w) l = absurd (omega arith)
zero_card s f c (faults.reached_before e w) l = absurd (omega arith)
zero_card s f c (faults.other_kind e w) l = absurd (omega arith)
zero_card s f c (faults.wrong_field e w) l = absurd (omega arith)
zero_card s f c (faults.none_along e w) l = absurd (omega arith)
zero_card s f c (faults.too_many e w) l = absurd (omega arith)
zero_card s f c (faults.tag_twice e w) l = absurd (omega arith)
zero_card s f c (faults.class_in_two e w) l = absurd (omega arith)
zero_card s f c (faults.on_no_chain e w) l = absurd (omega arith)

-- a refusal of the reader
pub reader_refusal : (s : List ℕ) (f c : ℕ) → read_sheet s ≡ fault f c → NumberedRefusal s (refusal_number f c)
reader_refusal s f c e =
    let w = refusal_is_fault s f c e in
    let r = fault_range s f c w in
    record {
      refusal = f;
      card = c;
      is = refl;
      from = omega (arith, r.0);
      to = omega (arith, r.1);
      small = omega (arith, (sheet_refusal s f c e).card);
      header = ⊎_elim (zero_card s f c w) (λ x. absurd (omega (arith, r.1)));
      inside = λ a b. refusal_inside s f c e (λ x. omega arith);
      justified = λ a b. w;
    }

-- a call that refused, and one that did not
pub refused_ends : {s buffer left : List ℕ} {number n : ℕ} → NumberedRefusal s n → number ≡ n → left ≡ buffer → ReadToAnEnd s buffer number left
refused_ends {s} w e b = record { outcome = inr (subst (NumberedRefusal s) (sym e) w); unchanged = λ n. b }

pub answered_ends : {s buffer left : List ℕ} {number : ℕ} → number ≡ 0 → ReadToAnEnd s buffer number left
answered_ends e = record { outcome = inl e; unchanged = λ n. absurd (n e) }
