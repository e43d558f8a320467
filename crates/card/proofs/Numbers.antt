-- The faults and their numbers say the same. Assumes nothing.
use mathlib.Core.Path.{◌≡◌, refl, ap}
use Prim.Native.Nat.{ℕ, zero, suc, ◌≤◌}
use native.Mathlib.Omega.{arith}
use Rattle.card.specs.Refusals.{fault_number, fault_numbered, refusal_numbered}
use Rattle.card.specs.declared.refusal.Fault.{Fault}
use Rattle.card.specs.declared.refusal.Refusal.{Refusal}
use Rattle.card.specs.declared.refusal.Fault.TheVariants.{Short, Cap, Length, Header, Index, Reached, Kind, Field, Count, Tag, Class, Loose, Plan, Unknown, Signed, Ungranted}

pub numbered-number : (f : Fault) → fault_numbered (fault_number f) ≡ f
unfolding fault_number fault_numbered
numbered-number Short = refl
numbered-number Cap = refl
numbered-number Length = refl
numbered-number Header = refl
numbered-number Index = refl
numbered-number Reached = refl
numbered-number Kind = refl
numbered-number Field = refl
numbered-number Count = refl
numbered-number Tag = refl
numbered-number Class = refl
numbered-number Loose = refl
numbered-number Plan = refl
numbered-number Unknown = refl
numbered-number Signed = refl
numbered-number Ungranted = refl

pub number-numbered : (n : ℕ) → 1 ≤ n → n ≤ 16 → fault_number (fault_numbered n) ≡ n
unfolding fault_number fault_numbered
number-numbered zero l m = absurd (omega arith)
number-numbered (suc zero) l m = refl
number-numbered (suc (suc zero)) l m = refl
number-numbered (suc (suc (suc zero))) l m = refl
number-numbered (suc (suc (suc (suc zero)))) l m = refl
number-numbered (suc (suc (suc (suc (suc zero))))) l m = refl
number-numbered (suc (suc (suc (suc (suc (suc zero)))))) l m = refl
number-numbered (suc (suc (suc (suc (suc (suc (suc zero))))))) l m = refl
number-numbered (suc (suc (suc (suc (suc (suc (suc (suc zero)))))))) l m = refl
number-numbered (suc (suc (suc (suc (suc (suc (suc (suc (suc zero))))))))) l m = refl
number-numbered (suc (suc (suc (suc (suc (suc (suc (suc (suc (suc zero)))))))))) l m = refl
number-numbered (suc (suc (suc (suc (suc (suc (suc (suc (suc (suc (suc zero))))))))))) l m = refl
number-numbered (suc (suc (suc (suc (suc (suc (suc (suc (suc (suc (suc (suc zero)))))))))))) l m = refl
number-numbered (suc (suc (suc (suc (suc (suc (suc (suc (suc (suc (suc (suc (suc zero))))))))))))) l m = refl
number-numbered (suc (suc (suc (suc (suc (suc (suc (suc (suc (suc (suc (suc (suc (suc zero)))))))))))))) l m = refl
number-numbered (suc (suc (suc (suc (suc (suc (suc (suc (suc (suc (suc (suc (suc (suc (suc zero))))))))))))))) l m = refl
number-numbered (suc (suc (suc (suc (suc (suc (suc (suc (suc (suc (suc (suc (suc (suc (suc (suc zero)))))))))))))))) l m = refl
number-numbered (suc (suc (suc (suc (suc (suc (suc (suc (suc (suc (suc (suc (suc (suc (suc (suc (suc n))))))))))))))))) l m = absurd (omega arith)

-- 0 is the number of none
pub number-some : (f : Fault) → fault_number f ≡ 0 → ⊥
unfolding fault_number
number-some Short e = absurd (omega arith)
number-some Cap e = absurd (omega arith)
number-some Length e = absurd (omega arith)
number-some Header e = absurd (omega arith)
number-some Index e = absurd (omega arith)
number-some Reached e = absurd (omega arith)
number-some Kind e = absurd (omega arith)
number-some Field e = absurd (omega arith)
number-some Count e = absurd (omega arith)
number-some Tag e = absurd (omega arith)
number-some Class e = absurd (omega arith)
number-some Loose e = absurd (omega arith)
number-some Plan e = absurd (omega arith)
number-some Unknown e = absurd (omega arith)
number-some Signed e = absurd (omega arith)
number-some Ungranted e = absurd (omega arith)

-- a refusal is that of its number and its card
pub refusal-back : (r : Refusal) → refusal_numbered (fault_number r.fault) r.card ≡ r
refusal-back r = ap (λ (f : Fault). record { fault = f; card = r.card }) (numbered-number r.fault)

pub number-most : (f : Fault) → fault_number f ≤ 16
unfolding fault_number
number-most Short = omega arith
number-most Cap = omega arith
number-most Length = omega arith
number-most Header = omega arith
number-most Index = omega arith
number-most Reached = omega arith
number-most Kind = omega arith
number-most Field = omega arith
number-most Count = omega arith
number-most Tag = omega arith
number-most Class = omega arith
number-most Loose = omega arith
number-most Plan = omega arith
number-most Unknown = omega arith
number-most Signed = omega arith
number-most Ungranted = omega arith
