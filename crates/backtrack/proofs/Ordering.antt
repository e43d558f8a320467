-- The steps that have several people, and the one that comes next. Assumes nothing.
use mathlib.Core.Bool.{Bool, true}
use mathlib.Core.List.{List}
use mathlib.Core.Path.{◌≡◌, sym, subst, ◌∙◌}
use Prim.Native.Nat.{ℕ, ◌≤◌, ◌<◌}
use native.Mathlib.Omega.{arith}
use lib.ListN.{length}
use Rattle.bits.specs.Word.{has_bit}
use Rattle.bits.specs.Set.{FirstAndRest, Removed, Lowest}
use Rattle.bits.proofs.Below.{by_cases}
use Rattle.bits.proofs.SetLaws.{removed_other, removed_was, part_le}
use Rattle.bits.proofs.Masks.{bits_below}
use Rattle.workflow.specs.Problem.{Job}
use Rattle.backtrack.specs.Order.{Several}
use Rattle.backtrack.specs.Trial.{Alone, Others}
use Rattle.backtrack.proofs.Extending.{Before, NextPerson, Untried}

-- the steps with several people are no more than the steps
pub several_le : {steps : ℕ} {dom : List ℕ} {r : ℕ} → Several steps dom r → r ≤ steps
several_le {steps} {dom} {r} w = part_le r steps w.part

pub alone_small : {steps rest : ℕ} {dom : List ℕ} → steps ≤ 12 → Alone steps rest dom → rest < 4096
alone_small {rest = rest} few a = bits_below 12 rest (λ t h. let l = a.below t h in omega arith)

-- where some steps but those of `rest` have one person at most, so have those but the ones found
pub several_alone : {steps rest : ℕ} {dom : List ℕ} {r : ℕ} → Alone steps rest dom → Several rest dom r → Alone steps r dom
several_alone {rest = rest} a w =
    record {
      below = λ t h. a.below t (w.part t h);
      one = λ t p p' l o h k.
          by_cases (has_bit rest t)
          (λ e. w.one t e o p p' h k)
          (λ e. a.one t p p' l e h k);
    }

-- no step is found
pub several_none : {steps rest : ℕ} {dom : List ℕ} {r : ℕ} → Alone steps rest dom → Several rest dom r → r ≡ 0 → Alone steps 0 dom
several_none {steps} {dom = dom} a w e = subst (λ (x : ℕ). Alone steps x dom) e (several_alone a w)

-- without step s
pub alone_others : {steps rest s rest' : ℕ} {dom : List ℕ} → Alone steps rest dom → Removed rest s rest' → Others steps rest' s dom
alone_others a gone =
    record {
      below = λ t h. a.below t (removed_was gone t h);
      one = λ t p p' l n o h k. a.one t p p' l (sym (removed_other gone t n) ∙ o) h k;
    }

-- before the first of the steps
pub alone_before : {steps rest s : ℕ} {dom : List ℕ} → Alone steps rest dom → s < steps → Lowest rest s → Before s dom
alone_before a b low t p p' l h k = a.one t p p' (omega arith) (low.before t l) h k

-- the person who is tried next, at the step that comes next
pub next_person : {ordered : Bool} {j : Job} {rest wide s : ℕ} {dom : List ℕ} {left p left' : ℕ} → length dom ≡ 12 → j.steps ≤ 12 → Alone j.steps rest dom
    → Several rest dom wide → has_bit wide s ≡ true → (ordered ≡ true → Lowest wide s) → Untried j s dom left → p < 64 → FirstAndRest left p left'
    → NextPerson ordered j s dom left p left'
next_person sized few a w h low untried person taken =
    let below = a.below _ (w.part _ h) in
    record {
      sized = sized;
      few = few;
      below = below;
      untried = untried;
      person = person;
      taken = taken;
      alone = λ e. alone_before (several_alone a w) below (low e);
    }
