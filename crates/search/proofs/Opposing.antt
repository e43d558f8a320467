-- Two rules that exclude each other: there is no valid plan. Assumes nothing.
use mathlib.Core.Bool.{not, ◌&&◌}
use mathlib.Core.List.{List}
use Rattle.std.specs.Prelude.{None}
use mathlib.Core.Path.{◌≡◌, ap}
use Prim.Native.Nat.{ℕ, ◌+◌, ◌≤◌}
use native.Mathlib.Omega.{arith}
use lib.ListN.{get_or}
use Rattle.bits.specs.Below.{count}
use Rattle.bits.specs.Word.{has_bit}
use Rattle.bits.proofs.Counting.{and_of}
use Rattle.workflow.specs.Problem.{Job, May, Satisfiable, distinct}
use Rattle.workflow.proofs.Occurs.{distinct_scope_split}
use Rattle.pattern.specs.declared.Size.{Size}
use Rattle.pattern.specs.Rule.{level_in, scope_in}
use Rattle.pattern.specs.Tables.{class_in, job_in}
use Rattle.search.specs.Existence.{Existence}
use Rattle.search.specs.Opposed.{Opposed}

module _ (size : Size) (crowd rule : List ℕ) (w : Opposed size.steps size.rules rule) where
  abbrev job : Job
  job = job_in size crowd rule

  -- the scopes of the two rules
  abbrev above : ℕ
  above = scope_in (get_or rule w.upper 0)

  abbrev under : ℕ
  under = scope_in (get_or rule w.lower 0)

  none_opposed : (may : May) → Satisfiable job may → ⊥
  none_opposed may (π, v) =
      let c : ℕ → ℕ = λ s. class_in crowd (level_in (get_or rule w.lower 0)) (π s) in
      let d : distinct size.steps (has_bit under) c
      ≤ distinct size.steps (has_bit above) c + count size.steps (λ s. has_bit under s && not (has_bit above s))
      = distinct_scope_split size.steps c (has_bit under) (has_bit above) (λ s. has_bit under s && not (has_bit above s))
      (λ s l h o. and_of (has_bit under s) _ h (ap not o)) in
      let e : distinct size.steps (has_bit above) (λ s. class_in crowd (level_in (get_or rule w.upper 0)) (π s)) ≡ distinct size.steps (has_bit above) c
      = ap (λ (q : ℕ). distinct size.steps (has_bit above) (λ s. class_in crowd q (π s))) w.same in
      omega (arith, (v.eligible w.upper w.upper_below).most, (v.eligible w.lower w.lower_below).least, w.fewer)

  pub existence_opposed : (may : May) → Existence job may None
  existence_opposed may = none_opposed may
