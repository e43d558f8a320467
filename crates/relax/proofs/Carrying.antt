-- The rules carried one by one. Assumes nothing.
use mathlib.Core.List.{List}
use mathlib.Core.Path.{◌∙◌}
use Prim.Native.Nat.{ℕ, ◌+◌, ◌<◌}
use native.Mathlib.Omega.{arith}
use lib.Dec.{eqb}
use lib.ListN.{get_or, set, length-set}
use lib.Seq.{get_or-set_same, get_or-set_other}
use borrow.Author.Tests.{eqb-true, eqb-false}
use Rattle.bits.proofs.Below.{by_cases}
use Rattle.pattern.specs.declared.Size.{Size}
use Rattle.relax.specs.Relaxed.{Follows, Carries}

pub carries_more : (size : Size) (n : ℕ) (class rule : List ℕ) (q : ℕ) (rule' : List ℕ) (r : ℕ) → n < 64 → Carries size n class rule q rule'
    → Follows size class q (get_or rule n 0) r → Carries size (n + 1) class rule q (set rule' n r)
carries_more size n class rule q rule' r l w f =
    record {
      sized = length-set rule' n r ∙ w.sized;
      follows = λ i h.
          by_cases (eqb i n)
          (λ e. rw (eqb-true i n e, get_or-set_same rule' n r 0 (omega (arith, w.sized))) f)
          (λ e. rw (get_or-set_other rule' n i r 0 (eqb-false i n e)) (w.follows i (let d = eqb-false i n e in omega arith)));
    }
