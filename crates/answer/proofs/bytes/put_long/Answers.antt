-- The bytes of the number take the place of those that were there. Assumes nothing.
use mathlib.Core.List.{List, ◌++◌, append_assoc}
use mathlib.Core.Path.{sym, ◌∙◌, ap₂}
use Prim.Native.Nat.{ℕ, ◌+◌}
use native.Mathlib.Omega.{arith}
use lib.ListN.{take, drop}
use borrow.Rule.Slice.PartMut.{Post-is}
use Rattle.answer.specs.Bytes.{long_bytes, put_at}
use Rattle.answer.proofs.bytes.put_long.Goals as goal

pub returns : goal.returns
unfolding put_at
returns c =
    let out = c.args.out.now in
    let at = c.args.at in
    ap₂ (λ (new rest : List ℕ). take at out ++ (new ++ rest))
    (c.copy_from_slice.ensures.after ∙ c.to_le_bytes.ensures)
    (Post-is at (at + 4) out (omega arith))
    ∙ sym (append_assoc (take at out) (long_bytes c.args.x) (drop (at + 4) out))
