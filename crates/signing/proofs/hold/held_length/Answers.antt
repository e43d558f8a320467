-- The room that the job has decides. Assumes nothing.
use mathlib.Core.Path.{sym}
use Rattle.signing.proofs.Holding.{length_some, length_none}
use Rattle.signing.proofs.hold.held_length.Goals as goal

pub returns-then-len-gt-MOST_BYTES : goal.returns-then-len-gt-MOST_BYTES
returns-then-len-gt-MOST_BYTES c = sym (length_none _ c.if-len-gt-MOST_BYTES.true)

pub returns : goal.returns
returns c = sym (length_some _ c.if-len-gt-MOST_BYTES.false)
