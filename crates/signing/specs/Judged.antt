-- What a signing comes to, once it is judged. Assumes nothing.
use Rattle.std.specs.Prelude.{Result, Ok, Err, List, ℕ}
use Rattle.card.specs.Refusals.{fault_number}
use Rattle.card.specs.declared.refusal.Fault.{Fault}
use Rattle.signing.specs.Sign.{refused_signing}
use Rattle.signing.specs.State.{Answered, with_signers}
use Rattle.signing.specs.declared.JobState.{JobState}

-- a grant with who has signed then, or a refusal
abbrev pub concluded : JobState → Result (List ℕ) Fault → Answered
concluded j (Ok signer) = record { number = 0; job = with_signers j signer }
concluded j (Err f) = refused_signing (fault_number f) j
