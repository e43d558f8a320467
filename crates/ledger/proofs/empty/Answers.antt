-- `ledger::empty` meets its contract: nobody is met, and every sum is zero. Assumes nothing.
use Rattle.ledger.proofs.Entered.{no_lines}
use Rattle.ledger.proofs.empty.Goals as goal

pub returns : goal.returns
returns c = no_lines
