-- `card::fields::header_ok` meets its contract: the code is the definition's expression, over the bytes read. Assumes nothing.
use Rattle.card.specs.Fields.{header_ok}
use Rattle.card.proofs.fields.header_ok.Goals as goal

pub returns : goal.returns
unfolding header_ok
returns c =
    rw (
      c.word-3.ensures.0,
      c.byte-4.ensures.0,
      c.word-2.ensures.0,
      c.word.ensures.0,
      c.form_ok.ensures,
      c.byte-3.ensures.0,
      c.byte-2.ensures.0,
      c.byte.ensures.0,
    )
