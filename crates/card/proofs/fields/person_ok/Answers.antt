-- `card::fields::person_ok` meets its contract: the code is the definition's expression, over the bytes read. Assumes nothing.
use Rattle.card.specs.Fields.{person_ok}
use Rattle.card.proofs.fields.person_ok.Goals as goal

pub returns : goal.returns
unfolding person_ok
returns c =
    rw (
      c.class_field_ok-3.ensures,
      c.word-4.ensures.0,
      c.class_field_ok-2.ensures,
      c.word-3.ensures.0,
      c.class_field_ok.ensures,
      c.word-2.ensures.0,
      c.word.ensures.0,
      c.long.ensures.0,
      c.byte.ensures.0,
      c.class_levels-levels.ensures.0,
    )
