-- `card::fields::rule_ok` meets its contract: the code is the definition's expression, over the bytes read. Assumes nothing.
use Rattle.card.specs.Fields.{rule_ok}
use Rattle.card.proofs.fields.rule_ok.Goals as goal

pub returns : goal.returns
unfolding rule_ok
returns c =
    rw (
      c.long-2.ensures.0,
      c.long.ensures.0,
      c.limit_ok.ensures,
      c.scope_size.ensures,
      c.byte-2.ensures.0,
      c.byte.ensures.0,
      c.word-scope.ensures.0,
      c.byte-level.ensures.0,
      c.class_levels-levels.ensures.0,
    )
