-- `remaining::job_over` meets its contract: each array is that of `job_over`. Assumes nothing.
use lib.ListN.{length}
use Rattle.sheet.specs.Answer.{zeros}
use Rattle.remaining.specs.Remaining.{job_over}
use Rattle.remaining.proofs.job_over.Goals as goal

pub returns : goal.returns
unfolding job_over
returns c =
    λ i.
    let j = c.args.job in
    record {
      people = j.people;
      steps = length c.args.kept.now;
      rules = j.rules;
      levels = j.levels;
      person_tag = j.person_tag;
      step_tag = c.tags_left.ensures i;
      skipped = zeros 64;
      class = j.class;
      permitted = c.sets_left.ensures i;
      rule_scope = c.sets_left-2.ensures i;
      rule_kind = j.rule_kind;
      rule_level = j.rule_level;
      rule_limit = j.rule_limit;
    }
