-- `sheet::read::fill_job` meets its contract: each array is its table. Assumes nothing.
use lib.ListN.{length}
use Prim.Native.Nat.{◌+◌}
use native.Mathlib.Omega.{arith}
use Rattle.sheet.specs.Answer.{job_of}
use Rattle.sheet.proofs.read.fill_job.Goals as goal

pub classes-class-requires : goal.classes-class-requires
classes-class-requires c =
    let e = c.class_levels-above.ensures.0 in
    (c.requires.0, e, omega (arith, e, c.requires.5))

pub bytes-rule_limit-requires : goal.bytes-rule_limit-requires
bytes-rule_limit-requires c = (c.requires.3, omega arith)

pub bytes-skipped-requires : goal.bytes-skipped-requires
bytes-skipped-requires c = (c.requires.1, omega arith)

pub returns : goal.returns
unfolding job_of
returns c =
    λ i.
    record {
      people = length c.args.people.now;
      steps = length c.args.steps.now;
      rules = length c.args.rules.now;
      levels = (c.class_levels-above.ensures.0 i) + 1;
      person_tag = c.tags-person_tag.ensures i;
      step_tag = c.tags-step_tag.ensures i;
      skipped = c.bytes-skipped.ensures i;
      class = c.classes-class.ensures i;
      permitted = c.words-permitted.ensures i;
      rule_scope = c.words-rule_scope.ensures i;
      rule_kind = c.bytes-rule_kind.ensures i;
      rule_level = c.bytes-rule_level.ensures i;
      rule_limit = c.bytes-rule_limit.ensures i;
    }
