-- The job that the tables pose has the spare count of the sheet's. Assumes nothing.
use mathlib.Core.Path.{◌∙◌}
use native.Mathlib.Omega.{arith}
use Rattle.sheet.proofs.Readable.{fewer_counted}
use Rattle.resiliency.proofs.Sizes.{spare_other}
use Rattle.tables.proofs.Posing.{posed_valid}
use Rattle.tables.proofs.Same.{permits}
use Rattle.resiliency.proofs.job.job_count.Goals as goal

pub may_masks-may-requires : goal.may_masks-may-requires
may_masks-may-requires c = let r = c.requires.0 in (r.sized.permitted, r.people_most)

pub pose-requires : goal.pose-requires
pose-requires c = fewer_counted c.requires.0 (omega arith)

pub spare_count-requires : goal.spare_count-requires
spare_count-requires c = (c.pose.ensures.ready, c.may_masks-may.ensures.size, c.requires.1)

pub returns : goal.returns
returns c =
    let w = c.pose.ensures in
    let m = permits _ _ _ c.requires.0.steps_most c.may_masks-may.ensures in (
      c.spare_count.ensures.0
          ∙ spare_other _ _ _ _ w.same.steps w.same.people (λ π. (posed_valid w m π).1) (λ π. (posed_valid w m π).0) c.args.cap,
      c.spare_count.ensures.1,
    )
