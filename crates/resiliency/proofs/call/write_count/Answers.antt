-- Each answer has its bytes. Assumes nothing.
use mathlib.Core.List.{[]}
use mathlib.Core.Path.{refl, subst}
use Rattle.resiliency.specs.Left.{Groups}
use Rattle.resiliency.proofs.Written.{left_none, left_capped, left_group}
use Rattle.resiliency.proofs.call.write_count.Goals as goal

pub returns-in-Capped : goal.returns-in-Capped
returns-in-Capped c = left_capped _ _ _ _ _ c.requires.1 c.in-Capped.is c.put_four.ensures

pub returns-in-Unsatisfiable : goal.returns-in-Unsatisfiable
returns-in-Unsatisfiable c = left_none _ _ [] _ _ c.on.ensures c.in-Unsatisfiable.is

pub returns-in-Broken : goal.returns-in-Broken
returns-in-Broken c =
    left_group _ _ _ _ _ c.in-Broken.group (subst Groups c.in-Broken.is c.requires.3).0 c.in-Broken.is _ _ _ _ refl c.tag_at-first.ensures
    c.tag_at-second.ensures c.tag_at-third.ensures c.put_four-in-Broken.ensures
