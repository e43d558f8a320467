-- `pattern::rule::pack` meets its contract. Assumes nothing.
use Rattle.pattern.proofs.Packing.{packed}
use Rattle.pattern.proofs.rule.pack.Goals as goal

pub returns : goal.returns
returns c =
    let a = c.args in
    packed a.level a.least a.most a.load a.scope c.requires.0 c.requires.1 c.requires.2 c.requires.3 c.ranges.scope.fits
