-- `search::refute::refuted` meets its contract: every valid plan is one of the relaxed job. Assumes nothing.
use Rattle.levels.specs.declared.Tables.{Tables}
use Rattle.levels.specs.Tabled.{Ready}
use Rattle.pattern.specs.Given.{Classed}
use Rattle.pattern.proofs.Classes.{numbered_classed}
use Rattle.relax.proofs.Relaxation.{relaxes}
use Rattle.search.proofs.Relaxing.{refuting}
use Rattle.search.proofs.refute.refuted.Goals as goal

-- the job by the numbers of its classes
classed : {t : Tables} → Ready t → Classed t.size t.class t.rule
classed r = numbered_classed r.tabled.given r.numbers

pub carry-carried-requires : goal.carry-carried-requires
carry-carried-requires c = (classed c.requires.0, c.requires.3, c.requires.4)

pub keep-relaxed-requires : goal.keep-relaxed-requires
keep-relaxed-requires c =
    let t = c.args.tables.now in
    (relaxes t.size t.class t.rule (classed c.requires.0) c.args.q c.requires.3 c.requires.4 c.carry-carried.result c.carry-carried.ensures).given

pub returns : goal.returns
returns c =
    let t = c.args.tables.now in
    let law = relaxes t.size t.class t.rule (classed c.requires.0) c.args.q c.requires.3 c.requires.4 c.carry-carried.result c.carry-carried.ensures in
    (refuting c.requires.0 law c.keep-relaxed.ensures c.args.may.now c.by_patterns.result c.is_none.result c.is_none.ensures c.by_patterns.ensures.0, c.by_patterns.ensures.1)
