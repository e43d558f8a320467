-- The refusal that is given, or the job, is what `checked` gives, over the arrays. Assumes nothing.
use native.Mathlib.Omega.{arith}
use Rattle.sheet.proofs.Arrays.{Filled, person-tags-length, classes_length, levels_few, given_refusal, given_job}
use Rattle.sheet.proofs.read.after_rules.Goals as goal

pub fill_job-job-requires : goal.fill_job-job-requires
fill_job-job-requires c =
    let q = c.requires in
    (q.0, q.1, q.2, q.3, omega (arith, q.4.some, q.4.whole), q.4.levels)

pub tag_on_two-requires : goal.tag_on_two-requires
tag_on_two-requires c =
    let q = c.requires in
    person-tags-length (record { people_listed = q.0; few = q.2; arrays = c.fill_job-job.ensures; few_levels = q.4.levels })

pub class_in_two-requires : goal.class_in_two-requires
class_in_two-requires c =
    let q = c.requires in
    let w : Filled c.args.s.now c.args.people.now c.args.steps.now c.args.rules.now c.fill_job-job.result
    = record { people_listed = q.0; few = q.2; arrays = c.fill_job-job.ensures; few_levels = q.4.levels } in
    (classes_length w, levels_few w, q.0.fits)

pub returns-in-Some : goal.returns-in-Some
returns-in-Some c =
    let q = c.requires in
    given_refusal (record { people_listed = q.0; few = q.2; arrays = c.fill_job-job.ensures; few_levels = q.4.levels }) q.4 _ _ _ _ _
    c.tag_on_two.ensures c.tag_on_two-2.ensures c.class_in_two.ensures c.on_no_chain.ensures c.first_given-given.ensures c.in-Some.is

pub returns-in-None : goal.returns-in-None
returns-in-None c =
    let q = c.requires in
    given_job (record { people_listed = q.0; few = q.2; arrays = c.fill_job-job.ensures; few_levels = q.4.levels }) q.4 _ _ _ _ _
    c.tag_on_two.ensures c.tag_on_two-2.ensures c.class_in_two.ensures c.on_no_chain.ensures c.first_given-given.ensures c.in-None.is
