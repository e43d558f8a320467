-- `answer::crew::answer_crew` meets its contract: a plan is written, or the refusal given. Assumes nothing.
use Rattle.answer.proofs.CrewCases.{answers_none, answers_found}
use Rattle.answer.proofs.crew.answer_crew.Goals as goal

pub returns-in_default : goal.returns-in_default
returns-in_default c = answers_none c.args.job.now _ _ _ c.in_default.is c.on.ensures

pub returns : goal.returns
returns c = answers_found c.args.job.now _ _ _ c.in-Some.is c.write_crew.ensures
