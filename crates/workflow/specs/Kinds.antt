-- The kinds of rules as the code has them. Assumes nothing.
use Rattle.workflow.specs.Problem.{Kind, same, different, at_most, at_least, maxLoad}
use Rattle.workflow.specs.declared.kind.RuleKind.{RuleKind}
use Rattle.workflow.specs.declared.kind.RuleKind.TheVariants.{Same, Different, AtMost, AtLeast, MaxLoad}

abbrev pub kind_of : RuleKind → Kind
kind_of Same = same
kind_of Different = different
kind_of AtMost = at_most
kind_of AtLeast = at_least
kind_of MaxLoad = maxLoad
