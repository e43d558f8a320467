-- The instance of a readable job is one of the published problem: its classes nest, and its rules are in order. Assumes nothing.
use mathlib.Core.Path.{ap}
use Prim.Native.Nat.{ℕ, suc, ◌<◌}
use native.Mathlib.Omega.{arith}
use lib.Dec.{ltb}
use lib.ListN.{get_or}
use borrow.Author.Tests.{ltb-true, ltb-false}
use Rattle.bits.proofs.Below.{by_cases}
use Rattle.bits.specs.Word.{has_bit}
use Rattle.sheet.specs.Readable.{ReadableJob}
use Rattle.sheet.specs.declared.SheetJob as sheet
use Rattle.workflow.specs.Problem.{Nested, RuleOk}
use Rattle.workflow.specs.Numbered.{kind_in}
use Rattle.workflow.proofs.Rules.{rule_of_ok}
use Rattle.instance.specs.Instance.{class_number, instance_of}
use Rattle.instance.proofs.Classes.{class_level, past_classes}

module _ (people steps rules : ℕ) (j : sheet.SheetJob) (r : ReadableJob people steps rules j) where
  pub instance_nested : Nested (instance_of people steps rules j)
  instance_nested =
      record {
        finer = λ q p p' a b l m e.
            by_cases (ltb (suc q) j.levels)
            (λ t.
            let c = ltb-true (suc q) j.levels t in
            let up = class_level j.levels q a b in
            let down = class_level j.levels (suc q) (omega arith) c in
            rw up (r.nested q p p' a c l m (rw down at e)))
            (λ t. ap (class_number j q) (rw (past_classes j.levels (suc q) (ltb-false (suc q) j.levels t)) at e));
        person = λ p p' l m e. rw (past_classes j.levels j.levels (omega arith)) at e;
      }

  pub instance_rules : (i : ℕ) → i < rules → RuleOk steps j.levels ((instance_of people steps rules j).rule i)
  instance_rules i l =
      let k = r.rule i l in
      rule_of_ok steps j.levels (kind_in (get_or j.rule_kind i 0)) (get_or j.rule_level i 0) (get_or j.rule_limit i 0) (has_bit (get_or j.rule_scope i 0))
      k.level_from k.level_to
