use Rattle.std.proofs.Common.{ap}
use Rattle.std.specs.Prelude.{Some, codes}
use Rattle.clap.specs.Words.{Rule, rule_of}
use Rattle.clap.specs.declared.builder.action.ArgAction.TheVariants.{Append}
use Rattle.clap.specs.declared.builder.arg.Arg.{Arg}
use Rattle.cmwq_command_line.specs.CommandLine.{several_rule}
use Rattle.cmwq_command_line.proofs.CommandLemmas.{changed, given, given_last, spanning}
use Rattle.cmwq_command_line.proofs.commands.explore_command.Goals as goal

pub returns : goal.returns
returns c =
    let two = spanning c.several-before.result (codes "BEFORE") (codes "before") c.new.result.start c.new.result.end 2 2 c.new.ensures.start c.new.ensures.end c.several-before.ensures in
    let before =
    changed c.several-before.result c.action.result (several_rule (codes "BEFORE") (codes "before") 2 2) (λ (r : Rule). record r { action = Some Append }) two
    (ap rule_of c.action.ensures) (ap (λ (a : Arg). a.global) c.action.ensures) in
    let with_before = given _ _ c.action.result _ _ c.in_ok-arg.ensures c.in_ok-command.ensures before in
    given_last _ c.valued.result _ _ _ c.arg-2.ensures with_before c.valued.ensures
