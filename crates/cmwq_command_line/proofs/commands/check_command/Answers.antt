use Rattle.std.proofs.Common.{ap}
use Rattle.std.specs.Prelude.{Some, codes}
use Rattle.clap.specs.Words.{Rule, rule_of}
use Rattle.clap.specs.declared.builder.action.ArgAction.TheVariants.{Append}
use Rattle.clap.specs.declared.builder.arg.Arg.{Arg}
use Rattle.cmwq_command_line.specs.CommandLine.{required_rule}
use Rattle.cmwq_command_line.proofs.CommandLemmas.{changed, given_last}
use Rattle.cmwq_command_line.proofs.commands.check_command.Goals as goal

pub returns : goal.returns
returns c =
    let files =
    changed c.argument-files.result c.action.result (required_rule (codes "FILE")) (λ (r : Rule). record r { action = Some Append }) c.argument-files.ensures
    (ap rule_of c.action.ensures) (ap (λ (a : Arg). a.global) c.action.ensures) in
    given_last _ c.action.result _ _ _ c.arg.ensures c.command.ensures files
