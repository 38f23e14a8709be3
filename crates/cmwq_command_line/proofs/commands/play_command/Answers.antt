use Rattle.std.proofs.Common.{ap}
use Rattle.std.specs.Prelude.{Some, codes}
use Rattle.clap.specs.Words.{Rule, rule_of}
use Rattle.clap.specs.declared.builder.arg.Arg.{Arg}
use Rattle.cmwq_command_line.specs.CommandLine.{required_rule}
use Rattle.cmwq_command_line.proofs.CommandLemmas.{changed, given_last}
use Rattle.cmwq_command_line.proofs.commands.play_command.Goals as goal

pub returns : goal.returns
returns c =
    let capacity =
    changed c.argument-capacity.result c.long.result (required_rule (codes "N")) (λ (r : Rule). record r { long = Some (codes "capacity") }) c.argument-capacity.ensures
    (ap rule_of c.long.ensures) (ap (λ (a : Arg). a.global) c.long.ensures) in
    given_last _ c.long.result _ _ _ c.arg.ensures c.in_ok-command.ensures capacity
