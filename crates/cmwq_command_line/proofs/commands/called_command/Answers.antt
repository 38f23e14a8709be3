use Rattle.std.proofs.Common.{rules, ◌≡◌, ◌∙◌, Ok, Some, ap}
use Rattle.cmwq_command_line.specs.CommandLine.{misusable}
use Rattle.cmwq_command_line.proofs.CommandLemmas.{named}
use Rattle.cmwq_command_line.proofs.commands.called_command.Goals as goal

pub returns-in_ok-called-in-Some-clause-command : goal.returns-in_ok-called-in-Some-clause-command
returns-in_ok-called-in-Some-clause-command c =
    let made : c.in-Some.command ≡ Ok c.in_ok-command-in-Some.field-0 = search rules in
    ap Some c.in_ok-called-in-Some.ensures.command
    ∙ named (misusable c.args.name.now) c.misusable.result c.in-Some.command c.in_ok-command-in-Some.field-0 c.misusable.ensures c.in-Some.is made
