use Rattle.cmwq_command_line.specs.CommandLine.{times_command, trace_command}
use Rattle.cmwq_command_line.proofs.CommandLemmas.{joined, joined_last}
use Rattle.cmwq_command_line.proofs.commands.command_line.Goals as goal

pub returns : goal.returns
returns c =
    let with_times = joined _ _ c.times_command.result _ times_command c.in_ok-program.ensures c.in_ok-twelve_commands.ensures c.times_command.ensures in
    joined_last _ c.trace_command.result _ trace_command _ c.with-2.ensures with_times c.trace_command.ensures
