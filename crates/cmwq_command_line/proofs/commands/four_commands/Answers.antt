use Rattle.cmwq_command_line.specs.CommandLine.{asm_command, list_command, new_command, run_command}
use Rattle.cmwq_command_line.proofs.CommandLemmas.{joined, joined_last}
use Rattle.cmwq_command_line.proofs.commands.four_commands.Goals as goal

pub returns : goal.returns
returns c =
    let with_new = joined _ _ c.new_command.result _ new_command c.in_ok-program.ensures c.bare_program.ensures c.new_command.ensures in
    let with_run = joined _ _ c.run_command.result _ run_command c.in_ok-program-2.ensures with_new c.run_command.ensures in
    let with_list = joined _ _ c.list_command.result _ list_command c.in_ok-program-3.ensures with_run c.list_command.ensures in
    joined_last _ c.asm_command.result _ asm_command _ c.with-4.ensures with_list c.asm_command.ensures
