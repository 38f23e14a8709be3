use Rattle.cmwq_command_line.specs.CommandLine.{check_command, debug_command, play_command, show_command}
use Rattle.cmwq_command_line.proofs.CommandLemmas.{joined, joined_last}
use Rattle.cmwq_command_line.proofs.commands.eight_commands.Goals as goal

pub returns : goal.returns
returns c =
    let with_show = joined _ _ c.show_command.result _ show_command c.in_ok-program.ensures c.in_ok-four_commands.ensures c.show_command.ensures in
    let with_debug = joined _ _ c.debug_command.result _ debug_command c.in_ok-program-2.ensures with_show c.debug_command.ensures in
    let with_play = joined _ _ c.play_command.result _ play_command c.in_ok-program-3.ensures with_debug c.play_command.ensures in
    joined_last _ c.check_command.result _ check_command _ c.with-4.ensures with_play c.check_command.ensures
