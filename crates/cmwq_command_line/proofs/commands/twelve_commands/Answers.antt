use Rattle.cmwq_command_line.specs.CommandLine.{draw_command, explore_command, settle_command, why_command}
use Rattle.cmwq_command_line.proofs.CommandLemmas.{joined, joined_last}
use Rattle.cmwq_command_line.proofs.commands.twelve_commands.Goals as goal

pub returns : goal.returns
returns c =
    let with_settle = joined _ _ c.settle_command.result _ settle_command c.in_ok-program.ensures c.in_ok-eight_commands.ensures c.settle_command.ensures in
    let with_draw = joined _ _ c.draw_command.result _ draw_command c.in_ok-program-2.ensures with_settle c.draw_command.ensures in
    let with_why = joined _ _ c.why_command.result _ why_command c.in_ok-program-3.ensures with_draw c.why_command.ensures in
    joined_last _ c.explore_command.result _ explore_command _ c.with-4.ensures with_why c.explore_command.ensures
