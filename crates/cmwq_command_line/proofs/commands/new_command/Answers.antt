use Rattle.cmwq_command_line.proofs.CommandLemmas.{given_last}
use Rattle.cmwq_command_line.proofs.commands.new_command.Goals as goal

pub returns : goal.returns
returns c =
    given_last _ c.optional-file.result _ _ _ c.arg.ensures c.command.ensures c.optional-file.ensures
