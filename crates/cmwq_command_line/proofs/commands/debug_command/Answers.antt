use Rattle.cmwq_command_line.proofs.CommandLemmas.{given_last}
use Rattle.cmwq_command_line.proofs.commands.debug_command.Goals as goal

pub returns : goal.returns
returns c =
    given_last _ c.settle_flag.result _ _ _ c.arg.ensures c.in_ok-on_text.ensures c.settle_flag.ensures
