use Rattle.cmwq_command_line.proofs.CommandLemmas.{given, given_last}
use Rattle.cmwq_command_line.proofs.commands.asking_command.Goals as goal

pub returns : goal.returns
returns c =
    let with_work = given _ _ c.optional-work.result _ _ c.in_ok-arg.ensures c.in_ok-command.ensures c.optional-work.ensures in
    let with_flush = given _ _ c.valued.result _ _ c.in_ok-arg-2.ensures with_work c.valued.ensures in
    given_last _ c.valued-2.result _ _ _ c.arg-3.ensures with_flush c.valued-2.ensures
