use Rattle.cmwq_command_line.proofs.CommandLemmas.{given, given_last}
use Rattle.cmwq_command_line.proofs.commands.run_command.Goals as goal

pub returns : goal.returns
returns c =
    let with_settle = given _ _ c.settle_flag.result _ _ c.in_ok-arg.ensures c.in_ok-on_text.ensures c.settle_flag.ensures in
    let with_tell = given _ _ c.flag.result _ _ c.in_ok-arg-2.ensures with_settle c.flag.ensures in
    given_last _ c.flag-2.result _ _ _ c.arg-3.ensures with_tell c.flag-2.ensures
