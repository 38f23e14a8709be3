use Rattle.cmwq_command_line.proofs.CommandLemmas.{given, given_last}
use Rattle.cmwq_command_line.proofs.commands.why_command.Goals as goal

pub returns : goal.returns
returns c =
    let with_every = given _ _ c.flag.result _ _ c.in_ok-arg.ensures c.in_ok-asking_command.ensures c.flag.ensures in
    let with_time = given _ _ c.valued.result _ _ c.in_ok-arg-2.ensures with_every c.valued.ensures in
    given_last _ c.settle_flag.result _ _ _ c.arg-3.ensures with_time c.settle_flag.ensures
