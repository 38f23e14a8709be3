use Rattle.cmwq_command_line.proofs.CommandLemmas.{given, given_last}
use Rattle.cmwq_command_line.proofs.commands.draw_command.Goals as goal

pub returns : goal.returns
returns c =
    let with_fold = given _ _ c.flag.result _ _ c.in_ok-arg.ensures c.in_ok-spanned_command.ensures c.flag.ensures in
    let with_works = given _ _ c.valued.result _ _ c.in_ok-arg-2.ensures with_fold c.valued.ensures in
    let with_scale = given _ _ c.valued-2.result _ _ c.in_ok-arg-3.ensures with_works c.valued-2.ensures in
    given_last _ c.valued-3.result _ _ _ c.arg-4.ensures with_scale c.valued-3.ensures
