use Rattle.cmwq_command_line.proofs.CommandLemmas.{given, given_last}
use Rattle.cmwq_command_line.proofs.commands.spanned_command.Goals as goal

pub returns : goal.returns
returns c =
    let with_settle = given _ _ c.settle_flag.result _ _ c.in_ok-arg.ensures c.in_ok-on_text.ensures c.settle_flag.ensures in
    let with_svg = given _ _ c.flag.result _ _ c.in_ok-arg-2.ensures with_settle c.flag.ensures in
    let with_from = given _ _ c.valued.result _ _ c.in_ok-arg-3.ensures with_svg c.valued.ensures in
    given_last _ c.valued-2.result _ _ _ c.arg-4.ensures with_from c.valued-2.ensures
