use Rattle.cmwq_command_line.proofs.CommandLemmas.{given, given_last}
use Rattle.cmwq_command_line.proofs.commands.trace_command.Goals as goal

pub returns : goal.returns
returns c =
    let with_json = given _ _ c.flag.result _ _ c.in_ok-arg.ensures c.in_ok-on_text.ensures c.flag.ensures in
    let with_lines = given _ _ c.flag-2.result _ _ c.in_ok-arg-2.ensures with_json c.flag-2.ensures in
    let with_text = given _ _ c.flag-3.result _ _ c.in_ok-arg-3.ensures with_lines c.flag-3.ensures in
    given_last _ c.valued.result _ _ _ c.arg-4.ensures with_text c.valued.ensures
