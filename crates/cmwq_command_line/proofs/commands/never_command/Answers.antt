use Rattle.std.specs.Prelude.{codes}
use Rattle.cmwq_command_line.proofs.CommandLemmas.{given, given_last, spanning}
use Rattle.cmwq_command_line.proofs.commands.never_command.Goals as goal

pub returns : goal.returns
returns c =
    let never = spanning c.several-works.result (codes "WORK") (codes "never") c.new.result.start c.new.result.end 1 2 c.new.ensures.start c.new.ensures.end c.several-works.ensures in
    let with_after = given _ _ c.valued.result _ _ c.in_ok-arg.ensures c.in_ok-command.ensures c.valued.ensures in
    let with_never = given _ _ c.several-works.result _ _ c.in_ok-arg-2.ensures with_after never in
    given_last _ c.flag.result _ _ _ c.arg-3.ensures with_never c.flag.ensures
