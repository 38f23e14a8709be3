use Rattle.std.specs.Prelude.{codes}
use Rattle.cmwq_command_line.proofs.CommandLemmas.{given, given_last, spanning}
use Rattle.cmwq_command_line.proofs.commands.times_command.Goals as goal

pub returns : goal.returns
returns c =
    let sweep = spanning c.several-sweep.result (codes "SWEEP") (codes "sweep") c.new.result.start c.new.result.end 2 2 c.new.ensures.start c.new.ensures.end c.several-sweep.ensures in
    let with_json = given _ _ c.flag.result _ _ c.in_ok-arg.ensures c.in_ok-command.ensures c.flag.ensures in
    let with_whom = given _ _ c.flag-2.result _ _ c.in_ok-arg-2.ensures with_json c.flag-2.ensures in
    given_last _ c.several-sweep.result _ _ _ c.arg-3.ensures with_whom sweep
