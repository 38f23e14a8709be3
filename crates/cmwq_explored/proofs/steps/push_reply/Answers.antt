use Rattle.std.proofs.Common.{sym, ◌∙◌}
use Rattle.cmwq_explored.proofs.StepLemmas.{pushed}
use Rattle.cmwq_explored.proofs.steps.push_reply.Goals as goal

pub returns-clause-text : goal.returns-clause-text
returns-clause-text c =
    pushed c.args.lines.now c.args.time c.args.instr c.args.reply.now c.args.text.now c.write.new.self c.push.new.block c.push.result
    (sym c.is_silent.ensures ∙ c.if-is_silent.false) c.in_ok-write.ensures c.push.ensures.line
