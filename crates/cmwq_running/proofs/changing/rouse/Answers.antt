use Rattle.std.proofs.Common.{Some, ap, ◌∙◌}
use Rattle.cmwq_phased.specs.declared.run.Phase.{Phase}
use Rattle.cmwq_running.specs.RunningContents.{roused}
use Rattle.cmwq_running.proofs.StepLemmas.{newest_last, newest_own}
use Rattle.cmwq_running.proofs.changing.rouse.Goals as goal

pub carry_on-requires-clause-was : goal.carry_on-requires-clause-was
carry_on-requires-clause-was c = c.requires.was ∙ ap (λ (phase : Phase). Some (record c.args.run { phase = phase })) c.in-Slept.is

pub carry_on-requires-clause-own_stamp : goal.carry_on-requires-clause-own_stamp
carry_on-requires-clause-own_stamp c = newest_own c.args.time c.args.works.now.runs c.args.w (roused c.args.run c.args.stamp) c.requires.newest

pub carry_on-requires-clause-last : goal.carry_on-requires-clause-last
carry_on-requires-clause-last c = newest_last c.args.time c.args.works.now.runs c.args.w (roused c.args.run c.args.stamp) c.requires.newest
