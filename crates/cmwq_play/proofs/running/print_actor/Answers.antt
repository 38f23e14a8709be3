use Rattle.std.proofs.Common.{◌∙◌}
use Rattle.cmwq_table.specs.State.{start}
use Rattle.cmwq_types.specs.Scenario.{expand}
use Rattle.cmwq_play.proofs.CommandLemmas.{writes_more}
use Rattle.cmwq_play.proofs.RunLemmas.{replies-told}
use Rattle.cmwq_play.proofs.running.print_actor.Goals as goal

pub returns-clause-writes : goal.returns-clause-writes
returns-clause-writes g c =
    writes_more _ _ (g.W.Write.contents c.args.writer.now) _ _ c.tell_actor.result
    (λ output is. is ∙ replies-told _ c.args.scenario.now (start c.args.scenario.now) (expand c.args.actor.now)) c.tell_actor.ensures.writes
