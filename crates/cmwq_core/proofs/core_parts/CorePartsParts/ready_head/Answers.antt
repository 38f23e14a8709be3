use Rattle.std.proofs.Common.{ap, ◌∙◌}
use Rattle.cmwq_types.specs.Contents.{ScenarioContents}
use Rattle.cmwq_table.specs.Counts.{ready_head}
use Rattle.cmwq_table.specs.Ready.{Loaded}
use Rattle.cmwq_running.specs.RunningContents.{state_of}
use Rattle.cmwq_core.proofs.core_parts.CorePartsParts.ready_head.Goals as goal

pub returns-clause-first : goal.returns-clause-first
returns-clause-first c =
    c.ready_head-2.ensures.first ∙ ap (λ (S : ScenarioContents). ready_head S (state_of c.self.inside.running) c.args.pool) c.self.invariant.laid.sized.same
    ∙ ap (λ (m : Loaded). ready_head m.scenario m.state c.args.pool) c.self.view_is
