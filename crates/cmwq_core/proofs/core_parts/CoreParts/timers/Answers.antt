use Rattle.std.proofs.Common.{ap, ◌∙◌}
use Rattle.cmwq_queued.specs.Indexes.{timer_of}
use Rattle.cmwq_table.specs.Ready.{Loaded}
use Rattle.cmwq_table.specs.State.{pending_at}
use Rattle.cmwq_core.proofs.core_parts.CoreParts.timers.Goals as goal

pub returns : goal.returns
returns c w = c.timers.ensures w ∙ ap (λ (m : Loaded). timer_of w (pending_at m.state w)) c.self.view_is
