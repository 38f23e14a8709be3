use Rattle.std.proofs.Common.{ap, ◌∙◌}
use Rattle.cmwq_queued.specs.Indexes.{timer_of}
use Rattle.cmwq_queued.specs.QueuedContents.{QueuedContents, pending_at}
use Rattle.cmwq_queued.proofs.queued_works.QueuedWorks.timers.Goals as goal

pub returns : goal.returns
returns c w = c.self.invariant.timed w ∙ ap (λ (m : QueuedContents). timer_of w (pending_at m.pending w)) c.self.view_is
