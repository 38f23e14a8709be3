use Rattle.std.proofs.Common.{◌&&◌, length, refl, sym, ap, ◌∙◌}
use Rattle.std.specs.Prelude.{is_some}
use Rattle.cmwq_types.specs.First.{count_below}
use Rattle.cmwq_types.specs.Scenario.{flags_at, queue_of}
use Rattle.cmwq_table.specs.State.{running_at}
use Rattle.cmwq_running.specs.RunningContents.{RunningContents, seen, state_of}
use Rattle.cmwq_running.proofs.ShownLemmas.{freezable_running_is}
use Rattle.cmwq_running.proofs.running_works.RunningWorks.freezable_running.Goals as goal

pub returns-clause-running : goal.returns-clause-running
returns-clause-running c =
    c.freezable_running.ensures.running
    ∙ sym (freezable_running_is c.self.inside.works.scenario (state_of (seen c.self.inside.time c.self.inside.works)) c.self.inside.works.runs refl)
    ∙ ap (λ (m : RunningContents). count_below (λ w. (flags_at m.scenario (queue_of m.scenario w)).freezable && is_some (running_at (state_of m) w)) (length m.scenario.works)) c.self.view_is
