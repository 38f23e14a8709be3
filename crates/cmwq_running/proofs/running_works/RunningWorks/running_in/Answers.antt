use Rattle.std.proofs.Common.{◌&&◌, ◌==◌, length, refl, sym, ap, ◌∙◌}
use Rattle.cmwq_types.specs.First.{count_below}
use Rattle.cmwq_types.specs.Scenario.{queue_of}
use Rattle.cmwq_table.specs.Counts.{runs}
use Rattle.cmwq_table.specs.State.{running_at}
use Rattle.cmwq_running.specs.RunningContents.{RunningContents, seen, state_of}
use Rattle.cmwq_running.proofs.ShownLemmas.{running_in_is}
use Rattle.cmwq_running.proofs.running_works.RunningWorks.running_in.Goals as goal

pub returns-clause-running : goal.returns-clause-running
returns-clause-running c =
    c.running_in.ensures.running
    ∙ sym (running_in_is c.self.inside.works.scenario (state_of (seen c.self.inside.time c.self.inside.works)) c.self.inside.works.runs refl c.args.queue c.args.pool)
    ∙ ap (λ (m : RunningContents). count_below (λ w. (queue_of m.scenario w == c.args.queue) && runs (λ r. r.pool == c.args.pool) (running_at (state_of m) w)) (length m.scenario.works)) c.self.view_is
