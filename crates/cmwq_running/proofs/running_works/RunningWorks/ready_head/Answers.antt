use Rattle.std.proofs.Common.{refl, sym, ap, ◌∙◌}
use Rattle.cmwq_table.specs.Counts.{ready_head}
use Rattle.cmwq_running.specs.RunningContents.{RunningContents, seen, state_of}
use Rattle.cmwq_running.proofs.ShownLemmas.{ready_head_is}
use Rattle.cmwq_running.proofs.running_works.RunningWorks.ready_head.Goals as goal

pub returns-clause-first : goal.returns-clause-first
returns-clause-first c =
    c.ready_run.ensures.first
    ∙ sym (ready_head_is c.self.inside.works.scenario (state_of (seen c.self.inside.time c.self.inside.works)) c.self.inside.works.runs c.args.pool refl c.self.invariant.timely)
    ∙ ap (λ (m : RunningContents). ready_head m.scenario (state_of m) c.args.pool) c.self.view_is
