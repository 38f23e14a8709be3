use Rattle.std.proofs.Common.{refl, sym, ap, ◌∙◌}
use Rattle.cmwq_table.specs.Counts.{first_slept}
use Rattle.cmwq_running.specs.RunningContents.{RunningContents, seen, state_of}
use Rattle.cmwq_running.proofs.ShownLemmas.{first_slept_is}
use Rattle.cmwq_running.proofs.running_works.RunningWorks.first_slept.Goals as goal

pub returns-clause-first : goal.returns-clause-first
returns-clause-first c =
    c.first_rested.ensures.first
    ∙ sym (first_slept_is c.self.inside.works.scenario (state_of (seen c.self.inside.time c.self.inside.works)) c.self.inside.works.runs c.args.pool refl c.self.invariant.timely)
    ∙ ap (λ (m : RunningContents). first_slept m.scenario (state_of m) c.args.pool) c.self.view_is
