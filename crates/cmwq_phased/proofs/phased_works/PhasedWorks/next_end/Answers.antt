use Rattle.std.proofs.Common.{ap, ◌∙◌}
use Rattle.cmwq_phased.specs.Runs.{first_to_end}
use Rattle.cmwq_phased.specs.PhasedContents.{PhasedContents, end_of}
use Rattle.cmwq_phased.proofs.AlarmLemmas.{next_end_found}
use Rattle.cmwq_phased.proofs.phased_works.PhasedWorks.next_end.Goals as goal

pub returns : goal.returns
returns c =
    c.next_due.ensures
    ∙ next_end_found c.self.inside.scenario.value c.self.inside.runs.items c.self.inside.alarms c.self.invariant.are_timed c.self.invariant.are_runs.long
    ∙ ap (λ (m : PhasedContents). end_of m.runs (first_to_end m.scenario m.runs)) c.self.view_is
