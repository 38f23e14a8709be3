use Rattle.std.proofs.Common.{Some, ap, ◌∙◌}
use Rattle.cmwq_phased.specs.Runs.{first_to_end}
use Rattle.cmwq_phased.specs.PhasedContents.{PhasedContents, if_ends_by}
use Rattle.cmwq_phased.proofs.AlarmLemmas.{ends_by_found}
use Rattle.cmwq_phased.proofs.phased_works.PhasedWorks.first_to_end_by.Goals as goal

pub returns-in_err-work-clause-first : goal.returns-in_err-work-clause-first
returns-in_err-work-clause-first c =
    c.from_residual.ensures
    ∙ c.in_err-work.ensures.first
    ∙ ends_by_found c.self.inside.scenario.value c.self.inside.runs.items c.self.inside.alarms c.self.invariant.are_timed c.self.invariant.are_runs.long c.args.time
    ∙ ap (λ (m : PhasedContents). if_ends_by m.runs c.args.time (first_to_end m.scenario m.runs)) c.self.view_is

pub returns-clause-first : goal.returns-clause-first
returns-clause-first c =
    ap Some c.from.ensures
    ∙ c.in_ok-work.ensures.first
    ∙ ends_by_found c.self.inside.scenario.value c.self.inside.runs.items c.self.inside.alarms c.self.invariant.are_timed c.self.invariant.are_runs.long c.args.time
    ∙ ap (λ (m : PhasedContents). if_ends_by m.runs c.args.time (first_to_end m.scenario m.runs)) c.self.view_is
