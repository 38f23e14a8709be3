use Rattle.std.proofs.Common.{ap, ◌∙◌}
use Rattle.cmwq_lists.specs.ListContents.{first_in}
use Rattle.cmwq_phased.specs.Runs.{first_rested}
use Rattle.cmwq_phased.specs.PhasedContents.{PhasedContents}
use Rattle.cmwq_phased.proofs.LineLemmas.{first_rested_is}
use Rattle.cmwq_phased.proofs.phased_works.PhasedWorks.first_rested.Goals as goal

pub returns-clause-first : goal.returns-clause-first
returns-clause-first c =
    let S = c.self.inside.scenario.value in
    let runs = c.self.inside.runs.items in
    let lines = c.self.inside.lines in
    c.front_key.ensures.first ∙ ap (first_in lines) c.rested_list.ensures
    ∙ first_rested_is S runs lines c.args.pool c.self.invariant.are_runs c.self.invariant.are_lined c.requires.pool
    ∙ ap (λ (m : PhasedContents). first_rested m.scenario m.runs c.args.pool) c.self.view_is
