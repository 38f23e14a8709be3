use Rattle.std.proofs.Common.{ap, ◌∙◌}
use Rattle.cmwq_lists.specs.ListContents.{first_in}
use Rattle.cmwq_phased.specs.Runs.{first_in_line}
use Rattle.cmwq_phased.specs.PhasedContents.{PhasedContents}
use Rattle.cmwq_phased.proofs.LineLemmas.{first_in_line_is}
use Rattle.cmwq_phased.proofs.phased_works.PhasedWorks.first_in_line.Goals as goal

pub returns-clause-first : goal.returns-clause-first
returns-clause-first c =
    let S = c.self.inside.scenario.value in
    let runs = c.self.inside.runs.items in
    let lines = c.self.inside.lines in
    c.front_key.ensures.first ∙ ap (first_in lines) c.from.ensures
    ∙ first_in_line_is S runs lines c.args.pool c.self.invariant.are_lined c.requires.pool
    ∙ ap (λ (m : PhasedContents). first_in_line m.scenario m.runs c.args.pool) c.self.view_is
