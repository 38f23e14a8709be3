use Rattle.std.proofs.Common.{Some, refl, ap, ◌∙◌}
use Rattle.cmwq_phased.specs.Indexes.{standing_of}
use Rattle.cmwq_phased.proofs.ChangeLemmas.{lined_still, stands_still}
use Rattle.cmwq_phased.proofs.lines.line_up_in_pool.Goals as goal

pub returns-else-not-stays_in_line : goal.returns-else-not-stays_in_line
returns-else-not-stays_in_line c =
    let S = c.args.scenario.now in
    let same = ap (standing_of S) c.requires.was ∙ stands_still S c.args.was c.args.run c.is_unbound.result c.requires.pool c.is_unbound.ensures (c.if-not-stays_in_line.ensures refl) in
    record { lined = lined_still S c.args.runs.now c.args.lines.now c.args.w (Some c.args.run) c.requires.lined c.requires.runs.long c.requires.work same }
