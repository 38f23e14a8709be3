use Rattle.std.proofs.Common.{Option, set, ap, subst, sym, ◌∙◌}
use Rattle.cmwq_lists.specs.ListContents.{ListContents, with_rank}
use Rattle.cmwq_phased.specs.Indexes.{AreLined, rank_of}
use Rattle.cmwq_phased.specs.declared.lines.Standing.{Standing}
use Rattle.cmwq_phased.proofs.ChangeLemmas.{lined_with}
use Rattle.cmwq_phased.proofs.lines.line_up.Goals as goal

pub returns : goal.returns
returns c =
    let S = c.args.scenario.now in
    let runs = c.args.runs.now in
    let lines = c.args.lines.now in
    let is = c.move_to.ensures ∙ ap (λ (s : Option Standing). with_rank lines c.args.w (rank_of s)) c.standing_of.ensures in
    record { lined = subst (λ (l : ListContents). AreLined S (set runs c.args.w c.args.run) l) (sym is) (lined_with S runs lines c.args.w c.args.run c.requires.lined c.requires.runs.long c.requires.work) }
