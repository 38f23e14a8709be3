use Rattle.std.proofs.Common.{List, Option, Some, None, ap, sym, ◌∙◌}
use Rattle.std.proofs.lemmas.List.{set-set}
use Rattle.cmwq_lists.specs.ListContents.{ListContents, Rank, with_rank}
use Rattle.cmwq_phased.specs.Indexes.{rank_of, ranked}
use Rattle.cmwq_phased.specs.declared.lines.Standing.{Standing}
use Rattle.cmwq_phased.proofs.lines.move_to.Goals as goal

pub returns-in-Some : goal.returns-in-Some
returns-in-Some c =
    let lines = c.args.lines.now in
    let rank = Some (ranked c.in-Some.field-0) in
    c.stand_in.ensures ∙ ap (λ (l : ListContents). with_rank l c.args.w rank) c.leave.ensures
    ∙ ap (λ (rs : List (Option Rank)). record lines { ranks = rs }) (set-set lines.ranks c.args.w None rank)
    ∙ ap (λ (o : Option Standing). with_rank lines c.args.w (rank_of o)) (sym c.in-Some.is)
