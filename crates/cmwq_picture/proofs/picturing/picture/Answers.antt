use Rattle.std.proofs.Common.{◌≡◌, ◌+◌, ◌<◌, ◌^◌, ◌||◌, Err, List, ap, arith, false, length, subst, sym, true, ◌∙◌}
use Rattle.std.proofs.lemmas.Result.{err_from_is_err_and}
use Rattle.cmwq_types.specs.Scenario.{expand_lines}
use Rattle.cmwq_types.proofs.SettingLemmas.{IsSetting-valid}
use Rattle.cmwq_picture.specs.Column.{ColumnContents, cut_rows}
use Rattle.cmwq_picture.specs.ExtentContents.{extent_contents}
use Rattle.cmwq_picture.specs.Folding.{edges_from, is_long, is_wide, stretches_of, ticks_drawn}
use Rattle.cmwq_picture.specs.Picture.{from_time, titles}
use Rattle.cmwq_picture.specs.Recording.{Recording, issued_all, recording_begun}
use Rattle.cmwq_streams.specs.declared.error.PlayError.{PlayError}
use Rattle.cmwq_picture.proofs.RecordingLemmas.{pictured, recorded-run, refused}
use Rattle.cmwq_picture.proofs.picturing.picture.Goals.{then-fold, else-fold}
use Rattle.cmwq_picture.proofs.picturing.picture.Goals as goal

pub returns-in_err-issue_all : goal.returns-in_err-issue_all
returns-in_err-issue_all g c =
    let S = c.args.scenario.now in
    let p = err_from_is_err_and c.from_residual.result c.from_residual.ensures.1 in
    record {
      picture = rw (p.1, p.2) (refused S (extent_contents c.args.extent) (expand_lines c.args.lines.now) c.new-recorder.result c.in_err-issue_all.field-0.0 (IsSetting-valid S c.requires.valid)
          c.new-recorder.ensures c.in_err-issue_all.ensures.why (λ is. c.in_err-issue_all.ensures.wide (ap (λ (why : PlayError). Err why) is)));
    }

pub returns-then-branch : goal.returns-then-branch
returns-then-branch g c =
    let S = c.args.scenario.now in
    let run = recorded-run S c.args.extent.span (expand_lines c.args.lines.now) c.issue_all.new.self (IsSetting-valid S c.requires.valid)
    (c.in_ok-issue_all.ensures.ok ∙ ap (λ (q : Recording). issued_all q (expand_lines c.args.lines.now)) c.new-recorder.ensures) in
    let told = c.into_recorded-columns.ensures.columns ∙ run.0 in
    record { picture = ap (is_wide c.args.extent.span) (sym told) ∙ sym c.in_ok-is_wide.ensures ∙ c.if-branch.true }

pub edges-requires : goal.edges-requires
edges-requires g c =
    let S = c.args.scenario.now in
    let run = recorded-run S c.args.extent.span (expand_lines c.args.lines.now) c.issue_all.new.self (IsSetting-valid S c.requires.valid)
    (c.in_ok-issue_all.ensures.ok ∙ ap (λ (q : Recording). issued_all q (expand_lines c.args.lines.now)) c.new-recorder.ensures) in
    let columns_are = c.into_recorded-columns.ensures.columns in
    λ some.
    let late = c.into_recorded-columns.ensures.late (subst (λ (cs : List ColumnContents). 0 < length cs) columns_are some) in
    let from_is = c.from_time.ensures in
    let span_is = ap (λ span. from_time span.from) run.2 in
    let length_is = ap length columns_are in
    omega (arith, late, from_is, span_is, length_is)

pub returns : goal.returns
returns g c =
    let S = c.args.scenario.now in
    let extent = extent_contents c.args.extent in
    let run = recorded-run S c.args.extent.span (expand_lines c.args.lines.now) c.issue_all.new.self (IsSetting-valid S c.requires.valid)
    (c.in_ok-issue_all.ensures.ok ∙ ap (λ (q : Recording). issued_all q (expand_lines c.args.lines.now)) c.new-recorder.ensures) in
    let cs = c.into_recorded-columns.result.columns in
    let told = c.into_recorded-columns.ensures.columns ∙ run.0 in
    let noted = c.into_recorded-columns.ensures.acts ∙ run.1 in
    let fold : c.if-fold.fold ≡ (extent.fold || is_long extent.span cs) =
    elim c.if-fold.branch [
      | then-fold b ↦ b.fold-is ∙ b.if-fold.true ∙ sym (ap (λ before. before || is_long extent.span cs) b.if-fold.true)
      | else-fold b ↦ b.fold-is ∙ b.is_long-fold.ensures ∙ sym (ap (λ before. before || is_long extent.span cs) b.if-fold.false)
    ] in
    record {
      picture = pictured S extent (expand_lines c.args.lines.now) cs c.if-fold.fold c.in_ok-edges.edges.items c.in_ok-rows.rows.items c.into_recorded-columns.result.acts.items told noted
          (sym c.in_ok-is_wide.ensures ∙ c.if-branch.false) fold
          (c.in_ok-edges.ensures ∙ ap (λ from. edges_from from (ticks_drawn c.if-fold.fold (stretches_of cs))) c.from_time.ensures)
          (c.in_ok-rows.ensures ∙ ap (λ drawn. cut_rows S drawn (titles S extent.works)) c.of.ensures);
    }
