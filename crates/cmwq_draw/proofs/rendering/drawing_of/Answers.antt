use Rattle.std.proofs.Common.{◌≡◌, List, ap, rules, ◌∙◌}
use Rattle.cmwq_types.specs.Contents.{ScenarioContents}
use Rattle.cmwq_types.specs.Scenario.{expand, expand_lines}
use Rattle.cmwq_types.specs.declared.scenario.Line.{Line}
use Rattle.cmwq_drawing.specs.declared.drawing.Span.{Span}
use Rattle.cmwq_picture.specs.ExtentContents.{ExtentContents, picked_works}
use Rattle.cmwq_picture.specs.PictureOfRun.{picture}
use Rattle.cmwq_draw.specs.Rendered.{rendered}
use Rattle.cmwq_draw.specs.SpanEnd.{span_drawn}
use Rattle.cmwq_draw.proofs.rendering.drawing_of.Goals as goal

pub returns-clause-text : goal.returns-clause-text
returns-clause-text g c =
    let S = c.args.scenario.now.value in
    let form = c.args.drawing.form in
    let extent : Span → ExtentContents = λ span. record { span = span; fold = c.args.drawing.fold; works = picked_works c.args.works } in
    let spanned : c.deref.result.now ≡ c.args.actor.now.lines = search rules in
    let same : c.deref-2.result.now ≡ S = search rules in
    let drawn : c.deref-3.result.now ≡ c.args.actor.now.lines = search rules in
    let said : c.deref-4.result.now ≡ c.args.actor.now.lines = search rules in
    let whole = λ (T : ScenarioContents) (lines : List Line). rendered form S (expand c.args.actor.now) (picture T (expand_lines lines) (extent c.in_ok-span.span)) in
    c.in_ok-rendered.ensures ∙ ap (λ (lines : List Line). rendered form S (expand_lines lines) c.in_ok-picture.picture) said
    ∙ ap (rendered form S (expand c.args.actor.now)) c.in_ok-picture.ensures.picture.0
    ∙ ap (λ (T : ScenarioContents). whole T c.deref-3.result.now) same ∙ ap (whole S) drawn
    ∙ ap (λ (span : Span). rendered form S (expand c.args.actor.now) (picture S (expand c.args.actor.now) (extent span)))
    (c.in_ok-span.ensures ∙ ap (λ (lines : List Line). span_drawn S (expand_lines lines) c.args.drawing.span) spanned)
