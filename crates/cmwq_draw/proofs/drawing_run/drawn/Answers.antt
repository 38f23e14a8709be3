use Rattle.std.proofs.Common.{rules, ◌≡◌, ◌≤◌, ◌∙◌, ℕ, Global, Some, Vec, ap, length, subst, sym}
use Rattle.std.proofs.lemmas.Result.{err_from_is_err_and}
use Rattle.std.specs.Prelude.{slice_index_or}
use Rattle.cmwq_types.proofs.SettingLemmas.{IsSetting-valid}
use Rattle.cmwq_types.specs.Contents.{ScenarioContents}
use Rattle.cmwq_types.specs.declared.limits.TheConstants.{MAX_WORKS}
use Rattle.cmwq_picture.specs.ExtentContents.{picked_works}
use Rattle.cmwq_draw.specs.Picking.{picked}
use Rattle.cmwq_draw.proofs.DrawnLemmas.{drawn-well, drawn-why, first-alone, unknown-why}
use Rattle.cmwq_draw.proofs.drawing_run.drawn.Goals as goal

pub picked-requires : goal.picked-requires
picked-requires g c =
    let same : c.deref.result.now ≡ c.in_ok-chosen.field-0 = search rules in
    subst (λ (S : ScenarioContents). length S.works ≤ MAX_WORKS) (sym same) (IsSetting-valid c.in_ok-chosen.field-0 c.in_ok-chosen.ensures.valid).works

pub returns-in_err-works-clause-why : goal.returns-in_err-works-clause-why
returns-in_err-works-clause-why g c =
    let same : c.deref.result.now ≡ c.in_ok-chosen.field-0 = search rules in
    let p = err_from_is_err_and c.from_residual-in_err-works.result c.from_residual-in_err-works.ensures.1 in
    rw (p.1, p.2) (unknown-why c.args.drawing c.args.scenario c.in_ok-chosen.field-0 c.deref.result.now same c.in_ok-chosen.ensures.chosen c.in_ok-chosen.ensures.alone _ c.in_err-works.ensures.why)

pub returns-clause-drawing : goal.returns-clause-drawing
returns-clause-drawing g c =
    let T = c.in_ok-chosen.field-0 in
    let actor = c.index-actor.result.now in
    let same : c.in_ok-scenario.scenario.value ≡ T = search rules in
    let at : actor ≡ slice_index_or T.actors 0 actor = search rules in
    let before : c.deref.result.now ≡ T = search rules in
    let known : picked c.in_ok-scenario.scenario.value c.args.drawing.works ≡ Some (picked_works c.work_slice.result) =
    ap (λ (S : ScenarioContents). picked S c.args.drawing.works) (same ∙ sym before) ∙ c.in_ok-works.ensures.picked ∙ ap Some (sym c.work_slice.ensures) in
    drawn-well (λ (text : Vec ℕ Global). text.items) c.args.drawing c.args.scenario T c.in_ok-scenario.scenario.value actor same c.in_ok-chosen.ensures.chosen
    (first-alone T.actors actor c.in_ok-chosen.ensures.alone at) (picked_works c.work_slice.result) known c.drawing_of.result c.drawing_of.ensures.text c.drawing_of.ensures.fits

pub returns-clause-why : goal.returns-clause-why
returns-clause-why g c =
    let T = c.in_ok-chosen.field-0 in
    let actor = c.index-actor.result.now in
    let same : c.in_ok-scenario.scenario.value ≡ T = search rules in
    let at : actor ≡ slice_index_or T.actors 0 actor = search rules in
    let before : c.deref.result.now ≡ T = search rules in
    let known : picked c.in_ok-scenario.scenario.value c.args.drawing.works ≡ Some (picked_works c.work_slice.result) =
    ap (λ (S : ScenarioContents). picked S c.args.drawing.works) (same ∙ sym before) ∙ c.in_ok-works.ensures.picked ∙ ap Some (sym c.work_slice.ensures) in
    drawn-why (λ (text : Vec ℕ Global). text.items) c.args.drawing c.args.scenario T c.in_ok-scenario.scenario.value actor same c.in_ok-chosen.ensures.chosen
    (first-alone T.actors actor c.in_ok-chosen.ensures.alone at) (picked_works c.work_slice.result) known c.drawing_of.result c.drawing_of.ensures.wide c.drawing_of.ensures.why
