-- The run of the one actor.
use Rattle.std.proofs.Common.{rules, ◌≡◌, ◌∙◌, ap, sym}
use Rattle.std.proofs.lemmas.Result.{IfOk-weaker}
use Rattle.cmwq_play.specs.Runs.{CanRun}
use Rattle.cmwq_types.specs.Contents.{ActorContents, ScenarioContents}
use Rattle.cmwq_remarks.specs.Remarks.{run_remarks}
use Rattle.cmwq_remarks.proofs.ValidLemmas.{remarks_alone}
use Rattle.cmwq_remarks.proofs.remarked.remarks_on.Goals as goal

pub returns : goal.returns
returns g c =
    let can : CanRun c.args.scenario = search rules in
    let loaded : g.M.Reads.loaded c.in_ok-machine.machine ≡ c.args.scenario = search rules in
    let first : c.index-2.result.now ≡ can.0 = search (rules, can.1.alone) in
    let whole = remarks_alone c.args.task c.args.text.now c.args.scenario can.0 can.1.alone can.1.few in
    let same =
    ap (λ (S : ScenarioContents). run_remarks c.args.task c.args.text.now S c.index-2.result.now) loaded
    ∙ (ap (λ (actor : ActorContents). run_remarks c.args.task c.args.text.now c.args.scenario actor) first ∙ sym whole)
    in
    IfOk-weaker c.run_remarks.result _ _ (λ told is. is ∙ same) c.run_remarks.ensures
