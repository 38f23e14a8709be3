use Rattle.std.proofs.Common.{◌≡◌, ◌∙◌, rules, ap, inl, subst, sym, Global, Option, Vec, option_map, ℕ}
use Rattle.std.proofs.lemmas.Result.{IfOk-weaker}
use Rattle.std.specs.Prelude.{slice_index_or}
use Rattle.cmwq_types.specs.Contents.{ActorContents, ScenarioContents}
use Rattle.cmwq_types.specs.Scenario.{expand}
use Rattle.cmwq_table.specs.Table.{replies}
use Rattle.cmwq_outcome.specs.Refused.{IsLineOf, line_on}
use Rattle.cmwq_play.specs.Runs.{CanRun, IsRunOf}
use Rattle.cmwq_play.proofs.TextLemmas.{first-is}
use Rattle.cmwq_outcome.proofs.refused.line_of_run.Goals as goal

pub returns : goal.returns
returns g c =
    let S = c.args.scenario in
    let actor = c.index.result.now in
    let machine = c.in_ok-machine.machine in
    let can : CanRun S = search rules in
    let at : actor ≡ slice_index_or S.actors 0 actor = search rules in
    let runs = subst (λ (a : ActorContents). IsRunOf S a) (sym (first-is S.actors actor can.0 at can.1.alone)) can.1 in
    let loaded : g.M.Reads.loaded machine ≡ S = search rules in
    IfOk-weaker c.line_of_actor.result
    (λ (told : Option (Vec ℕ Global)). option_map (λ line. line.items) told ≡ line_on (replies (g.M.Reads.loaded machine) (expand actor)))
    (λ (told : Option (Vec ℕ Global)). IsLineOf S (option_map (λ line. line.items) told))
    (λ told is. inl (actor, runs, is ∙ ap (λ (T : ScenarioContents). line_on (replies T (expand actor))) loaded))
    c.line_of_actor.ensures
