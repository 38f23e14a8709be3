use Rattle.std.proofs.Common.{◌≡◌, ◌≤◌, ◌∙◌, ap, length, rules, subst}
use Rattle.std.specs.Prelude.{slice_index_or}
use Rattle.cmwq_types.specs.Contents.{ActorContents, ScenarioContents}
use Rattle.cmwq_types.specs.declared.limits.TheConstants.{MAX_LINES}
use Rattle.cmwq_settle.specs.Counting.{HasCounted}
use Rattle.cmwq_settle.specs.Settled.{with_nexts}
use Rattle.cmwq_settle.specs.declared.counting.Nexts.{Nexts}
use Rattle.cmwq_play.proofs.TextLemmas.{first-is}
use Rattle.cmwq_settle.proofs.SettlingLemmas.{settled-so-can, settled-so-valid}
use Rattle.cmwq_settle.proofs.settling.settled.Goals as goal

pub returns-clause-valid : goal.returns-clause-valid
returns-clause-valid c =
    let S = c.args.scenario in
    let n = c.in-Settle.n in
    let held : c.in_ok-shared.shared.value ≡ S = search rules in
    let counted = subst (λ (nexts : Nexts). HasCounted S nexts) c.in-Settle.is (subst (λ (T : ScenarioContents). HasCounted T c.in_ok-n.field-0) held c.in_ok-n.ensures) in
    let at : c.index.result.now ≡ slice_index_or S.actors 0 c.index.result.now = search rules in
    let first = first-is S.actors c.index.result.now counted.0 at counted.1.alone in
    let longer = c.in_ok-actor.actor in
    let few : length longer.lines ≤ MAX_LINES = search rules in
    settled-so-valid S c.in_ok-with_one_actor.field-0 n longer counted (c.in_ok-actor.ensures ∙ ap (λ (actor : ActorContents). with_nexts n actor) first) few c.in_ok-with_one_actor.ensures c.requires.valid

pub returns-clause-can : goal.returns-clause-can
returns-clause-can c =
    let S = c.args.scenario in
    let n = c.in-Settle.n in
    let held : c.in_ok-shared.shared.value ≡ S = search rules in
    let counted = subst (λ (nexts : Nexts). HasCounted S nexts) c.in-Settle.is (subst (λ (T : ScenarioContents). HasCounted T c.in_ok-n.field-0) held c.in_ok-n.ensures) in
    let at : c.index.result.now ≡ slice_index_or S.actors 0 c.index.result.now = search rules in
    let first = first-is S.actors c.index.result.now counted.0 at counted.1.alone in
    let longer = c.in_ok-actor.actor in
    let few : length longer.lines ≤ MAX_LINES = search rules in
    settled-so-can S c.in_ok-with_one_actor.field-0 n longer counted (c.in_ok-actor.ensures ∙ ap (λ (actor : ActorContents). with_nexts n actor) first) few c.in_ok-with_one_actor.ensures
