use Rattle.std.proofs.Common.{arith, ◌≡◌, length, vec_len, sym, ap, ◌∙◌}
use Rattle.cmwq_types.specs.Contents.{ScenarioContents}
use Rattle.cmwq_engine.specs.Shared.{setting_of}
use Rattle.cmwq_actors.proofs.EndingLemmas.{enacted}
use Rattle.cmwq_actors.proofs.enacting.enact.Goals as goal

pub returns-clause-each : goal.returns-clause-each
returns-clause-each g c =
    let actors = c.as_slice-actors.ensures.value ∙ ap (λ (S : ScenarioContents). S.actors) (c.behind-scenario.view_is ∙ c.deref.ensures) in
    let performed = c.perform-opener.ensures in
    let endings = c.perform-opener.result.1 in
    let few = performed.few in
    let enough = c.if-len-actors.false in
    let len = c.len.ensures in
    let long = c.as_slice-actors.ensures.len in
    let all : vec_len endings ≡ length c.as_slice-actors.result.now = omega arith in
    let counted = endings.ok.0 in
    let closed = c.in-Ok.ensures in
    let cloned = c.in_ok-clone.ensures.cases in
    let set = c.in_ok-shared.ensures.setting in
    let is : setting_of c.in_ok-shared.shared ≡ record { scenario = c.args.scenario.now.value; capacity = c.args.capacity } = cc in
    (enacted (g.G.Gate.has_passed c.args.gate.now) c.args.scenario.now.value c.args.capacity c.as_slice-actors.result.now _ c.in-Ok.engine endings.items _ actors is closed.setting
    closed.sound (performed.played all) (sym counted ∙ all) closed.last).0

pub returns-clause-all : goal.returns-clause-all
returns-clause-all g c =
    let actors = c.as_slice-actors.ensures.value ∙ ap (λ (S : ScenarioContents). S.actors) (c.behind-scenario.view_is ∙ c.deref.ensures) in
    let performed = c.perform-opener.ensures in
    let endings = c.perform-opener.result.1 in
    let few = performed.few in
    let enough = c.if-len-actors.false in
    let len = c.len.ensures in
    let long = c.as_slice-actors.ensures.len in
    let all : vec_len endings ≡ length c.as_slice-actors.result.now = omega arith in
    let counted = endings.ok.0 in
    let closed = c.in-Ok.ensures in
    let cloned = c.in_ok-clone.ensures.cases in
    let set = c.in_ok-shared.ensures.setting in
    let is : setting_of c.in_ok-shared.shared ≡ record { scenario = c.args.scenario.now.value; capacity = c.args.capacity } = cc in
    (enacted (g.G.Gate.has_passed c.args.gate.now) c.args.scenario.now.value c.args.capacity c.as_slice-actors.result.now _ c.in-Ok.engine endings.items _ actors is closed.setting
    closed.sound (performed.played all) (sym counted ∙ all) closed.last).1

pub returns-clause-gate : goal.returns-clause-gate
returns-clause-gate g c =
    let actors = c.as_slice-actors.ensures.value ∙ ap (λ (S : ScenarioContents). S.actors) (c.behind-scenario.view_is ∙ c.deref.ensures) in
    let performed = c.perform-opener.ensures in
    let endings = c.perform-opener.result.1 in
    let few = performed.few in
    let enough = c.if-len-actors.false in
    let len = c.len.ensures in
    let long = c.as_slice-actors.ensures.len in
    let all : vec_len endings ≡ length c.as_slice-actors.result.now = omega arith in
    let counted = endings.ok.0 in
    let closed = c.in-Ok.ensures in
    let cloned = c.in_ok-clone.ensures.cases in
    let set = c.in_ok-shared.ensures.setting in
    let is : setting_of c.in_ok-shared.shared ≡ record { scenario = c.args.scenario.now.value; capacity = c.args.capacity } = cc in
    (enacted (g.G.Gate.has_passed c.args.gate.now) c.args.scenario.now.value c.args.capacity c.as_slice-actors.result.now _ c.in-Ok.engine endings.items _ actors is closed.setting
    closed.sound (performed.played all) (sym counted ∙ all) closed.last).2
