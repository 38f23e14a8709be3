use Rattle.std.proofs.Common.{◌≡◌, rules, subst, sym}
use Rattle.std.specs.Prelude.{slice_index_or}
use Rattle.cmwq_types.specs.Contents.{ActorContents, ScenarioContents}
use Rattle.cmwq_types.specs.Scenario.{expand}
use Rattle.cmwq_table.specs.State.{start}
use Rattle.cmwq_play.specs.Commands.{Writes}
use Rattle.cmwq_play.specs.Runs.{IsRunOf}
use Rattle.cmwq_play.specs.Telling.{IsToldOf, told_from}
use Rattle.cmwq_play.proofs.CommandLemmas.{writes_more}
use Rattle.cmwq_play.proofs.TextLemmas.{first-is}
use Rattle.cmwq_play.proofs.running.load_and_tell.Goals as goal

pub returns-clause-writes : goal.returns-clause-writes
returns-clause-writes g c =
    let told = g.T.Teller.told in
    let keeps = g.T.Teller.keeps in
    let t = c.args.teller in
    let S = c.args.scenario in
    let actor = c.index.result.now in
    let before = g.W.Write.contents c.args.writer.now in
    let after = g.W.Write.contents c.tell_actor.new.writer in
    let failed = g.W.Sink.failed c.tell_actor.new.writer in
    let same : c.deref.result.now ≡ S = search rules in
    let at : actor ≡ slice_index_or S.actors 0 actor = search rules in
    let runs = subst (λ (a : ActorContents). IsRunOf S a) (sym (first-is S.actors actor c.requires.can.0 at c.requires.can.1.alone)) c.requires.can.1 in
    let written = subst (λ (T : ScenarioContents). Writes (λ output. output ≡ told_from told keeps t T (start T) (expand actor)) before after failed c.tell_actor.result) same c.tell_actor.ensures.writes in
    writes_more (λ output. output ≡ told_from told keeps t S (start S) (expand actor)) (IsToldOf told keeps t S) before after failed c.tell_actor.result (λ output is. (actor, runs, is)) written
