use Rattle.std.proofs.Common.{refl, ◌∙◌}
use Rattle.cmwq_play.proofs.TellerLemmas.{wrote_once}
use Rattle.cmwq_trace.specs.JsonParts.{json_closing}
use Rattle.cmwq_trace.proofs.JsonLemmas.{end-told}
use Rattle.cmwq_trace.proofs.json_trace.JsonTellerFramed.close.Goals as goal

pub returns : goal.returns
returns g c =
    let a = c.args.session.now in
    let S = a.scenario.now in
    let s = g.M.Reads.state a.machine in
    let run = c.args.self.now.run in
    wrote_once g.M.Reads.loaded g.M.Reads.state g.W.Write.contents g.W.Sink.failed a _ s _ (json_closing S run s.time) c.write.result
    c.requires.ready.has_scenario c.requires.ready.has_lines refl refl
    (end-told S run c.time-time.result s.time _ _ c.time-time.ensures (c.deref.ensures.value ∙ c.in_ok-ended.ensures.executions) (c.deref-2.ensures.value ∙ c.in_ok-ended.ensures.slices))
    c.write.ensures.same c.write.ensures.ok c.write.ensures.err c.write.ensures.failed c.write.ensures.why
