use Rattle.std.proofs.Common.{◌≡◌, ◌<◌, Some, ap, arith, length, refl, sym, ◌∙◌}
use Rattle.cmwq_types.specs.Contents.{ScenarioContents}
use Rattle.cmwq_types.specs.declared.reply.Reply.{Reply}
use Rattle.cmwq_table.specs.State.{State}
use Rattle.cmwq_table.specs.Table.{table}
use Rattle.cmwq_play.proofs.TellerLemmas.{wrote_once}
use Rattle.cmwq_trace.specs.JsonParts.{json_told}
use Rattle.cmwq_slices.specs.Slices.{Follows}
use Rattle.cmwq_slices.proofs.CallerLemmas.{done-other, executions_after-length, phases_after-length}
use Rattle.cmwq_trace.proofs.JsonLemmas.{on-ok, one-kept, one-told, steady-told}
use Rattle.cmwq_trace.proofs.json_trace.JsonTellerTeller.issue.Goals as goal

pub returns-clause-told : goal.returns-clause-told
returns-clause-told g c =
    let a = c.args.session.now in
    let S = a.scenario.now in
    let s = g.M.Reads.state a.machine in
    let t = g.M.Reads.state c.exec-reply.new.self in
    let L = g.M.Reads.loaded c.exec-reply.new.self in
    let teller = c.args.self.now in
    let run = teller.run in
    let x = c.args.instr in
    let loaded : L ≡ S = c.exec-reply.ensures.scenario ∙ c.requires.ready.has_scenario in
    let exact : (t, c.exec-reply.result) ≡ table L s x = c.exec-reply.ensures.exact ∙ ap (λ (T : ScenarioContents). table T s x) (sym c.exec-reply.ensures.scenario) in
    let old = c.exec-reply.ensures.scenario ∙ sym c.scenario.ensures.scenario in
    let many : length run.phases ≡ length L.works = c.requires.fits.phases ∙ c.scenario.ensures.works ∙ ap (λ (T : ScenarioContents). length T.works) (sym c.exec-reply.ensures.scenario) in
    let cpus = ap (λ (T : ScenarioContents). Some T.cpus) (sym old) in
    let follows : Follows L s c.time-time.result c.is_steady-is_steady.result run.phases t = record {
      leads = (x, ap (λ (after : State × Reply). after.0) exact);
      at = c.time-time.ensures;
      steady = λ is. c.requires.fits.steady L (c.is_steady-is_steady.ensures is ∙ cpus) many;
    } in
    wrote_once g.M.Reads.loaded g.M.Reads.state g.W.Write.contents g.W.Sink.failed a _ (table S s x).0 _ (json_told S run s (table S s x)) c.write.result
    loaded c.requires.ready.has_lines refl (ap (λ (after : State × Reply). after.0) (exact ∙ ap (λ (T : ScenarioContents). table T s x) loaded))
    (one-told S L run s t x c.exec-reply.result _ _ loaded exact (c.deref.ensures.value ∙ c.in_ok-ended.ensures.executions) (c.deref-2.ensures.value ∙ c.in_ok-ended.ensures.slices s follows))
    c.write.ensures.same c.write.ensures.ok c.write.ensures.err c.write.ensures.failed c.write.ensures.why

pub returns-clause-keeps : goal.returns-clause-keeps
returns-clause-keeps g c =
    let a = c.args.session.now in
    let S = a.scenario.now in
    let s = g.M.Reads.state a.machine in
    let t = g.M.Reads.state c.exec-reply.new.self in
    let L = g.M.Reads.loaded c.exec-reply.new.self in
    let teller = c.args.self.now in
    let run = teller.run in
    let x = c.args.instr in
    let loaded : L ≡ S = c.exec-reply.ensures.scenario ∙ c.requires.ready.has_scenario in
    let exact : (t, c.exec-reply.result) ≡ table L s x = c.exec-reply.ensures.exact ∙ ap (λ (T : ScenarioContents). table T s x) (sym c.exec-reply.ensures.scenario) in
    let old = c.exec-reply.ensures.scenario ∙ sym c.scenario.ensures.scenario in
    let many : length run.phases ≡ length L.works = c.requires.fits.phases ∙ c.scenario.ensures.works ∙ ap (λ (T : ScenarioContents). length T.works) (sym c.exec-reply.ensures.scenario) in
    let cpus = ap (λ (T : ScenarioContents). Some T.cpus) (sym old) in
    let follows : Follows L s c.time-time.result c.is_steady-is_steady.result run.phases t = record {
      leads = (x, ap (λ (after : State × Reply). after.0) exact);
      at = c.time-time.ensures;
      steady = λ is. c.requires.fits.steady L (c.is_steady-is_steady.ensures is ∙ cpus) many;
    } in
    on-ok c.write.result _ (one-kept teller S L s t x c.exec-reply.result _ _ c.time-time.result loaded exact c.time-time.ensures
    (c.in_ok-ended.ensures.phases s follows) c.in_ok-ended.ensures.begun c.in_ok-ended.ensures.named c.steady_after-self.ensures)

pub returns-clause-fits : goal.returns-clause-fits
returns-clause-fits g c =
    let a = c.args.session.now in
    let s = g.M.Reads.state a.machine in
    let t = g.M.Reads.state c.exec-reply.new.self in
    let L = g.M.Reads.loaded c.exec-reply.new.self in
    let run = c.args.self.now.run in
    let x = c.args.instr in
    let exact : (t, c.exec-reply.result) ≡ table L s x = c.exec-reply.ensures.exact ∙ ap (λ (T : ScenarioContents). table T s x) (sym c.exec-reply.ensures.scenario) in
    let old = c.exec-reply.ensures.scenario ∙ sym c.scenario.ensures.scenario in
    let many : length run.phases ≡ length L.works = c.requires.fits.phases ∙ c.scenario.ensures.works ∙ ap (λ (T : ScenarioContents). length T.works) (sym c.exec-reply.ensures.scenario) in
    let cpus = ap (λ (T : ScenarioContents). Some T.cpus) (sym old) in
    let follows : Follows L s c.time-time.result c.is_steady-is_steady.result run.phases t = record {
      leads = (x, ap (λ (after : State × Reply). after.0) exact);
      at = c.time-time.ensures;
      steady = λ is. c.requires.fits.steady L (c.is_steady-is_steady.ensures is ∙ cpus) many;
    } in
    let long : length s.pending ≡ length t.pending = c.scenario.ensures.works ∙ ap (λ (T : ScenarioContents). length T.works) (sym c.exec-reply.ensures.scenario) ∙ sym c.scenario-2.ensures.works in
    let phases = ap length (c.in_ok-ended.ensures.phases s follows) ∙ phases_after-length L s t.time run.phases in
    on-ok c.write.result _ (record {
      phases = phases ∙ c.requires.fits.phases ∙ long;
      executions = ap length c.in_ok-ended.ensures.begun ∙ executions_after-length t c.exec-reply.result run.executions ∙ c.requires.fits.executions ∙ long;
      steady = λ S is as_many.
          let told = steady-told L S c.time-time.result t.time (sym c.steady_after-self.ensures ∙ is) in
          let later : s.time < t.time = omega (arith, told.0, c.time-time.ensures) in
          let works : length L.works ≡ length S.works = sym (phases ∙ many) ∙ as_many in
          done-other L S told.1 works t 0 _ (c.in_ok-ended.ensures.done s follows later);
    })
