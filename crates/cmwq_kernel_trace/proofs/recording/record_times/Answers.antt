use Rattle.std.proofs.Common.{◌≡◌, ◌+◌, ◌-◌, ◌∷◌, ◌++◌, replicate, ap, subst, ◌∙◌}
use Rattle.cmwq_types.specs.Contents.{ScenarioContents}
use Rattle.cmwq_kernel_trace.specs.Recording.{IsAt, goes_on}
use Rattle.cmwq_kernel_trace.proofs.RecordingLemmas.{one_left}
use Rattle.cmwq_kernel_trace.proofs.recording.record_times.Goals as goal

pub loop-turn-preserved : goal.loop-turn-preserved
loop-turn-preserved g c =
    let L = g.M.Reads.loaded c.args.machine.now in
    let same = c.loop-turn.invariant.scenario in
    let s = g.M.Reads.state c.loop-turn.machine in
    let t = g.M.Reads.state c.record_one.new.machine in
    let told = c.loop-turn.events.events in
    let now = c.record_one.new.events in
    let left = replicate (c.args.times - (c.loop-turn._turn + 1)) c.args.instr in
    record {
      scenario = c.record_one.ensures.scenario ∙ same;
      at = subst (λ (S : ScenarioContents). IsAt S now t) same c.in_ok-record_one.ensures.at;
      events = λ more.
          subst (λ (S : ScenarioContents). goes_on S now.events t (left ++ more) ≡ goes_on S told s (c.args.instr ∷ (left ++ more))) same
          (c.in_ok-record_one.ensures.events (left ++ more))
          ∙ ap (goes_on L told s) (one_left c.args.instr c.args.times c.loop-turn._turn more c.loop-turn-test.true) ∙ c.loop-turn.invariant.events more;
    }
