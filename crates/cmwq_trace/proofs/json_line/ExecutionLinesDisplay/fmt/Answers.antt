use Rattle.std.proofs.Common.{◌<◌, arith, length, refl}
use Rattle.cmwq_trace.specs.JsonParts.{marked_behind}
use Rattle.cmwq_trace.proofs.WriteLemmas.{written-more}
use Rattle.cmwq_trace.proofs.json_line.ExecutionLinesDisplay.fmt.Goals as goal

pub loop-marked-preserved : goal.loop-marked-preserved
loop-marked-preserved g c = λ plain.
    let executions = c.args.self.now.executions.now in
    let i = c.loop-marked.marked-index in
    let before = c.loop-marked.invariant plain in
    let there : i < length executions = omega (arith, c.loop-marked-test.true, c.loop-marked.auto.marked-index-end) in
    written-more g.W.Write.write_str_gives c.args.f.now c.loop-marked.f c.write.new.self (marked_behind c.args.self.now.scenario.now) executions i _ there before (c.in_ok-write.ensures.writes before.plain refl)
