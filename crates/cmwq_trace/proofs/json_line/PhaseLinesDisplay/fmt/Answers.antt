use Rattle.std.proofs.Common.{◌<◌, arith, length, refl}
use Rattle.cmwq_trace.specs.JsonParts.{phase_behind}
use Rattle.cmwq_trace.proofs.WriteLemmas.{written-more}
use Rattle.cmwq_trace.proofs.json_line.PhaseLinesDisplay.fmt.Goals as goal

pub loop-slice-preserved : goal.loop-slice-preserved
loop-slice-preserved g c = λ plain.
    let slices = c.args.self.now.0.now in
    let i = c.loop-slice.slice-index in
    let before = c.loop-slice.invariant plain in
    let there : i < length slices = omega (arith, c.loop-slice-test.true, c.loop-slice.auto.slice-index-end) in
    written-more g.W.Write.write_str_gives c.args.f.now c.loop-slice.f c.write.new.self phase_behind slices i _ there before (c.in_ok-write.ensures.writes before.plain refl)
