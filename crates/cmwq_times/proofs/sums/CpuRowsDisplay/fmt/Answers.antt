use Rattle.std.proofs.Common.{◌≡◌, ◌+◌, ◌++◌, add-one, ap, refl}
use Rattle.std.proofs.lemmas.Grind.{put_two}
use Rattle.cmwq_times.specs.TimesText.{cpu_row, cpu_sum, rows_below}
use Rattle.cmwq_times.specs.declared.rows.CpuRow.{CpuRow}
use Rattle.cmwq_times.proofs.sums.CpuRowsDisplay.fmt.Goals as goal

pub loop-cpu-preserved : goal.loop-cpu-preserved
loop-cpu-preserved g c = λ plain.
    let sums = c.args.self.now.0.now in
    let row = cpu_sum sums.format sums.totals in
    let cpu = c.loop-cpu.cpu in
    let before = c.loop-cpu.invariant plain in
    let here = c.cpu_row-row.result in
    let same : rows_below row cpu ++ cpu_row here.format here.cpu here.burned here.idle ≡ rows_below row (cpu + 1) =
    rw add-one (ap (λ (r : CpuRow). rows_below row cpu ++ cpu_row r.format r.cpu r.burned r.idle) c.cpu_row-row.ensures) in
    put_two g.W.Write.write_str_gives c.args.f.now c.loop-cpu.f c.write.new.self (rows_below row cpu) (cpu_row here.format here.cpu here.burned here.idle) (rows_below row (cpu + 1)) before (c.in_ok-write.ensures.writes before.plain refl) same
