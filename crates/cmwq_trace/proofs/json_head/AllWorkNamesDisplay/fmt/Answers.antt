use Rattle.std.proofs.Common.{◌≡◌, suc, ◌+◌, ap, arith, refl}
use Rattle.std.proofs.lemmas.Grind.{put_two}
use Rattle.cmwq_types.specs.Scenario.{work_at}
use Rattle.cmwq_trace.specs.JsonParts.{work_behind, works_behind}
use Rattle.cmwq_trace.proofs.json_head.AllWorkNamesDisplay.fmt.Goals as goal

pub loop-w-preserved : goal.loop-w-preserved
loop-w-preserved g c = λ plain.
    let S = c.args.self.now.scenario.now in
    let w = c.loop-w.w in
    let next : suc w ≡ w + 1 = omega arith in
    let before = c.loop-w.invariant plain in
    put_two g.W.Write.write_str_gives c.args.f.now c.loop-w.f c.write.new.self (works_behind S w) (work_behind (work_at S w).name w) (works_behind S (w + 1)) before (c.in_ok-write.ensures.writes before.plain refl) (ap (works_behind S) next)
