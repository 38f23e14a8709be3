use Rattle.std.proofs.Common.{◌≡◌, ◌-◌, ◌<◌, ◌≤◌, length, sym, ◌∙◌, ap, arith}
use Rattle.cmwq_table.specs.Ready.{Loaded}
use Rattle.cmwq_table.specs.Moves.{fill_one, fill_times}
use Rattle.cmwq_parts.proofs.FillLemmas.{loaded-is, fill_times-done, fill_times-stays, fill_times-turn}
use Rattle.cmwq_parts.proofs.going.Going.fill_more.Goals as goal

pub loop-turn-preserved : goal.loop-turn-preserved
loop-turn-preserved g c =
    let was = c.loop-turn.self in
    let filled = c.fill_one.ensures.filled in
    let below : c.loop-turn._turn < length was.scenario.works = rw c.loop-turn.invariant.same (grind arith) in
    record {
      same = ap (λ (m : Loaded). m.scenario) filled ∙ c.loop-turn.invariant.same;
      rest = rw filled (fill_times-turn was.scenario c.args.queue c.args.pool (length was.scenario.works) c.loop-turn._turn was.state below ∙ c.loop-turn.invariant.rest);
      stamps = omega (arith, c.fill_one.ensures.stamps, c.loop-turn.invariant.stamps);
    }

pub fill_one-requires : goal.fill_one-requires
fill_one-requires g c =
    omega (arith, c.loop-turn.invariant.stamps, c.requires, c.loop-turn-test.true, c.work_count-turn-end.ensures.count, c.work_count-turn-end.ensures.setting.works)

pub returns-then-not-fill_one : goal.returns-then-not-fill_one
returns-then-not-fill_one g c =
    let was = c.loop-turn.self in
    let S = was.scenario in
    let same : c.fill_one.new.self ≡ was = c.fill_one.ensures.unchanged c.if-not-fill_one.true in
    let still : fill_one S c.args.queue c.args.pool was.state ≡ was.state = ap (λ (m : Loaded). m.state) (sym c.fill_one.ensures.filled ∙ same) in
    let rest = sym (fill_times-stays S c.args.queue c.args.pool (length S.works - c.loop-turn._turn) was.state still) ∙ c.loop-turn.invariant.rest in
    same ∙ loaded-is was c.args.self.now.scenario (fill_times c.args.self.now.scenario c.args.queue c.args.pool (length c.args.self.now.scenario.works - 1) c.args.self.now.state) c.loop-turn.invariant.same rest

pub returns-after-loop-turn : goal.returns-after-loop-turn
returns-after-loop-turn g c =
    let was = c.loop-turn.self in
    let S = was.scenario in
    let all_done : length S.works ≤ c.loop-turn._turn = rw c.loop-turn.invariant.same (omega (arith, c.loop-turn-test.false, c.work_count-turn-end.ensures.count)) in
    let rest = sym (fill_times-done S c.args.queue c.args.pool (length S.works) c.loop-turn._turn was.state all_done) ∙ c.loop-turn.invariant.rest in
    loaded-is was c.args.self.now.scenario (fill_times c.args.self.now.scenario c.args.queue c.args.pool (length c.args.self.now.scenario.works - 1) c.args.self.now.state) c.loop-turn.invariant.same rest
