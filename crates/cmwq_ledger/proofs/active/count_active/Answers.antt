use Rattle.std.proofs.Common.{◌≡◌, ◌+◌, ◌*◌, ◌∙◌, add-one, ap, arith, length}
use Rattle.cmwq_types.specs.Contents.{ScenarioContents}
use Rattle.cmwq_ledger.proofs.active.count_active.Goals as goal

pub count_running-requires-clause-within : goal.count_running-requires-clause-within
count_running-requires-clause-within g c = λ k.
    let S = g.R.Reads.loaded c.args.machine.now in
    let works : length c.behind-machine.inside.works.items ≡ length S.works = ap (λ (T : ScenarioContents). length T.works) (c.behind-machine.view_is ∙ c.scenario.ensures.scenario) in
    omega (arith, works, c.scenario.ensures.setting.works, c.count_pending.ensures.within (2 * c.loop-w.w) c.loop-w.invariant.within k)

pub loop-w-preserved : goal.loop-w-preserved
loop-w-preserved g c = record {
  counted = λ queue pool declared there.
      rw add-one (omega (arith, c.loop-w.invariant.counted queue pool declared there, c.count_pending.ensures.counted queue pool declared there, c.count_running.ensures.counted queue pool declared there));
  within = λ k.
      omega (arith, c.count_running.ensures.within (2 * c.loop-w.w + 1) (c.count_pending.ensures.within (2 * c.loop-w.w) c.loop-w.invariant.within) k);
}
