use Rattle.std.proofs.Common.{ℕ, min, set, arith, ap, ◌∙◌}
use Rattle.cmwq_timers.specs.AlarmRanks.{no_alarm}
use Rattle.cmwq_timers.specs.Tree.{rank_at}
use Rattle.cmwq_timers.proofs.TreeLemmas.{goes-up, lesser-above}
use Rattle.cmwq_timers.proofs.alarm_tree.raise_alarm.Goals as goal

pub loop-at-preserved : goal.loop-at-preserved
loop-at-preserved c =
    let ranks = c.loop-at.ranks in
    let at = c.loop-at.at in
    let lesser = c.loop-at.lesser in
    let way = c.loop-at.invariant.way in
    let inner = way.inside in
    record {
      way = goes-up c.args.ranks.now ranks c.args.leaf no_alarm at lesser way c.loop-at-test.true (c.loop-at.invariant.lesser c.loop-at-test.true);
      lesser = λ above.
          c.min-lesser-in-loop-at.ensures ∙ ap (λ (k : ℕ). min lesser (rank_at (set ranks at lesser) k)) c.node_beside-in-loop-at.ensures
          ∙ lesser-above ranks at lesser (omega (arith, inner)) above;
    }
