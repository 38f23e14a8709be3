use Rattle.std.proofs.Common.{ℕ, ◌*◌, max, replicate, arith, ap, ◌∙◌}
use Rattle.cmwq_timers.specs.AlarmRanks.{no_alarm}
use Rattle.cmwq_timers.proofs.FrontLemmas.{alarms-none}
use Rattle.cmwq_timers.proofs.alarms.Alarms.new.Goals as goal

pub returns : goal.returns
returns c = record {
  empty =
      alarms-none c.args.capacity c.in_ok-ticks.ticks.items c.in_ok-ranks.ranks.items (omega arith) (c.in_ok-ticks.ensures ∙ ap (λ (n : ℕ). replicate n 0) c.from-works.ensures)
      (c.in_ok-ranks.ensures ∙ ap (λ (n : ℕ). replicate (2 * n) no_alarm) (c.max.ensures ∙ ap (λ (n : ℕ). max n 1) c.from-works.ensures));
}
