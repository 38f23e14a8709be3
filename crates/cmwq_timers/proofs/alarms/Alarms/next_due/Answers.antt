use Rattle.std.proofs.Common.{Some, arith, ap, sym, ◌∙◌}
use Rattle.cmwq_timers.specs.Alarms.{ring_of}
use Rattle.cmwq_timers.proofs.FirstAlarmLemmas.{next-is, none-first}
use Rattle.cmwq_timers.proofs.alarms.Alarms.next_due.Goals as goal

pub returns-then-rank-lt-FIRST_LATE_RANK : goal.returns-then-rank-lt-FIRST_LATE_RANK
returns-then-rank-lt-FIRST_LATE_RANK c =
    ap Some c.tick_in.ensures ∙ next-is c.args.self.now c.first_rank-rank.result c.first_rank-rank.ensures.few c.first_rank-rank.ensures.first (omega (arith, c.if-rank-lt-FIRST_LATE_RANK.true))

pub returns-then-rank : goal.returns-then-rank
returns-then-rank c =
    sym (ap (ring_of c.args.self.now) (none-first c.args.self.now c.first_rank-rank.result c.first_rank-rank.ensures.few c.first_rank-rank.ensures.first c.if-rank.true))
