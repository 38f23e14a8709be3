use Rattle.std.proofs.Common.{◌/◌, ◌^◌, ◌<◌, ◌≤◌, ℕ, Some, length, arith, ap, subst, sym, ◌∙◌}
use Rattle.cmwq_timers.proofs.FirstAlarmLemmas.{none-by, rings-by}
use Rattle.cmwq_timers.proofs.alarms.Alarms.first_due.Goals as goal

pub returns-then-tick_in-tick-clause-first : goal.returns-then-tick_in-tick-clause-first
returns-then-tick_in-tick-clause-first c =
    let before : c.args.tick < c.first_rank-rank.result / 2 ^ 16 = omega (arith, c.if-tick_in-tick.true, c.tick_in.ensures) in
    sym (none-by c.args.self.now c.first_rank-rank.result c.first_rank-rank.ensures.few c.first_rank-rank.ensures.first c.args.tick before)

pub returns-clause-first : goal.returns-clause-first
returns-clause-first c =
    let by_then : c.first_rank-rank.result / 2 ^ 16 ≤ c.args.tick = omega (arith, c.if-tick_in-tick.false, c.tick_in.ensures) in
    ap Some c.alarm_work.ensures ∙ rings-by c.args.self.now c.first_rank-rank.result c.first_rank-rank.ensures.few c.first_rank-rank.ensures.first (omega (arith, c.if-rank-ge-FIRST_LATE_RANK.false)) c.args.tick by_then

pub returns-clause-in_range : goal.returns-clause-in_range
returns-clause-in_range c =
    subst (λ (w : ℕ). w < length c.args.self.now) (sym c.alarm_work.ensures) (c.first_rank-rank.ensures.first.whole (omega (arith, c.if-rank-ge-FIRST_LATE_RANK.false))).inside
