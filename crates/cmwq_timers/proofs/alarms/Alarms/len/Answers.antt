use Rattle.std.proofs.Common.{arith}
use Rattle.cmwq_timers.specs.AlarmRanks.{with_front}
use Rattle.cmwq_timers.proofs.AlarmLemmas.{room}
use Rattle.cmwq_timers.proofs.alarms.Alarms.len.Goals as goal

pub returns-clause-works : goal.returns-clause-works
returns-clause-works c = omega (arith, c.len.ensures, room c.self.inside.ticks.items (with_front c.self.inside.front c.self.inside.ranks.items) c.args.self.now c.self.view_is, c.self.inside.ticks.ok.0)
