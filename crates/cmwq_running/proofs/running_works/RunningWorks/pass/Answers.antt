use Rattle.cmwq_running.proofs.TickLemmas.{alike_seen, elsewhere_seen, passed_seen}
use Rattle.cmwq_running.proofs.running_works.RunningWorks.pass.Goals as goal

pub returns-clause-passed : goal.returns-clause-passed
returns-clause-passed c s has =
    passed_seen c.self.inside.time c.self.inside.works c.end_by-ended.new.works c.args.self.now c.self.view_is c.self.invariant.headed c.ticks_to_end-count.result c.from.result c.from.ensures c.end_by-ended.ensures.seen s has

pub returns-clause-alike : goal.returns-clause-alike
returns-clause-alike c s has earlier below =
    alike_seen c.self.inside.time c.self.inside.works c.args.self.now c.self.view_is c.self.invariant c.ticks_to_end-count.result c.ticks_to_end-count.ensures.none_ends s has earlier below

pub returns-clause-elsewhere : goal.returns-clause-elsewhere
returns-clause-elsewhere c s has pool small clear =
    elsewhere_seen c.self.inside.time c.self.inside.works c.end_by-ended.new.works c.args.self.now c.end_by-ended.result c.self.view_is c.self.invariant c.ticks_to_end-count.result c.from.result c.from.ensures c.end_by-ended.ensures.timely c.end_by-ended.ensures.seen c.end_by-ended.ensures.elsewhere s has pool small clear
