use Rattle.std.proofs.Common.{sym, subst, ◌∙◌}
use Rattle.cmwq_phased.specs.PhasedContents.{PhasedContents}
use Rattle.cmwq_running.specs.Pools.{AreAlikeIn}
use Rattle.cmwq_running.proofs.PoolLemmas.{alike_outside_with}
use Rattle.cmwq_running.proofs.ending.end_by.Goals as goal

pub loop-pool-preserved : goal.loop-pool-preserved
loop-pool-preserved c = record {
  seen = c.end_first.ensures.seen ∙ c.loop-pool.invariant.seen;
  on_time = c.end_first.ensures.on_time;
  headed = c.end_first.ensures.headed;
  elsewhere = alike_outside_with c.loop-pool.pools c.with-pools.result c.in-Some.pool c.args.works.now.runs c.loop-pool.works.runs c.end_first.new.works.runs c.with-pools.ensures c.loop-pool.invariant.elsewhere c.in-Some.ensures.elsewhere;
}

pub returns-clause-elsewhere : goal.returns-clause-elsewhere
returns-clause-elsewhere c pool small clear =
    subst (λ (m : PhasedContents). AreAlikeIn pool c.args.works.now.runs m.runs) (sym (c.end_first.ensures.same c.in_default.is)) (c.loop-pool.invariant.elsewhere pool small clear)
