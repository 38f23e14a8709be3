use Rattle.std.proofs.Common.{Some, set, sym, ap, subst, ◌∙◌}
use Rattle.cmwq_table.specs.declared.state.Running.{Running}
use Rattle.cmwq_phased.specs.Phases.{IsTimely, shown, shown_all}
use Rattle.cmwq_phased.specs.Runs.{HasOwnStamp}
use Rattle.cmwq_phased.specs.declared.run.Run.{Run}
use Rattle.cmwq_running.specs.Heads.{ComesLast, IsStill}
use Rattle.cmwq_running.specs.RunningContents.{first_run, seen}
use Rattle.cmwq_running.proofs.StepLemmas.{head_ran, newest_last, newest_own}
use Rattle.cmwq_running.proofs.changing.begin_again.Goals as goal

pub carry_on-requires-clause-was : goal.carry_on-requires-clause-was
carry_on-requires-clause-was c =
    head_ran c.args.time c.args.works.now c.args.w c.args.r c.requires.kept c.requires.running c.requires.head ∙ ap Some (sym c.ready_as.ensures)

pub carry_on-requires-clause-pool : goal.carry_on-requires-clause-pool
carry_on-requires-clause-pool c = ap (λ (run : Run). run.pool) c.first_run-run.ensures ∙ sym (ap (λ (run : Run). run.pool) c.ready_as.ensures)

pub carry_on-requires-clause-worker : goal.carry_on-requires-clause-worker
carry_on-requires-clause-worker c = ap (λ (run : Run). run.worker) c.first_run-run.ensures ∙ sym (ap (λ (run : Run). run.worker) c.ready_as.ensures)

pub carry_on-requires-clause-still : goal.carry_on-requires-clause-still
carry_on-requires-clause-still c = subst (λ (run : Run). IsStill run.phase) (sym c.first_run-run.ensures) tt

pub carry_on-requires-clause-timely : goal.carry_on-requires-clause-timely
carry_on-requires-clause-timely c = subst (λ (run : Run). IsTimely c.args.time run.phase) (sym c.first_run-run.ensures) tt

pub carry_on-requires-clause-own_stamp : goal.carry_on-requires-clause-own_stamp
carry_on-requires-clause-own_stamp c =
    subst (λ (run : Run). HasOwnStamp c.args.works.now.runs c.args.w (Some run)) (sym c.first_run-run.ensures)
    (newest_own c.args.time c.args.works.now.runs c.args.w (first_run c.args.born c.args.r.pool c.args.r.worker c.args.stamp) c.requires.newest)

pub carry_on-requires-clause-last : goal.carry_on-requires-clause-last
carry_on-requires-clause-last c =
    subst (λ (run : Run). ComesLast c.args.works.now.runs c.args.w (Some run)) (sym c.first_run-run.ensures)
    (newest_last c.args.time c.args.works.now.runs c.args.w (first_run c.args.born c.args.r.pool c.args.r.worker c.args.stamp) c.requires.newest)

pub returns-clause-seen : goal.returns-clause-seen
returns-clause-seen c =
    c.carry_on.ensures.seen
    ∙ ap (λ (r : Running). record (seen c.args.time c.args.works.now) { running = set (shown_all c.args.time c.args.works.now.runs) c.args.w (Some r) })
    (ap (shown c.args.time) c.first_run-run.ensures)
