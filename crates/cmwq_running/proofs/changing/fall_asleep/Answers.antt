use Rattle.std.proofs.Common.{Some, set, sym, ap, subst, ◌∙◌}
use Rattle.cmwq_table.specs.declared.state.Running.{Running}
use Rattle.cmwq_phased.specs.Phases.{shown, shown_all}
use Rattle.cmwq_phased.specs.Runs.{HasOwnStamp}
use Rattle.cmwq_phased.specs.declared.run.Run.{Run}
use Rattle.cmwq_running.specs.RunningContents.{onward_run, seen}
use Rattle.cmwq_running.proofs.StepLemmas.{asleep_shown, onward_own, ready_head_of, ready_run_is}
use Rattle.cmwq_running.proofs.changing.fall_asleep.Goals as goal

pub carry_on-requires-clause-own_stamp : goal.carry_on-requires-clause-own_stamp
carry_on-requires-clause-own_stamp c =
    let head = ready_head_of c.args.time c.args.works.now c.args.w c.args.r c.requires.kept.timely c.requires.running c.requires.head in
    subst (λ (run : Run). HasOwnStamp c.args.works.now.runs c.args.w (Some run)) (sym c.onward.ensures)
    (onward_own c.args.time c.args.works.now c.args.w c.args.r c.requires.kept head c.own_stamps.ensures c.asleep_until-phase.result)

pub carry_on-requires-clause-was : goal.carry_on-requires-clause-was
carry_on-requires-clause-was c =
    let head = ready_head_of c.args.time c.args.works.now c.args.w c.args.r c.requires.kept.timely c.requires.running c.requires.head in
    ready_run_is c.args.time c.args.works.now c.args.w c.args.r c.requires.kept head ∙ ap Some (sym c.ready_as.ensures)

pub carry_on-requires-clause-pool : goal.carry_on-requires-clause-pool
carry_on-requires-clause-pool c = ap (λ (run : Run). run.pool) c.onward.ensures ∙ sym (ap (λ (run : Run). run.pool) c.ready_as.ensures)

pub carry_on-requires-clause-worker : goal.carry_on-requires-clause-worker
carry_on-requires-clause-worker c = ap (λ (run : Run). run.worker) c.onward.ensures ∙ sym (ap (λ (run : Run). run.worker) c.ready_as.ensures)

pub returns-clause-seen : goal.returns-clause-seen
returns-clause-seen c =
    let head = ready_head_of c.args.time c.args.works.now c.args.w c.args.r c.requires.kept.timely c.requires.running c.requires.head in
    c.carry_on.ensures.seen
    ∙ ap (λ (r : Running). record (seen c.args.time c.args.works.now) { running = set (shown_all c.args.time c.args.works.now.runs) c.args.w (Some r) })
    (ap (shown c.args.time) (c.onward.ensures ∙ ap (onward_run c.args.r) c.asleep_until-phase.ensures)
    ∙ asleep_shown c.args.time c.args.works.now c.args.w c.args.r c.requires.kept head c.args.until)
