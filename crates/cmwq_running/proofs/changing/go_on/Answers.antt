use Rattle.std.proofs.Common.{◌≡◌, Bool, Some, set, sym, ap, subst, ◌∙◌}
use Rattle.cmwq_table.specs.declared.state.Running.{Running}
use Rattle.cmwq_phased.specs.PhasedContents.{PhasedContents}
use Rattle.cmwq_phased.specs.Phases.{IsTimely, shown, shown_all}
use Rattle.cmwq_phased.specs.Runs.{HasOwnStamp}
use Rattle.cmwq_phased.specs.declared.run.Phase.{Phase}
use Rattle.cmwq_phased.specs.declared.run.Run.{Run}
use Rattle.cmwq_running.specs.Heads.{AreKept, may_burn, paced, with_left}
use Rattle.cmwq_running.specs.RunningContents.{onward_run}
use Rattle.cmwq_running.proofs.ShownLemmas.{seen_is, shown_set}
use Rattle.cmwq_running.proofs.StepLemmas.{IsReadyHead, go_on_kept, go_on_shown, onward_own, ready_head_of, ready_run_is}
use Rattle.cmwq_running.proofs.changing.go_on.Goals as goal
use Rattle.cmwq_running.proofs.changing.go_on.Goals.{After-carry_on}

head : (c : After-carry_on) → IsReadyHead c.args.time c.args.works.now c.args.w c.args.r
head c = ready_head_of c.args.time c.args.works.now c.args.w c.args.r c.requires.kept.timely c.requires.running c.requires.head

-- the phase that the run takes
phase_is : (c : After-carry_on) → c.paced-phase.result ≡ paced (may_burn c.args.works.now.scenario c.args.works.now.runs c.args.r.pool) c.args.time (with_left c.args.left)
phase_is c =
    c.paced-phase.ensures.paced ∙ ap (λ (may : Bool). paced may c.args.time c.with_left.result) c.may_burn-may.ensures
    ∙ ap (paced (may_burn c.args.works.now.scenario c.args.works.now.runs c.args.r.pool) c.args.time) c.with_left.ensures

run_is : (c : After-carry_on) → c.onward.result ≡ onward_run c.args.r (paced (may_burn c.args.works.now.scenario c.args.works.now.runs c.args.r.pool) c.args.time (with_left c.args.left))
run_is c = c.onward.ensures ∙ ap (onward_run c.args.r) (phase_is c)

pub carry_on-requires-clause-own_stamp : goal.carry_on-requires-clause-own_stamp
carry_on-requires-clause-own_stamp c =
    let head = ready_head_of c.args.time c.args.works.now c.args.w c.args.r c.requires.kept.timely c.requires.running c.requires.head in
    subst (λ (run : Run). HasOwnStamp c.args.works.now.runs c.args.w (Some run)) (sym c.onward.ensures)
    (onward_own c.args.time c.args.works.now c.args.w c.args.r c.requires.kept head c.own_stamps.ensures c.paced-phase.result)

pub carry_on-requires-clause-was : goal.carry_on-requires-clause-was
carry_on-requires-clause-was c =
    let head = ready_head_of c.args.time c.args.works.now c.args.w c.args.r c.requires.kept.timely c.requires.running c.requires.head in
    ready_run_is c.args.time c.args.works.now c.args.w c.args.r c.requires.kept head ∙ ap Some (sym c.ready_as.ensures)

pub carry_on-requires-clause-pool : goal.carry_on-requires-clause-pool
carry_on-requires-clause-pool c = ap (λ (run : Run). run.pool) c.onward.ensures ∙ sym (ap (λ (run : Run). run.pool) c.ready_as.ensures)

pub carry_on-requires-clause-worker : goal.carry_on-requires-clause-worker
carry_on-requires-clause-worker c = ap (λ (run : Run). run.worker) c.onward.ensures ∙ sym (ap (λ (run : Run). run.worker) c.ready_as.ensures)

pub returns-clause-seen : goal.returns-clause-seen
returns-clause-seen c =
    seen_is c.args.time c.carry_on.new.self _ _ (ap (λ (m : PhasedContents). m.scenario) c.carry_on.ensures)
    (ap (λ (m : PhasedContents). shown_all c.args.time m.runs) c.carry_on.ensures
    ∙ shown_set c.args.time c.args.works.now.runs c.args.w (Some c.onward.result)
    ∙ ap (λ (run : Run). set (shown_all c.args.time c.args.works.now.runs) c.args.w (Some (shown c.args.time run))) (run_is c)
    ∙ ap (λ (r : Running). set (shown_all c.args.time c.args.works.now.runs) c.args.w (Some r)) (go_on_shown c.args.time c.args.works.now c.args.w c.args.r c.requires.kept (head c) c.args.left))

pub returns-clause-kept : goal.returns-clause-kept
returns-clause-kept c =
    subst (λ (m : PhasedContents). AreKept c.args.time m)
    (sym (c.carry_on.ensures ∙ ap (λ (run : Run). record { scenario = c.args.works.now.scenario; runs = set c.args.works.now.runs c.args.w (Some run) }) (run_is c)))
    (go_on_kept c.args.time c.args.works.now c.args.w c.args.r c.requires.kept (head c) c.args.left (subst (λ (phase : Phase). IsTimely c.args.time phase) (phase_is c) c.paced-phase.ensures.timely))
