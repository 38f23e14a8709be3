use Rattle.std.proofs.Common.{◌≡◌, true, Option, Some, set, sym, ap, subst, ◌∙◌}
use Rattle.cmwq_table.specs.declared.state.Running.{Running}
use Rattle.cmwq_phased.specs.Phases.{shown_all}
use Rattle.cmwq_phased.specs.Runs.{is_rested, run_at}
use Rattle.cmwq_phased.specs.declared.run.Run.{Run}
use Rattle.cmwq_running.specs.RunningContents.{seen}
use Rattle.cmwq_running.proofs.StepLemmas.{has_slept, slept_runs, woken_shown}
use Rattle.cmwq_running.proofs.changing.wake.Goals as goal

pub run-requires : goal.run-requires
run-requires c = record { work = (has_slept c.args.time c.args.works.now c.args.pool c.args.w c.requires.kept.timely c.requires.first).within }

pub rouse-requires-clause-work : goal.rouse-requires-clause-work
rouse-requires-clause-work c = (has_slept c.args.time c.args.works.now c.args.pool c.args.w c.requires.kept.timely c.requires.first).within

pub rouse-requires-clause-rested : goal.rouse-requires-clause-rested
rouse-requires-clause-rested c =
    let slept = has_slept c.args.time c.args.works.now c.args.pool c.args.w c.requires.kept.timely c.requires.first in
    let at : run_at c.args.works.now.runs c.args.w ≡ Some c.in-Some.run' = sym c.run.ensures ∙ c.in-Some.is in
    let is : slept.q ≡ c.in-Some.run' = (let one = slept.at in cc) in
    subst (λ (r : Run). is_rested r.phase ≡ true) is slept.rested

pub returns-in-None-clause-runs : goal.returns-in-None-clause-runs
returns-in-None-clause-runs c = slept_runs c.args.time c.args.works.now c.args.w (has_slept c.args.time c.args.works.now c.args.pool c.args.w c.requires.kept.timely c.requires.first)

pub returns-in-Some-clause-seen : goal.returns-in-Some-clause-seen
returns-in-Some-clause-seen c =
    c.rouse.ensures.seen
    ∙ ap (λ (r : Option Running). record (seen c.args.time c.args.works.now) { running = set (shown_all c.args.time c.args.works.now.runs) c.args.w r })
    (woken_shown c.args.time c.args.stamp c.args.works.now c.args.w (has_slept c.args.time c.args.works.now c.args.pool c.args.w c.requires.kept.timely c.requires.first) c.in-Some.run' (sym c.run.ensures ∙ c.in-Some.is))
