use Rattle.std.proofs.Common.{◌≡◌, ◌<◌, Some, sym, ap, subst, ◌∙◌}
use Rattle.cmwq_phased.specs.PhasedContents.{PhasedContents}
use Rattle.cmwq_phased.specs.Phases.{shown_all}
use Rattle.cmwq_phased.specs.Runs.{run_at}
use Rattle.cmwq_running.specs.Heads.{AreHeaded, alarm_count}
use Rattle.cmwq_running.proofs.EndLemmas.{Follows, all_timely, end_fewer, end_headed, end_shown, first_ends, first_later, first_to_end_runs, follows, on_time_of}
use Rattle.cmwq_running.proofs.ShownLemmas.{seen_is}
use Rattle.cmwq_running.proofs.ending.end_at.Goals as goal
use Rattle.cmwq_running.proofs.ending.end_at.Goals.{After-enter}

at : (c : After-enter) → run_at c.args.works.now.runs c.args.w ≡ Some c.in-Some.run'
at c = sym c.run.ensures ∙ c.in-Some.is

follow : (c : After-enter) → Follows c.args.time c.in-Some.run'.phase c.in-Some-ended.phase
follow c =
    follows c.args.time c.in-Some.run'.phase c.in-Some-ended.phase (on_time_of c.args.time c.args.works.now.runs c.requires.on_time c.args.w c.in-Some.run' (at c)) (sym c.ended.ensures ∙ c.in-Some-ended.is)

pub returns-in_default-clause-timely : goal.returns-in_default-clause-timely
returns-in_default-clause-timely c is = absurd (first_to_end_runs c.args.works.now.scenario c.args.works.now.runs c.args.w c.requires.headed.long c.requires.first (sym c.run.ensures ∙ c.in_default.is))

pub returns-in-None-clause-timely : goal.returns-in-None-clause-timely
returns-in-None-clause-timely c is =
    all_timely c.args.time c.args.works.now.runs c.requires.on_time
    (first_later c.args.works.now.scenario c.args.works.now.runs c.requires.headed.long c.args.time c.args.w c.in-Some.run' c.requires.first (sym c.run.ensures ∙ c.in-Some.is) (sym c.ended.ensures ∙ c.in-None.is))

pub returns-in-Some-ended-clause-seen : goal.returns-in-Some-ended-clause-seen
returns-in-Some-ended-clause-seen c =
    seen_is c.args.time c.enter.new.works _ _ (ap (λ (m : PhasedContents). m.scenario) c.enter.ensures)
    (ap (λ (m : PhasedContents). shown_all c.args.time m.runs) c.enter.ensures
    ∙ end_shown c.args.works.now.scenario c.args.works.now.runs c.args.time c.args.w c.in-Some.run' c.in-Some-ended.phase (at c) (follow c))

pub returns-in-Some-ended-clause-headed : goal.returns-in-Some-ended-clause-headed
returns-in-Some-ended-clause-headed c =
    subst (λ (m : PhasedContents). AreHeaded m.scenario m.runs) (sym c.enter.ensures)
    (end_headed c.args.works.now.scenario c.args.works.now.runs c.args.time c.args.w c.in-Some.run' c.in-Some-ended.phase (at c) (follow c) c.requires.headed)

pub returns-in-Some-ended-clause-fewer : goal.returns-in-Some-ended-clause-fewer
returns-in-Some-ended-clause-fewer c =
    subst (λ (m : PhasedContents). alarm_count m < alarm_count c.args.works.now) (sym c.enter.ensures)
    (end_fewer c.args.works.now.scenario c.args.works.now.runs c.args.time c.args.w c.in-Some.run' c.in-Some-ended.phase (at c) (follow c)
    (first_ends c.args.works.now.scenario c.args.works.now.runs c.requires.headed.long c.args.w c.requires.first).in_range)

pub run-requires : goal.run-requires
run-requires c = record { work = (first_ends c.args.works.now.scenario c.args.works.now.runs c.requires.headed.long c.args.w c.requires.first).in_range }
