use Rattle.std.proofs.Common.{ℕ, List, Option, set, ap, subst, sym, ◌∙◌}
use Rattle.cmwq_phased.specs.Indexes.{AreTimed}
use Rattle.cmwq_phased.proofs.ChangeLemmas.{timed_with}
use Rattle.cmwq_phased.proofs.alarms.set_alarm.Goals as goal

pub returns : goal.returns
returns c =
    let runs = c.args.runs.now in
    let alarms = c.args.alarms.now in
    let is = c.ring_at.ensures ∙ ap (set alarms c.args.w) c.alarm_of-2.ensures in
    record { timed = subst (λ (ts : List (Option ℕ)). AreTimed (set runs c.args.w c.args.run) ts) (sym is) (timed_with runs alarms c.args.w c.args.run c.requires.timed c.requires.work) }
