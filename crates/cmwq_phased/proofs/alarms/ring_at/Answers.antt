use Rattle.std.proofs.Common.{List, Option, ℕ, Some, None, ap, set, sym, ◌∙◌}
use Rattle.std.proofs.lemmas.List.{set-set}
use Rattle.cmwq_phased.proofs.alarms.ring_at.Goals as goal

pub returns-in-Some : goal.returns-in-Some
returns-in-Some c =
    let alarms = c.args.alarms.now in
    let work = c.args.work.0 in
    c.set.ensures.set
    ∙ ap (λ (ticks : List (Option ℕ)). set ticks work (Some c.in-Some.tick)) c.silence.ensures
    ∙ set-set alarms work None (Some c.in-Some.tick)
    ∙ ap (set alarms work) (sym c.in-Some.is)
