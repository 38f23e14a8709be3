use Rattle.std.proofs.Common.{rules, ◌≡◌, length, None, arith, ap, sym, ◌∙◌}
use Rattle.std.proofs.lemmas.List.{get_or_past}
use Rattle.cmwq_timers.specs.Timers.{first_to_fire, timer_found}
use Rattle.cmwq_timers.proofs.scan.first_scanned.Goals as goal

pub returns-in-None : goal.returns-in-None
returns-in-None c =
    let timers = c.args.timers.now in
    let none : first_to_fire timers ≡ None = search rules in
    get_or_past timers (length timers) None (omega arith) ∙ sym (ap (timer_found timers) none)
