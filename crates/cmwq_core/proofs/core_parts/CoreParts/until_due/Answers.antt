use Rattle.std.proofs.Common.{◌≡◌, ◌<◌, IfSome, None, arith, sym, subst, ◌∙◌}
use Rattle.cmwq_table.specs.Counts.{first_due}
use Rattle.cmwq_table.specs.Ready.{Loaded}
use Rattle.cmwq_core.specs.contracts.core_parts.CoreParts.{the_view}
use Rattle.cmwq_core.proofs.TickLemmas.{due_later}
use Rattle.cmwq_core.proofs.core_parts.CoreParts.until_due.Goals as goal

pub returns-in-Some-clause-some : goal.returns-in-Some-clause-some
returns-in-Some-clause-some c =
    let seen : Loaded = the_view c.self.inside in
    let none = subst (λ (m : Loaded). first_due m.scenario m.state ≡ None) (sym c.self.view_is) c.requires.due in
    let later = due_later seen.scenario seen.state none in
    let due = c.in-Some.due in
    let left : c.self.inside.running.time < due = subst (λ o. IfSome o (λ due. c.self.inside.running.time < due)) (sym c.next_due.ensures ∙ c.in-Some.is) later in
    omega (arith, left, c.min.ensures, c.saturating_sub.ensures, c.from.ensures, c.time.ensures, c.requires.some)
