use Rattle.std.proofs.Common.{◌≡◌, Bool, ◌&&◌, ◌||◌, ◌==◌, not, ℕ, length, sym, ap, ◌∙◌}
use Rattle.std.specs.Prelude.{is_some}
use Rattle.cmwq_types.specs.Contents.{ScenarioContents}
use Rattle.cmwq_types.specs.First.{count_below}
use Rattle.cmwq_types.specs.Scenario.{flags_at, queue_of}
use Rattle.cmwq_table.specs.Counts.{is_activated, is_busy, is_busy_work, pends}
use Rattle.cmwq_table.specs.Ready.{Loaded}
use Rattle.cmwq_table.specs.State.{pending_at, running_at}
use Rattle.cmwq_running.specs.RunningContents.{state_of}
use Rattle.cmwq_core.specs.contracts.core_parts.CoreParts.{the_view}
use Rattle.cmwq_core.proofs.FoundLemmas.{and_or, some_of_either}
use Rattle.cmwq_core.proofs.core_parts.CorePartsParts.is_busy.Goals as goal

abbrev pend_busy : Loaded → ℕ → Bool
pend_busy m w = (flags_at m.scenario (queue_of m.scenario w)).freezable && pends is_activated (pending_at m.state w)

abbrev run_busy : Loaded → ℕ → Bool
run_busy m w = (flags_at m.scenario (queue_of m.scenario w)).freezable && is_some (running_at m.state w)

either : (m : Loaded) → is_busy m.scenario m.state ≡ (not (count_below (pend_busy m) (length m.scenario.works) == 0) || not (count_below (run_busy m) (length m.scenario.works) == 0))
either m = some_of_either (pend_busy m) (run_busy m) (is_busy_work m.scenario m.state) (length m.scenario.works) (λ w. and_or (flags_at m.scenario (queue_of m.scenario w)).freezable (pends is_activated (pending_at m.state w)) (is_some (running_at m.state w)))

pub returns-then-is_busy : goal.returns-then-is_busy
returns-then-is_busy c =
    let seen : Loaded = the_view c.self.inside in
    c.if-is_busy.true ∙ sym (either seen ∙ ap (λ (b : Bool). b || not (count_below (run_busy seen) (length seen.scenario.works) == 0)) (sym c.is_busy.ensures ∙ c.if-is_busy.true)) ∙ ap (λ (m : Loaded). is_busy m.scenario m.state) c.self.view_is

pub returns-else-is_busy : goal.returns-else-is_busy
returns-else-is_busy c =
    let seen : Loaded = the_view c.self.inside in
    let running = c.freezable_running.ensures.running ∙ ap (λ (S : ScenarioContents). count_below (λ w. (flags_at S (queue_of S w)).freezable && is_some (running_at (state_of c.self.inside.running) w)) (length S.works)) c.self.invariant.laid.sized.same in
    ap (λ (n : ℕ). not (n == 0)) running ∙ sym (either seen ∙ ap (λ (b : Bool). b || not (count_below (run_busy seen) (length seen.scenario.works) == 0)) (sym c.is_busy.ensures ∙ c.if-is_busy.false)) ∙ ap (λ (m : Loaded). is_busy m.scenario m.state) c.self.view_is
