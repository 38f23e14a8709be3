use Rattle.std.proofs.Common.{◌≡◌, ℕ, Bool, true, ◌&&◌, ◌==◌, refl, sym, ap, ◌∙◌}
use Rattle.cmwq_types.specs.Contents.{ScenarioContents}
use Rattle.cmwq_types.specs.Scenario.{flags_at}
use Rattle.cmwq_table.specs.Counts.{has_free_rescuer}
use Rattle.cmwq_phased.specs.Runs.{rescued_of}
use Rattle.cmwq_running.specs.RunningContents.{RunningContents, seen, state_of}
use Rattle.cmwq_running.proofs.ShownLemmas.{has_free_rescuer_is}
use Rattle.cmwq_running.proofs.running_works.RunningWorks.has_free_rescuer.Goals as goal

pub returns-then-has_rescuer : goal.returns-then-has_rescuer
returns-then-has_rescuer c =
    let works = c.self.inside.works in
    let queue = c.args.queue in
    let has : (flags_at works.scenario queue).mem_reclaim ≡ true = ap (λ (S : ScenarioContents). (flags_at S queue).mem_reclaim) (sym c.scenario.ensures.scenario) ∙ sym c.has_rescuer.ensures ∙ c.if-has_rescuer.true in
    ap (λ (n : ℕ). n == 0) c.rescued_of.ensures.rescued
    ∙ sym (ap (λ (b : Bool). b && (rescued_of works.scenario works.runs queue == 0)) has)
    ∙ sym (has_free_rescuer_is works.scenario (state_of (seen c.self.inside.time works)) works.runs refl queue)
    ∙ ap (λ (m : RunningContents). has_free_rescuer m.scenario (state_of m) queue) c.self.view_is
