use Rattle.std.proofs.Common.{◌+◌, ℕ, length, arith, ap, ◌∙◌}
use Rattle.std.specs.Prelude.{◌&&◌, ◌==◌, nat_lt}
use Rattle.cmwq_types.specs.Contents.{ScenarioContents}
use Rattle.cmwq_types.specs.First.{count_below}
use Rattle.cmwq_types.specs.Scenario.{queue_of}
use Rattle.cmwq_table.specs.Counts.{active, is_active, pends, runs}
use Rattle.cmwq_table.specs.Ready.{Loaded}
use Rattle.cmwq_table.specs.State.{running_at}
use Rattle.cmwq_queued.specs.QueuedContents.{pending_active, pending_at}
use Rattle.cmwq_running.specs.RunningContents.{state_of}
use Rattle.cmwq_core.proofs.FoundLemmas.{count_most}
use Rattle.cmwq_core.proofs.core_parts.CorePartsParts.has_room.Goals as goal

pub overflow_add-active : goal.overflow_add-active
overflow_add-active c =
    let S = c.self.inside.queued.scenario in
    let few = count_most (λ w. (queue_of S w == c.args.queue) && pends (λ place. is_active place c.args.pool) (pending_at c.self.inside.queued.pending w)) (length S.works) in
    let works = ap (λ (S : ScenarioContents). length S.works) c.self.invariant.laid.sized.same in
    omega (arith, few, works, c.active.ensures, c.running_in.ensures.few, c.self.invariant.laid.sized.setting.works)

pub returns : goal.returns
returns c =
    let inside = c.self.inside in
    let running = c.running_in.ensures.running ∙ ap (λ (S : ScenarioContents). count_below (λ w. (queue_of S w == c.args.queue) && runs (λ r. r.pool == c.args.pool) (running_at (state_of inside.running) w)) (length S.works)) c.self.invariant.laid.sized.same in
    let counted = ap (λ (n : ℕ). n + c.running_in.result) c.active.ensures ∙ ap (λ (n : ℕ). pending_active inside.queued.scenario inside.queued.pending c.args.queue c.args.pool + n) running in
    ap (λ (n : ℕ). nat_lt n c.from.result) (counted ∙ ap (λ (m : Loaded). active m.scenario m.state c.args.queue c.args.pool) c.self.view_is)
    ∙ ap (nat_lt (active c.args.self.now.scenario c.args.self.now.state c.args.queue c.args.pool)) (c.from.ensures ∙ c.limit.ensures)
