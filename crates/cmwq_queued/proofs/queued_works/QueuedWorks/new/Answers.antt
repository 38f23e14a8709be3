use Rattle.std.proofs.Common.{◌≡◌, ◌+◌, ◌*◌, ℕ, length, Option, None, replicate, ap, ◌∙◌}
use Rattle.cmwq_lists.specs.ListContents.{no_ranks}
use Rattle.cmwq_types.specs.Contents.{ScenarioContents}
use Rattle.cmwq_timers.specs.declared.timer.Timer.{Timer}
use Rattle.cmwq_queued.specs.declared.pools.TheConstants.{MAX_POOLS}
use Rattle.cmwq_queued.proofs.ChangeLemmas.{nothing_indexed}
use Rattle.cmwq_queued.proofs.queued_works.QueuedWorks.new.Goals as goal
use Rattle.cmwq_table.specs.declared.state.Pending.{Pending}

pub invariant_of-result : goal.invariant_of-result
invariant_of-result c =
    let S = c.args.scenario.value in
    let works : c.len-works.result ≡ length S.works = c.len-works.ensures ∙ c.behind-scenario.inside.works.ok.0 ∙ ap (λ (s : ScenarioContents). length s.works) (c.behind-scenario.view_is ∙ c.deref.ensures) in
    let queues : c.len.result ≡ length S.queues = c.len.ensures ∙ c.behind-scenario-2.inside.queues.ok.0 ∙ ap (λ (s : ScenarioContents). length s.queues) (c.behind-scenario-2.view_is ∙ c.deref-2.ensures) in
    let classes : c.from.result * c.len.result ≡ MAX_POOLS * length S.queues = ap (λ (n : ℕ). n * c.len.result) c.from.ensures ∙ ap (λ (n : ℕ). MAX_POOLS * n) queues in
    let lists : c.from-2.result + c.from.result * c.len.result ≡ MAX_POOLS + MAX_POOLS * length S.queues = ap (λ (n : ℕ). n + c.from.result * c.len.result) c.from-2.ensures ∙ ap (λ (n : ℕ). MAX_POOLS + n) classes in
    nothing_indexed S c.in_ok-filled.field-0.items c.in_ok-new.field-0 c.in_ok-new-2.field-0 c.in_ok-new-3.field-0 c.in_ok-new-4.field-0 c.requires.setting
    (c.in_ok-filled.ensures ∙ ap (λ (n : ℕ). replicate {A = Option Pending} n None) works)
    (c.in_ok-new.ensures.empty ∙ ap (λ (n : ℕ). no_ranks n c.len-works.result) lists ∙ ap (λ (n : ℕ). no_ranks (MAX_POOLS + MAX_POOLS * length S.queues) n) works)
    (c.in_ok-new-2.ensures.empty ∙ ap (λ (n : ℕ). replicate {A = Option Timer} n None) works)
    (c.in_ok-new-3.ensures.empty ∙ ap (λ (n : ℕ). replicate {A = ℕ} n 0) classes)
    c.in_ok-new-4.ensures.empty
