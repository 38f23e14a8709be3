use Rattle.std.proofs.Common.{ℕ, ◌&&◌, ◌∙◌, ap, length, nat_lt, sym}
use Rattle.cmwq_types.specs.Contents.{ScenarioContents}
use Rattle.cmwq_types.specs.Scenario.{queue_of}
use Rattle.cmwq_reasons.specs.declared.reason.Reason.{Reason}
use Rattle.cmwq_blame.specs.Blame.{blames}
use Rattle.cmwq_blame.specs.Table.{is_holder, is_on_worker}
use Rattle.cmwq_blame.proofs.BlamedLemmas.{blames-counted, blames-holders, blames-workers}
use Rattle.cmwq_blame.proofs.blamed.blames.Goals as goal

pub returns-in-Inactive : goal.returns-in-Inactive
returns-in-Inactive g c =
    let S = g.R.Reads.loaded c.args.machine.now in
    let s = g.R.Reads.state c.args.machine.now in
    let w = c.args.w.0 in
    let v = c.args.v in
    c.is_holder.ensures ∙ ap (λ (queue : ℕ). nat_lt v (length S.works) && is_holder S s queue c.in-Inactive.pool v) (c.queue_of-queue.ensures ∙ ap (λ (T : ScenarioContents). queue_of T w) c.scenario.ensures.scenario) ∙ sym (blames-holders S s w v c.in-Inactive.pool) ∙ ap (λ (a : Reason). blames S s w a v) (sym c.in-Inactive.is)

pub returns-in-Held : goal.returns-in-Held
returns-in-Held g c =
    let S = g.R.Reads.loaded c.args.machine.now in
    let s = g.R.Reads.state c.args.machine.now in
    let w = c.args.w.0 in
    let v = c.args.v in
    c.is_holding.ensures ∙ sym (blames-counted S s w v c.in-Held.pool) ∙ ap (λ (a : Reason). blames S s w a v) (sym c.in-Held.is)

pub returns-in-NoWorker : goal.returns-in-NoWorker
returns-in-NoWorker g c =
    let S = g.R.Reads.loaded c.args.machine.now in
    let s = g.R.Reads.state c.args.machine.now in
    let w = c.args.w.0 in
    let v = c.args.v in
    c.is_on_worker.ensures ∙ ap (λ (queue : ℕ). nat_lt v (length S.works) && is_on_worker S s queue c.in-NoWorker.pool v) (c.queue_of-queue.ensures ∙ ap (λ (T : ScenarioContents). queue_of T w) c.scenario.ensures.scenario) ∙ sym (blames-workers S s w v c.in-NoWorker.pool) ∙ ap (λ (a : Reason). blames S s w a v) (sym c.in-NoWorker.is)
