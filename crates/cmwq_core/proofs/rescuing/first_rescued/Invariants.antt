use Rattle.std.proofs.Common.{◌<◌, IfSome, length}
use Rattle.cmwq_types.specs.declared.limits.TheConstants.{MAX_WORKS}
use Rattle.cmwq_queued.specs.QueuedContents.{pending_at}
use Rattle.cmwq_table.specs.Counts.{is_listed, pending_stamp, pends}
use Rattle.cmwq_core.specs.Rescuing.{is_untaken}
use Rattle.cmwq_core.proofs.RescueLemmas.{HasCome, steps_left}
use Rattle.cmwq_core.proofs.rescuing.first_rescued.Given as goal

-- none of the works before this one can be taken
abbrev pub invariant-loop-at : goal.invariant-loop-at
invariant-loop-at l = record {
  come : HasCome (λ v. pending_stamp (pending_at l.fn.queued.pending v)) (λ v. pends (λ place. is_listed place l.fn.pool) (pending_at l.fn.queued.pending v))
      (λ v. is_untaken l.fn.running.scenario l.fn.running.running v) (length l.fn.queued.scenario.works) l.at;
  few : IfSome l.at (λ w. w < MAX_WORKS);
}

abbrev pub decreases-loop-at : goal.decreases-loop-at
decreases-loop-at l = steps_left (λ v. pending_stamp (pending_at l.fn.queued.pending v)) (λ v. pends (λ place. is_listed place l.fn.pool) (pending_at l.fn.queued.pending v)) (length l.fn.queued.scenario.works) l.at
