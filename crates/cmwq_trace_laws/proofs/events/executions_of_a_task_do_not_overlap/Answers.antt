use Rattle.cmwq_trace_laws.proofs.OverlapLemmas.{never_overlaps}
use Rattle.cmwq_trace_laws.proofs.events.executions_of_a_task_do_not_overlap.Goals as goal

pub returns : goal.returns
returns c = never_overlaps c.queues_have_at_most_one_rescuer.ensures
