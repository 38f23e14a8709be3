use Rattle.cmwq_trace_laws.proofs.AloneLemmas.{executes_one_by_one}
use Rattle.cmwq_trace_laws.proofs.events.tasks_execute_one_by_one.Goals as goal

pub returns : goal.returns
returns c = executes_one_by_one c.queues_have_at_most_one_rescuer.ensures
