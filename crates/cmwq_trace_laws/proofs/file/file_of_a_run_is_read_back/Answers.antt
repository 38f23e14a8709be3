use Rattle.cmwq_trace_laws.proofs.FileRunLemmas.{tells_each_run}
use Rattle.cmwq_trace_laws.proofs.file.file_of_a_run_is_read_back.Goals as goal

pub returns : goal.returns
returns c = tells_each_run c.time_never_falls.ensures c.file_is_read_back.ensures
