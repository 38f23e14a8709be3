use Rattle.std.proofs.Common.{◌≡◌, ◌++◌, drop}
use Rattle.cmwq_trace.specs.JsonParts.{all_marked}
use Rattle.cmwq_trace.proofs.json_threads.JsonThreads.mark_all.Given as goal

-- those so far, and those that are left, make the whole
abbrev pub invariant-loop-execution : goal.invariant-loop-execution
invariant-loop-execution l =
    l.executions.items ++ all_marked l.scenario l.self (drop l.execution-index l.ended) ≡ all_marked l.scenario l.fn.self l.ended
