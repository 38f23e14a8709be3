-- A scenario of which one queue is declared with another max_active.
use Rattle.std.specs.Prelude.{ℕ, slice_set}
use Rattle.cmwq_types.specs.Contents.{ScenarioContents}
use Rattle.cmwq_types.specs.Scenario.{queue_at}

-- All else stays, and so does what its actors do, a set_max of the queue too.
abbrev pub varied : ScenarioContents → (queue max : ℕ) → ScenarioContents
varied S queue max = record S { queues = slice_set S.queues queue (record (queue_at S queue) { max = max }) }
