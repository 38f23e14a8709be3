-- What is written of a work, and of a flush, behind the first instructions of a scenario's actors.
use Rattle.std.specs.Prelude.{ℕ, List, Option}
use Rattle.cmwq_types.specs.Contents.{ScenarioContents}
use Rattle.cmwq_reason_examples.specs.Waiting.{at}
use Rattle.cmwq_flush_waits.specs.FlushText.{flush_lines}
use Rattle.cmwq_why_text.specs.WhyText.{why_text}

abbrev pub line_at_position : ScenarioContents → ℕ → ℕ → List ℕ
line_at_position S position w = why_text S (at S position) w

-- nothing before the flush is given
abbrev pub block : ScenarioContents → ℕ → ℕ → Option (List ℕ)
block S position flush = flush_lines S (at S position) flush

-- the same scenario with so many steps
abbrev pub with_steps : ℕ → ScenarioContents → ScenarioContents
with_steps steps S = record S { steps = steps }
