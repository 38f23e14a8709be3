-- What a line adds that declares a queue or a work, behind its first word.
use Rattle.std.specs.Prelude.{ℕ, List, Result}
use Rattle.cmwq_types.specs.Contents.{ScenarioContents}
use Rattle.cmwq_grammar.specs.LineFields.{◌>>=◌}
use Rattle.cmwq_grammar.specs.LineReasons.{add_queue, add_work, queue_at_line, work_at_line}
use Rattle.cmwq_grammar.specs.Stages.{Stage}
use Rattle.cmwq_grammar.specs.declared.why.Why.{Why}

abbrev pub declared_queue : ScenarioContents → List (List ℕ) → Result Stage Why
declared_queue S rest = queue_at_line S rest >>= add_queue S

abbrev pub declared_work : ScenarioContents → List (List ℕ) → Result Stage Why
declared_work S rest = work_at_line S rest >>= add_work S
