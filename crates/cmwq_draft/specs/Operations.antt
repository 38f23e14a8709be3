-- The lines of a body, behind their first words.
use Rattle.std.specs.Prelude.{ℕ, List, Result, length}
use Rattle.cmwq_types.specs.Contents.{ScenarioContents, WorkContents}
use Rattle.cmwq_grammar.specs.LineFields.{◌>>=◌, declared_at}
use Rattle.cmwq_grammar.specs.Instructions.{work_names}
use Rattle.cmwq_grammar.specs.LineReasons.{is_next}
use Rattle.cmwq_grammar.specs.declared.why.Why.{Why}
use Rattle.cmwq_scan.specs.LastFields.{last}

-- the next work, and no word behind it
abbrev pub next_at : ScenarioContents → List WorkContents → List (List ℕ) → Result ℕ Why
next_at S done rest = last (declared_at (work_names S) rest >>= is_next (length done))
