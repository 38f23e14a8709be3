-- What is kept along a run that is told. No public clause cites this.
use Rattle.std.specs.Prelude.{ℕ, ◌+◌, ◌-◌, ◌^◌, Bool, false, ◌&&◌, List, [], ◌++◌, Option, Some, None, if◌then◌else◌, min}
use Rattle.cmwq_types.specs.Contents.{ScenarioContents}
use Rattle.cmwq_types.specs.contracts.instr.InstrPartialEq.TheImpl as instr_eq
use Rattle.cmwq_types.specs.declared.instr.Instr.{Instr}
use Rattle.cmwq_table.specs.State.{State}
use Rattle.cmwq_table.specs.Table.{table}
use Rattle.cmwq_table.specs.Events.{reply_line}
use Rattle.cmwq_tell.specs.RunTold.{change_lines, come_text, has_come, instr_line, told_wholly}
use Rattle.cmwq_tell.specs.declared.come.Come.{Come}
use Rattle.cmwq_tell.specs.declared.told.Told.{Told}
use Rattle.cmwq_tell.specs.declared.told.Whole.{Whole}

-- The instructions that have come and aren't told yet.

-- these are equal to the instruction
abbrev pub is_of : Option Come → Instr → Bool
is_of (Some come) i = instr_eq.ghosts.eq come.instr i
is_of None i = false

abbrev pub come_at : ℕ → Instr → Come
come_at k i = record { instr = i; first = k; last = k }

-- with the instruction at this position, which has come
abbrev pub lasting : Option Come → ℕ → Instr → Come
lasting (Some come) k i = if instr_eq.ghosts.eq come.instr i then record come { last = k } else come_at k i
lasting None k i = come_at k i

-- those that the instruction ends, and those that are held after it
abbrev pub ended : Option Come → (come : Bool) → Instr → Option Come
ended held come i = if come && is_of held i then None else held

abbrev pub held_then : Option Come → (come : Bool) → ℕ → Instr → Option Come
held_then held come k i = if come then Some (lasting held k i) else None

abbrev pub held_text : ScenarioContents → Option Come → List ℕ
held_text S (Some come) = come_text S come.first come.last come.instr
held_text S None = []

-- the line of those that were held, if there are some, that of the instruction, that of its reply if it has one, and those of its hidden changes
abbrev pub told_lines : Told → List ℕ
told_lines told =
    (held_text told.scenario.now told.before ++ instr_line told.scenario.now told.position told.instr)
    ++ reply_line told.scenario.now told.time told.instr told.reply ++ change_lines told.scenario.now told.changes.now

-- The teller.

-- what is told once the instruction is issued, where these were held
abbrev pub told_if : ScenarioContents → Option Come → ℕ → State → Instr → (come : Bool) → List ℕ
told_if S held k s i come =
    if come then held_text S (ended held come i) else held_text S (ended held come i) ++ told_wholly S k s i (table S s i)

abbrev pub told_then : ScenarioContents → Option Come → ℕ → State → Instr → List ℕ
told_then S held k s i = told_if S held k s i (has_come S s i)

-- one position more, if that is a number that there is
abbrev pub position_then : ℕ → ℕ
position_then k = min (k + 1) (2 ^ 64 - 1)

abbrev pub kept_then : Whole → ScenarioContents → State → Instr → Whole
kept_then whole S s i = record whole { position = position_then whole.position; held = held_then whole.held (has_come S s i) whole.position i }
