-- Which instructions are left of lines that were begun.
use Rattle.std.specs.Prelude.{ℕ, ◌-◌, List, [], ◌∷◌, ◌++◌, replicate}
use Rattle.cmwq_types.specs.Scenario.{expand_lines}
use Rattle.cmwq_types.specs.declared.instr.Instr.{Instr}
use Rattle.cmwq_types.specs.declared.scenario.Line.{Line}
use Rattle.cmwq_runs.specs.declared.instructions.Instructions.{Instructions}

-- the instructions of these lines, the first line's so many times less
abbrev pub but_given : ℕ → List Line → List Instr
but_given given [] = []
but_given given (line ∷ lines) = replicate (line.times - given) line.instr ++ expand_lines lines

abbrev pub left : Instructions → List Instr
left instrs = but_given instrs.given instrs.lines.now
