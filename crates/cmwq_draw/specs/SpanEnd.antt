-- Where a drawing ends. An end of the span that the run doesn't pass cuts nothing off: neither a tick, nor what the actor did after the last tick.
use Rattle.std.specs.Prelude.{ℕ, ◌-◌, ◌^◌, List, Option, Some, None, if◌then◌else◌, nat_lt}
use Rattle.cmwq_types.specs.Contents.{ScenarioContents}
use Rattle.cmwq_types.specs.declared.instr.Instr.{Instr}
use Rattle.cmwq_table.specs.State.{start}
use Rattle.cmwq_table.specs.Table.{after_all}
use Rattle.cmwq_drawing.specs.declared.drawing.Span.{Span}

-- the time at which the run of these instructions ends
abbrev pub run_end : ScenarioContents → List Instr → ℕ
run_end S instrs = (after_all S (start S) instrs).time

-- the end of the span if the run goes beyond it, and otherwise the last time that there is
abbrev pub end_drawn : ℕ → ℕ → ℕ
end_drawn end to = if nat_lt to end then to else 2 ^ 64 - 1

abbrev pub to_drawn : ℕ → Option ℕ → Option ℕ
to_drawn end (Some to) = Some (end_drawn end to)
to_drawn end None = None

-- the span that is drawn of the instructions' run
abbrev pub span_drawn : ScenarioContents → List Instr → Span → Span
span_drawn S instrs span = record span { to = to_drawn (run_end S instrs) span.to }
