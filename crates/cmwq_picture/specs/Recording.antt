-- A run that is recorded, column by column. No public clause cites this module.
use Rattle.std.specs.Prelude.{ℕ, ◌+◌, ◌≤◌, ◌<◌, Bool, false, ◌&&◌, ◌||◌, List, [], ◌∷◌, ◌++◌, length, if◌then◌else◌, nat_lt}
use Rattle.cmwq_types.specs.Contents.{ScenarioContents}
use Rattle.cmwq_types.specs.Setting.{IsSetting}
use Rattle.cmwq_types.specs.declared.instr.Instr.{Instr}
use Rattle.cmwq_types.specs.declared.reply.Reply.{Reply}
use Rattle.cmwq_table.specs.Ready.{HasCounters}
use Rattle.cmwq_table.specs.State.{State, start}
use Rattle.cmwq_table.specs.Table.{table}
use Rattle.std.specs.List.{cons_option}
use Rattle.cmwq_picture.specs.Arming.{new_arming}
use Rattle.cmwq_picture.specs.Column.{ColumnContents, column_of}
use Rattle.cmwq_picture.specs.Folding.{is_open, stretches_of}
use Rattle.cmwq_picture.specs.Picture.{Deeds, deeds_of, from_time, is_act, is_drawn}
use Rattle.cmwq_picture.specs.declared.arming.Arming.{Arming}
use Rattle.cmwq_picture.specs.declared.row.Act.{Act}
use Rattle.cmwq_drawing.specs.declared.drawing.Span.{Span}
use Rattle.cmwq_picture.specs.declared.span.TheConstants.{MAX_COLUMNS}

-- a scenario's run up to some instruction, what is told of it since the last tick, what the actor did in the span, and the columns so far
pub record Recording : Type 0 where
  pub scenario : ScenarioContents
  pub span : Span
  pub state : State
  pub deeds : Deeds
  pub acts : List Act
  pub columns : List ColumnContents

abbrev pub recording_of : ScenarioContents → Span → State → Deeds → List Act → List ColumnContents → Recording
recording_of S span s deeds acts columns = record { scenario = S; span = span; state = s; deeds = deeds; acts = acts; columns = columns }

abbrev pub no_deeds : Deeds
no_deeds = deeds_of false []

abbrev pub recording_begun : ScenarioContents → Span → Recording
recording_begun S span = recording_of S span (start S) no_deeds [] []

-- the columns of an instruction: one where a tick passes that is drawn
abbrev pub new_columns : Recording → State → Deeds → List ColumnContents
new_columns r next deeds =
    if nat_lt r.state.time next.time && is_drawn r.span r.state.time then column_of r.scenario r.state deeds ∷ [] else []

-- what is noted of an instruction: that the actor did it, within the span
abbrev pub new_acts : Span → ℕ → Instr → Reply → List Act
new_acts span time i answer = if is_act i answer && is_drawn span time then record { time = time; instr = i } ∷ [] else []

-- what is told of it besides, where it leads to this state
abbrev pub armed_by : List Arming → ℕ → State → Reply → List Arming
armed_by armed time after answer = armed ++ cons_option (new_arming time after answer) []

abbrev pub told : Deeds → ℕ → Instr → State → Reply → Deeds
told deeds time i after answer = deeds_of (deeds.acted || is_act i answer) (armed_by deeds.armed time after answer)

-- it has led to the recording's state
abbrev pub noted : Recording → ℕ → Instr → Reply → Recording
noted r time i answer = record r { deeds = told r.deeds time i r.state answer; acts = r.acts ++ new_acts r.span time i answer }

-- one more instruction
abbrev pub went_on : Recording → State → Deeds → List Act → Recording
went_on r next deeds acts =
    record r {
      state = next;
      deeds = if nat_lt r.state.time next.time then no_deeds else deeds;
      acts = acts;
      columns = r.columns ++ new_columns r next deeds;
    }

abbrev pub issued : Recording → Instr → Recording
issued r i =
    went_on r (table r.scenario r.state i).0 (told r.deeds r.state.time i (table r.scenario r.state i).0 (table r.scenario r.state i).1)
    (r.acts ++ new_acts r.span r.state.time i (table r.scenario r.state i).1)

abbrev pub issued_all : Recording → List Instr → Recording
issued_all r [] = r
issued_all r (i ∷ is) = issued_all (issued r i) is

-- more stretches than columns are drawn where an end of the span isn't given
abbrev pub overflows : Recording → Bool
overflows r = is_open r.span && nat_lt MAX_COLUMNS (length (stretches_of r.columns))

-- what holds of every recording between two instructions
pub record IsRecording (r : Recording) : Type 0 where
  pub setting : IsSetting r.scenario
  pub counters : HasCounters r.scenario r.state
  -- each column is a tick, from the span's first one on
  pub few : length r.columns ≤ r.state.time
  pub late : 0 < length r.columns → from_time r.span.from + length r.columns ≤ r.state.time
