-- What one may believe of what is told, as laws.
use Rattle.std.specs.Prelude.{◌≡◌, ℕ, Bool, true, false, not, ◌&&◌, ◌||◌, List, [], ◌∷◌, ◌+◌, ◌-◌, ◌++◌, length, map, replicate, codes, Option, Some, None, if◌then◌else◌, is_none, nat_lt, ◌==◌, slice_index_or}
use Rattle.std.specs.Fmt.{decimal}
use Rattle.std.specs.List.{filter, flat_map, join_with_byte}
use Rattle.cmwq_types.specs.Contents.{ActorContents, ScenarioContents}
use Rattle.cmwq_types.specs.First.{count_below}
use Rattle.cmwq_types.specs.Listing.{instr_words}
use Rattle.cmwq_types.specs.Scenario.{expand}
use Rattle.cmwq_types.specs.declared.instr.Instr.{Instr}
use Rattle.cmwq_types.specs.declared.reply.Place.{Place}
use Rattle.cmwq_types.specs.declared.reply.Place.TheVariants.{Timer, Inactive, Listed, Deferred}
use Rattle.cmwq_types.specs.declared.reply.Refusal.{Refusal}
use Rattle.cmwq_types.specs.declared.reply.Reply.TheVariants as reply
use Rattle.cmwq_types.specs.declared.reply.WorkRun.{WorkRun}
use Rattle.cmwq_table.specs.Laws.{waits_for_room, reply_to, state_after}
use Rattle.cmwq_table.specs.State.{State, pending_at, running_at, start}
use Rattle.cmwq_table.specs.Table.{is_question, run_of, table}
use Rattle.cmwq_table.specs.declared.state.Running.{Running}
use Rattle.cmwq_burning.specs.Burning.{finishes_work}
use Rattle.cmwq_grammar.specs.Cutting.{lines_of}
use Rattle.cmwq_grammar.specs.Grammar.{Spells}
use Rattle.cmwq_play.specs.PlayTexts.{IsRun}
use Rattle.cmwq_settle.specs.Settled.{IsSettledIf}
use Rattle.cmwq_settle.specs.Settling.{IsSettledRun}
use Rattle.cmwq_table.specs.declared.state.Pending.{Pending}
use Rattle.cmwq_tell.specs.declared.change.Change.{Change}
use Rattle.cmwq_tell.specs.declared.change.Change.TheVariants as change
use Rattle.cmwq_tell.specs.Hidden.{hidden}
use Rattle.cmwq_tell.specs.RunTold.{IsToldRun, Part, come_words, has_come, instr_line, parts_from, told_wholly}

-- Refusals and questions.

-- An instruction that is refused has no hidden change.
unfoldable pub HidesNothingRefused : ScenarioContents → State → Instr → Type 0
HidesNothingRefused S s i = (why : Refusal) → reply_to S s i ≡ reply.Refused why → hidden s (state_after S s i) (reply_to S s i) ≡ []

-- One that has come has none either, nor a line of its reply: its own line is all that there is to tell.
unfoldable pub HasItsLineAlone : ScenarioContents → State → Instr → Type 0
HasItsLineAlone S s i = (k : ℕ) → has_come S s i ≡ true → told_wholly S k s i (table S s i) ≡ instr_line S k i

-- A question has none, whatever the answer.
unfoldable pub HidesNothingAsked : ScenarioContents → State → Instr → Type 0
HidesNothingAsked S s i = is_question i ≡ true → hidden s (state_after S s i) (reply_to S s i) ≡ []

-- Counts.

-- how many of the changes pass
abbrev pub count_changes : (Change → Bool) → List Change → ℕ
count_changes test [] = 0
count_changes test (one ∷ more) = (if test one then 1 else 0) + count_changes test more

abbrev pub tells_activation : Change → Bool
tells_activation (change.Activated work pool) = true
tells_activation (change.Placed work place) = false
tells_activation (change.Now now) = false
tells_activation (change.Started work run) = false

abbrev pub tells_place : Change → Bool
tells_place (change.Placed work place) = true
tells_place (change.Activated work pool) = false
tells_place (change.Now now) = false
tells_place (change.Started work run) = false

abbrev pub tells_tick : Change → Bool
tells_tick (change.Now now) = true
tells_tick (change.Activated work pool) = false
tells_tick (change.Placed work place) = false
tells_tick (change.Started work run) = false

abbrev pub is_on_list : Place → Bool
is_on_list (Listed at) = true
is_on_list (Timer due cpu) = false
is_on_list (Inactive at) = false
is_on_list (Deferred at) = false

-- what was inactive before is listed now, and has its birth still
abbrev pub is_activation : (before now : Option Pending) → Bool
is_activation (Some p) (Some q) = waits_for_room p.place && is_on_list q.place && (q.born == p.born)
is_activation (Some p) None = false
is_activation None now = false

-- the work pends with a birth that isn't below
abbrev pub is_born : ℕ → Option Pending → Bool
is_born next (Some p) = not (nat_lt p.born next)
is_born next None = false

-- the change tells another time than this
abbrev pub is_time_but : ℕ → Change → Bool
is_time_but time (change.Now now) = not (now == time)
is_time_but time (change.Activated work pool) = false
is_time_but time (change.Placed work place) = false
is_time_but time (change.Started work run) = false

-- As many lines tell an activation as works go from inactive to listed with the same birth.
unfoldable pub TellsActivations : ScenarioContents → State → Instr → Type 0
TellsActivations S s i =
    count_changes tells_activation (hidden s (state_after S s i) (reply_to S s i))
    ≡ count_below (λ w. is_activation (pending_at s w) (pending_at (state_after S s i) w)) (length (state_after S s i).pending)

-- As many lines tell a place as works pend with a birth that is new.
unfoldable pub TellsPlaces : ScenarioContents → State → Instr → Type 0
TellsPlaces S s i =
    count_changes tells_place (hidden s (state_after S s i) (reply_to S s i))
    ≡ count_below (λ w. is_born s.next (pending_at (state_after S s i) w)) (length (state_after S s i).pending)

-- What is told of one work.

-- the change tells that this work was placed, where the test of its place is met
abbrev pub tells_placing : ℕ → (Place → Bool) → Change → Bool
tells_placing w test (change.Placed work place) = (work.0 == w) && test place
tells_placing w test (change.Activated work pool) = false
tells_placing w test (change.Now now) = false
tells_placing w test (change.Started work run) = false

-- the change tells that this work was activated, in a pool whose test is met
abbrev pub tells_activating : ℕ → (ℕ → Bool) → Change → Bool
tells_activating w test (change.Activated work pool) = (work.0 == w) && test pool
tells_activating w test (change.Placed work place) = false
tells_activating w test (change.Now now) = false
tells_activating w test (change.Started work run) = false

-- the change tells that this work starts, where the test of its pool and worker is met
abbrev pub tells_starting : ℕ → (WorkRun → Bool) → Change → Bool
tells_starting w test (change.Started work run) = (work.0 == w) && test run
tells_starting w test (change.Placed work place) = false
tells_starting w test (change.Activated work pool) = false
tells_starting w test (change.Now now) = false

abbrev pub runs_where : (WorkRun → Bool) → Option WorkRun → Bool
runs_where test (Some run) = test run
runs_where test None = false

-- an instance begins to run, where the test is met: one runs now, and none did before, or that one has ended
abbrev pub begins_where : (WorkRun → Bool) → (has_ended : Bool) → (before now : Option Running) → Bool
begins_where test has_ended before now = (is_none before || has_ended) && runs_where test (run_of now)

-- the work pends with a birth that isn't below, at a place whose test is met
abbrev pub is_born_at : ℕ → (Place → Bool) → Option Pending → Bool
is_born_at next test (Some p) = not (nat_lt p.born next) && test p.place
is_born_at next test None = false

abbrev pub is_listed_where : (ℕ → Bool) → Place → Bool
is_listed_where test (Listed at) = test at
is_listed_where test (Timer due cpu) = false
is_listed_where test (Inactive at) = false
is_listed_where test (Deferred at) = false

-- what was inactive before is listed now, in a pool whose test is met, and has its birth still
abbrev pub is_activation_in : (ℕ → Bool) → (before now : Option Pending) → Bool
is_activation_in test (Some p) (Some q) = waits_for_room p.place && is_listed_where test q.place && (q.born == p.born)
is_activation_in test (Some p) None = false
is_activation_in test None now = false

-- A line tells a place of a work exactly where the work has a new birth, and then it is that place; and one such line at most.
unfoldable pub TellsEachPlace : ScenarioContents → State → Instr → Type 0
TellsEachPlace S s i =
    (w : ℕ) (test : Place → Bool)
    → count_changes (tells_placing w test) (hidden s (state_after S s i) (reply_to S s i)) ≡ (if is_born_at s.next test (pending_at (state_after S s i) w) then 1 else 0)

-- A line tells an activation of a work exactly where the work goes from inactive to listed with the same birth, and then in that pool;
-- and one such line at most.
unfoldable pub TellsEachActivation : ScenarioContents → State → Instr → Type 0
TellsEachActivation S s i =
    (w : ℕ) (test : ℕ → Bool)
    → count_changes (tells_activating w test) (hidden s (state_after S s i) (reply_to S s i))
    ≡ (if is_activation_in test (pending_at s w) (pending_at (state_after S s i) w) then 1 else 0)

-- A line tells a start of a work exactly where an instance of it begins to run, and then in that pool and on that worker; and one such
-- line at most.
unfoldable pub TellsEachStart : ScenarioContents → State → Instr → Type 0
TellsEachStart S s i =
    (w : ℕ) (test : WorkRun → Bool)
    → count_changes (tells_starting w test) (hidden s (state_after S s i) (reply_to S s i))
    ≡ (if begins_where test (finishes_work w (reply_to S s i)) (running_at s w) (running_at (state_after S s i) w) then 1 else 0)

-- A line that tells a time tells the one that it is then.
unfoldable pub TellsTheTime : ScenarioContents → State → Instr → Type 0
TellsTheTime S s i =
    count_changes (λ told. is_time_but (state_after S s i).time told) (hidden s (state_after S s i) (reply_to S s i)) ≡ 0

-- As many lines tell a new time as ticks pass.
unfoldable pub TellsTicks : ScenarioContents → State → Instr → Type 0
TellsTicks S s i = count_changes tells_tick (hidden s (state_after S s i) (reply_to S s i)) + s.time ≡ (state_after S s i).time

-- Lines.

-- the line begins with `#`
abbrev pub is_marked : List ℕ → Bool
is_marked [] = false
is_marked (byte ∷ bytes) = byte == 35

-- it does, and its third byte isn't a space
abbrev pub is_instr_line : List ℕ → Bool
is_instr_line line = is_marked line && not (slice_index_or line 2 32 == 32)

-- the text of these lines
abbrev pub from_lines : List (List ℕ) → List ℕ
from_lines lines = flat_map (λ line. line ++ 10 ∷ []) lines

-- the text without its lines that begin with `#`
abbrev pub unmarked : List ℕ → List ℕ
unmarked text = from_lines (filter (λ line. not (is_marked line)) (lines_of text))

-- an instruction's line, without its end
abbrev pub instr_said : ScenarioContents → ℕ → Instr → List ℕ
instr_said S k instr = codes "# " ++ (decimal k ++ (codes " " ++ join_with_byte 32 (instr_words S instr)))

-- those of instructions from a position on
abbrev pub instrs_said : ScenarioContents → ℕ → List Instr → List (List ℕ)
instrs_said S k [] = []
instrs_said S k (instr ∷ instrs) = instr_said S k instr ∷ instrs_said S (k + 1) instrs

-- the line of instructions that stand at these positions and have come, without its end
abbrev pub come_said : ScenarioContents → (first last : ℕ) → Instr → List ℕ
come_said S first last instr =
    codes "# " ++ (decimal first ++ (codes " to " ++ (decimal last ++ (codes " " ++ (join_with_byte 32 (instr_words S instr) ++ (codes ": " ++ come_words instr))))))

-- the first line of a part, without its end
abbrev pub part_said : ScenarioContents → Part → List ℕ
part_said S part = if part.first == part.last then instr_said S part.first part.instr else come_said S part.first part.last part.instr

-- the instructions of a part, each in a line of its own
abbrev pub part_spelled : ScenarioContents → Part → List (List ℕ)
part_spelled S part = instrs_said S part.first (replicate (part.last + 1 - part.first) part.instr)

-- Without the lines that begin with `#` it is what the run prints.
unfoldable pub KeepsTheRun : Type 0
KeepsTheRun = (text told printed : List ℕ) → IsToldRun false (Some text) told → IsRun (Some text) printed → unmarked told ≡ printed

-- And of the settled scenario it is what that prints.
unfoldable pub KeepsTheSettledRun : Type 0
KeepsTheSettledRun =
    (text told printed : List ℕ) → IsToldRun true (Some text) told → IsSettledRun (Some text) printed → unmarked told ≡ printed

-- The lines that begin with `#` and aren't indented are the first lines of the parts of the run of the one actor of the scenario that is run.
unfoldable pub ListsEachPart : Type 0
ListsEachPart =
    (settle : Bool) (text told : List ℕ) (S T : ScenarioContents) (actor : ActorContents) → IsToldRun settle (Some text) told
    → Spells text S → IsSettledIf settle S T → T.actors ≡ actor ∷ []
    → filter is_instr_line (lines_of told) ≡ map (part_said T) (parts_from T 0 (start T) (expand actor))

-- The parts are all instructions, in order, each behind its position.
unfoldable pub PartsAreAll : Type 0
PartsAreAll = (S : ScenarioContents) (instrs : List Instr) → flat_map (part_spelled S) (parts_from S 0 (start S) instrs) ≡ instrs_said S 0 instrs
