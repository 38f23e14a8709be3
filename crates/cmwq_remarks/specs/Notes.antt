-- What is noted of a good text: where a kernel does otherwise than this program, and which lines do less than they seem to. The lines are this project's
-- own.
use Rattle.std.specs.Prelude.{◌≡◌, ◌⊎◌, ◌==◌, ℕ, suc, Bool, false, not, ◌&&◌, ◌||◌, List, [], ◌∷◌, ◌++◌, Option, None, Some, codes, if◌then◌else◌, nat_le, length}
use Rattle.std.specs.Fmt.{decimal}
use Rattle.std.specs.List.{list_any}
use Rattle.std.specs.Str.{bytes_eq}
use Rattle.cmwq_types.specs.Contents.{ScenarioContents}
use Rattle.cmwq_types.specs.First.{count_below}
use Rattle.cmwq_types.specs.Scenario.{flags_at, queue_named, queue_of, work_at, work_named}
use Rattle.cmwq_types.specs.declared.scenario.Flags.{Flags}
use Rattle.cmwq_types.specs.declared.scenario.Op.{Op}
use Rattle.cmwq_types.specs.declared.scenario.Op.TheVariants as op
use Rattle.cmwq_grammar.specs.Cutting.{lines_of, words_of}
use Rattle.cmwq_grammar.specs.FaultLaw.{IsFault}
use Rattle.cmwq_grammar.specs.Grammar.{Spells}
use Rattle.cmwq_grammar.specs.Meaning.{FaultAt}
use Rattle.cmwq_remarks.specs.Traps.{cpu_sentence, has_few_steps, is_cpu, steps_sentence, uncounted, wants_cpu}

-- `FILE:LINE: note: NAME: SENTENCE`
abbrev pub place_text : (file : List ℕ) → (number : ℕ) → List ℕ
place_text file number = file ++ codes ":" ++ decimal number ++ codes ": note: "

abbrev pub note_line : (file : List ℕ) → (number : ℕ) → (name sentence : List ℕ) → List ℕ
note_line file number name sentence = place_text file number ++ name ++ codes ": " ++ sentence ++ codes "\n"

-- A work that is cancelled, and waited for, though its body queues it again. A kernel's cancel_work_sync keeps it from that
-- (`kernel/workqueue.c`, __cancel_work_timer).

abbrev pub sync_sentence : List ℕ
sync_sentence = codes "cancel_sync lets it queue itself again, and a kernel's doesn't; disable, flush and enable do as a kernel's"

abbrev pub queues_work : ℕ → Op → Bool
queues_work w (op.Queue other cpu) = other.0 == w
queues_work w (op.Delay other ticks) = other.0 == w
queues_work w (op.Mod other ticks) = other.0 == w
queues_work w other = false

abbrev pub queues_itself : ScenarioContents → ℕ → Bool
queues_itself S w = list_any (queues_work w) (work_at S w).body

abbrev pub sync_note : ScenarioContents → (file : List ℕ) → ℕ → (name : List ℕ) → Option ℕ → List ℕ
sync_note S file number name (Some w) = if queues_itself S w then note_line file number name sync_sentence else []
sync_note S file number name None = []

-- A CPU-intensive queue of bound works that isn't alone: a CPU serves first come, first served here, and a kernel's is shared.

abbrev pub intensive_sentence : List ℕ
intensive_sentence = codes "other work items start beside its own, but burn only after these sleep or finish; a kernel time-slices the CPU"

-- works of such a queue go to the pools of a CPU
abbrev pub is_bound : Flags → Bool
is_bound flags = not (flags.unbound || flags.ordered)

abbrev pub is_bound_work : ScenarioContents → ℕ → Bool
is_bound_work S w = is_bound (flags_at S (queue_of S w))

-- how many works go to the pools of CPUs, and how many are of the queue
abbrev pub bound_works : ScenarioContents → ℕ
bound_works S = count_below (is_bound_work S) (length S.works)

abbrev pub is_work_of : ScenarioContents → (queue : ℕ) → ℕ → Bool
is_work_of S queue w = queue_of S w == queue

abbrev pub works_of : ScenarioContents → ℕ → ℕ
works_of S queue = count_below (is_work_of S queue) (length S.works)

abbrev pub is_intensive_beside : ScenarioContents → ℕ → Bool
is_intensive_beside S queue =
    (flags_at S queue).cpu_intensive && (is_bound (flags_at S queue) && (nat_le 1 (works_of S queue) && nat_le 2 (bound_works S)))

abbrev pub intensive_note : ScenarioContents → (file : List ℕ) → ℕ → (name : List ℕ) → Option ℕ → List ℕ
intensive_note S file number name (Some queue) = if is_intensive_beside S queue then note_line file number name intensive_sentence else []
intensive_note S file number name None = []

-- Lines.

-- a queue is declared by `queue NAME max ..`; in bodies and actors a number stands there
abbrev pub begins_with_max : List (List ℕ) → Bool
begins_with_max [] = false
begins_with_max (word ∷ words) = bytes_eq word (codes "max")

-- what is noted of a line of these words
abbrev pub line_note : ScenarioContents → (file : List ℕ) → ℕ → List (List ℕ) → List ℕ
line_note S file number (word ∷ name ∷ more) =
    if bytes_eq word (codes "cancel_sync") then sync_note S file number name (work_named S name)
    else if bytes_eq word (codes "queue") && begins_with_max more then intensive_note S file number name (queue_named S name)
    else []
line_note S file number words = []

-- Lines that do less than they seem to.

abbrev pub note_if : (file : List ℕ) → ℕ → (name : List ℕ) → Option (List ℕ) → List ℕ
note_if file number name None = []
note_if file number name (Some sentence) = note_line file number name sentence

abbrev pub steps_note : ScenarioContents → (file : List ℕ) → ℕ → List ℕ
steps_note S file number = if has_few_steps S then note_line file number (codes "steps") (steps_sentence S.steps) else []

-- `max` stands in a CPU's place where a queue is declared
abbrev pub cpu_note : ScenarioContents → (file : List ℕ) → ℕ → (word : List ℕ) → (operands : List (List ℕ)) → List ℕ
cpu_note S file number word (name ∷ cpu ∷ more) =
    if wants_cpu word more && (not (bytes_eq cpu (codes "max")) && not (is_cpu S cpu))
    then note_line file number name (cpu_sentence S.cpus word cpu)
    else []
cpu_note S file number word operands = []

abbrev pub trap_note : ScenarioContents → (file : List ℕ) → ℕ → List (List ℕ) → List ℕ
trap_note S file number [] = []
trap_note S file number (word ∷ operands) =
    if bytes_eq word (codes "steps") then steps_note S file number
    else note_if file number word (uncounted word operands) ++ cpu_note S file number word operands

abbrev pub line_notes : ScenarioContents → (file : List ℕ) → ℕ → List (List ℕ) → List ℕ
line_notes S file number words = line_note S file number words ++ trap_note S file number words

-- and of these lines, the first of which has this number
abbrev pub notes_from : ScenarioContents → (file : List ℕ) → ℕ → List (List ℕ) → List ℕ
notes_from S file number [] = []
notes_from S file number (line ∷ lines) = line_notes S file number (words_of line) ++ notes_from S file (suc number) lines

-- these are the notes on a text; none where it spells no scenario
abbrev pub AreNotes : (file text told : List ℕ) → Type 0
AreNotes file text told =
    ((S : ScenarioContents) × Spells text S × (told ≡ notes_from S file 1 (lines_of text))) ⊎ ((fault : FaultAt) × IsFault text fault × (told ≡ []))
