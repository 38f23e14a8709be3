-- The table of reasons: what each line tells at the stage where it stands, or why it can't.
use Rattle.std.specs.Prelude.{ℕ, ◌+◌, Bool, true, not, ◌&&◌, ◌||◌, List, [], ◌∷◌, ◌++◌, length, Option, Some, None, Result, Ok, Err, if◌then◌else◌, codes, nat_lt, ◌==◌}
use Rattle.std.specs.Str.{bytes_eq, is_utf8}
use Rattle.cmwq_types.specs.Contents.{ScenarioContents, WorkContents}
use Rattle.cmwq_types.specs.Faults.{fits_flags, is_finish}
use Rattle.cmwq_types.specs.Fields.{fields}
use Rattle.cmwq_types.specs.Operations.{op_shape_of, op_with, op_word_read}
use Rattle.cmwq_types.specs.Scenario.{plain_flags}
use Rattle.cmwq_types.specs.declared.check.Fault.TheVariants as fault
use Rattle.cmwq_types.specs.declared.fields.Fields.{Fields}
use Rattle.cmwq_types.specs.declared.fields.Shape.{Shape}
use Rattle.cmwq_types.specs.declared.fields.Shape.TheVariants as shape
use Rattle.cmwq_types.specs.declared.limits.TheConstants.{MAX_ACTORS, MAX_CPUS, MAX_FLUSHES, MAX_LINES, MAX_OPS, MAX_QUEUES, MAX_STEPS, MAX_TICKS, MAX_WORKERS, MAX_WORKS}
use Rattle.cmwq_types.specs.declared.operation.OpWord.{OpWord}
use Rattle.cmwq_types.specs.declared.scenario.Flags.{Flags}
use Rattle.cmwq_types.specs.declared.scenario.Line.{Line}
use Rattle.cmwq_types.specs.declared.scenario.Op.{Op}
use Rattle.cmwq_types.specs.declared.scenario.QueueDecl.{QueueDecl}
use Rattle.cmwq_grammar.specs.Cutting.{words_of}
use Rattle.cmwq_grammar.specs.LineFields.{◌>>=◌, value_if, ended, made_last, new_name_at, declared_at, number_at, number_within, number_below, after_word}
use Rattle.cmwq_grammar.specs.Instructions.{queue_names, work_names, actor_names, queue_id, cannot_stand, line_at}
use Rattle.cmwq_grammar.specs.Stages.{Stage, Start, Cpus, Workers, Steps, Queues, Works, Bodies, Body, Actor, head_of, with_body, with_actor}
use Rattle.cmwq_grammar.specs.declared.why.Why.{Why}
use Rattle.cmwq_grammar.specs.declared.why.Why.TheVariants as why

-- `queue NAME max N FLAG..`

-- a flag: its word, whether it is set, and the flags with it set
pub record FlagWord : Type 0 where
  pub word : List ℕ
  pub has : Flags → Bool
  pub set : Flags → Flags

-- The flags.
abbrev pub flag_table : List FlagWord
flag_table =
    record { word = codes "highpri"; has = λ flags. flags.highpri; set = λ flags. record flags { highpri = true } }
    ∷ record { word = codes "unbound"; has = λ flags. flags.unbound; set = λ flags. record flags { unbound = true } }
    ∷ record { word = codes "cpu_intensive"; has = λ flags. flags.cpu_intensive; set = λ flags. record flags { cpu_intensive = true } }
    ∷ record { word = codes "freezable"; has = λ flags. flags.freezable; set = λ flags. record flags { freezable = true } }
    ∷ record { word = codes "ordered"; has = λ flags. flags.ordered; set = λ flags. record flags { ordered = true } }
    ∷ record { word = codes "mem_reclaim"; has = λ flags. flags.mem_reclaim; set = λ flags. record flags { mem_reclaim = true } }
    ∷ []

-- the flag, if it isn't set yet
abbrev pub set_once : Bool → Flags → Result Flags Why
set_once is_set flags = value_if (not is_set) flags (why.Fault fault.Duplicate)

-- the flags, and of these the one that the word names
abbrev pub add_among : List FlagWord → Flags → List ℕ → Result Flags Why
add_among [] flags word = Err why.BadWord
add_among (flag ∷ more) flags word =
    if bytes_eq word flag.word then set_once (flag.has flags) (flag.set flags) else add_among more flags word

unfoldable pub add_flag : Flags → List ℕ → Result Flags Why
add_flag = add_among flag_table

-- each word that is left is a flag
unfoldable pub flags_at_line : List (List ℕ) → Flags → Result Flags Why
flags_at_line [] flags = Ok flags
flags_at_line (word ∷ rest) flags = add_flag flags word >>= flags_at_line rest

abbrev pub queue_of_flags : List ℕ → ℕ → Flags → Result QueueDecl Why
queue_of_flags name max flags = Ok (record { name = name; max = max; flags = flags })

abbrev pub then_flags : List ℕ → ℕ × List (List ℕ) → Result QueueDecl Why
then_flags name max = flags_at_line max.1 plain_flags >>= queue_of_flags name max.0

abbrev pub then_number : List ℕ → List (List ℕ) → Result QueueDecl Why
then_number name rest = number_at rest >>= then_flags name

abbrev pub then_max : List ℕ × List (List ℕ) → Result QueueDecl Why
then_max name = after_word (codes "max") name.1 >>= then_number name.0

unfoldable pub queue_at_line : ScenarioContents → List (List ℕ) → Result QueueDecl Why
queue_at_line S rest = new_name_at (queue_names S) rest >>= then_max

unfoldable pub add_queue : ScenarioContents → QueueDecl → Result Stage Why
add_queue S queue =
    if not (fits_flags queue) then Err (why.Fault fault.BadFlags)
    else value_if (nat_lt (length S.queues) MAX_QUEUES) (Queues (record S { queues = S.queues ++ queue ∷ [] })) (why.Fault fault.TooMany)

-- `work NAME QUEUE`

abbrev pub new_work : List ℕ → ℕ → WorkContents
new_work name queue = record { name = name; queue = queue_id queue; body = [] }

abbrev pub then_queue : ScenarioContents → List ℕ × List (List ℕ) → Result WorkContents Why
then_queue S name = declared_at (queue_names S) name.1 >>= made_last (new_work name.0)

unfoldable pub work_at_line : ScenarioContents → List (List ℕ) → Result WorkContents Why
work_at_line S rest = new_name_at (work_names S) rest >>= then_queue S

unfoldable pub add_work : ScenarioContents → WorkContents → Result Stage Why
add_work S work =
    value_if (nat_lt (length S.works) MAX_WORKS) (Works (record S { works = S.works ++ work ∷ [] })) (why.Fault fault.TooMany)

-- `body NAME`

abbrev pub is_next : ℕ → ℕ × List (List ℕ) → Result (ℕ × List (List ℕ)) Why
is_next next work = value_if (work.0 == next) work why.Misplaced

unfoldable pub open_body : ScenarioContents → List WorkContents → List (List ℕ) → Result Stage Why
open_body S done rest =
    (declared_at (work_names S) rest >>= is_next (length done)) >>= made_last (λ work. Body S done [])

-- an operation

-- the operands of a work and a CPU
abbrev pub then_cpu : ScenarioContents → ℕ × List (List ℕ) → Result Fields Why
then_cpu S work = number_below S.cpus work.1 >>= made_last (λ cpu. fields cpu work.0 0)

-- of a work and of ticks, from 0 on
abbrev pub then_ticks : ℕ × List (List ℕ) → Result Fields Why
then_ticks work = number_within 0 MAX_TICKS work.1 >>= made_last (fields 0 work.0)

-- the operands of an operation, by its shape
abbrev pub op_operands_at : ScenarioContents → Shape → List (List ℕ) → Result Fields Why
op_operands_at S shape.Alone rest = ended (fields 0 0 0) rest
op_operands_at S shape.Ticks rest = number_within 1 MAX_TICKS rest >>= made_last (fields 0 0)
op_operands_at S shape.Work rest = declared_at (work_names S) rest >>= made_last (λ work. fields 0 work 0)
op_operands_at S shape.WorkCpu rest = declared_at (work_names S) rest >>= then_cpu S
op_operands_at S shape.WorkTicks rest = declared_at (work_names S) rest >>= then_ticks
-- no operation has another shape
op_operands_at S other rest = Err why.Misplaced

-- `body` and `actor` in an open body mean that it has no `finish`
abbrev pub not_in_body : List ℕ → Why
not_in_body word = if bytes_eq word (codes "body") || bytes_eq word (codes "actor") then why.Fault fault.BadBody else why.Misplaced

abbrev pub made_op : OpWord → Fields → Result Op Why
made_op word operands = Ok (op_with word operands)

-- the operation of this word
abbrev pub op_of_word : ScenarioContents → OpWord → List (List ℕ) → Result Op Why
op_of_word S word rest = op_operands_at S (op_shape_of word) rest >>= made_op word

-- the same, if it is an operation's
abbrev pub op_named : ScenarioContents → List ℕ → Option OpWord → List (List ℕ) → Result Op Why
op_named S word (Some named) rest = op_of_word S named rest
op_named S word None rest = cannot_stand (not_in_body word) word

unfoldable pub op_at_line : ScenarioContents → List ℕ → List (List ℕ) → Result Op Why
op_at_line S word rest = op_named S word (op_word_read word) rest

-- `finish` ends the body; any other operation must leave room for it
unfoldable pub add_op : ScenarioContents → List WorkContents → List Op → Op → Result Stage Why
add_op S done ops next =
    if is_finish next then Ok (Bodies S (with_body S done (ops ++ next ∷ [])))
    else value_if (nat_lt (length ops + 1) MAX_OPS) (Body S done (ops ++ next ∷ [])) (why.Fault fault.TooMany)

-- `actor NAME`, and an actor's line

abbrev pub add_actor : ScenarioContents → List ℕ → Result Stage Why
add_actor S name = value_if (nat_lt (length S.actors) MAX_ACTORS) (Actor S name []) (why.Fault fault.TooMany)

unfoldable pub open_actor : ScenarioContents → List (List ℕ) → Result Stage Why
open_actor S rest = (new_name_at (actor_names S) rest >>= made_last (λ name. name)) >>= add_actor S

unfoldable pub add_line : ScenarioContents → List ℕ → List Line → Line → Result Stage Why
add_line S name lines line =
    value_if (nat_lt (length lines) MAX_LINES) (Actor S name (lines ++ line ∷ [])) (why.Fault fault.TooMany)

-- The stage after a line of these words. A line without words tells nothing.

abbrev pub all_have_bodies : ScenarioContents → List WorkContents → Bool
all_have_bodies S done = length done == length S.works

abbrev pub with_works : ScenarioContents → List WorkContents → ScenarioContents
with_works S works = record S { works = works }

unfoldable pub step : Stage → List (List ℕ) → Result Stage Why
step stage [] = Ok stage
step Start (word ∷ rest) =
    if bytes_eq word (codes "cpus") then number_within 1 MAX_CPUS rest >>= made_last Cpus
    else cannot_stand why.Misplaced word
step (Cpus cpus) (word ∷ rest) =
    if bytes_eq word (codes "workers") then number_within 1 MAX_WORKERS rest >>= made_last (Workers cpus)
    else cannot_stand why.Misplaced word
step (Workers cpus workers) (word ∷ rest) =
    if bytes_eq word (codes "steps") then number_within 1 MAX_STEPS rest >>= made_last (Steps cpus workers)
    else cannot_stand why.Misplaced word
step (Steps cpus workers steps) (word ∷ rest) =
    if bytes_eq word (codes "flushes")
    then number_within 0 MAX_FLUSHES rest >>= made_last (λ flushes. Queues (head_of cpus workers steps flushes))
    else cannot_stand why.Misplaced word
step (Queues S) (word ∷ rest) =
    if bytes_eq word (codes "queue") then queue_at_line S rest >>= add_queue S
    else if bytes_eq word (codes "work") then work_at_line S rest >>= add_work S
    else if bytes_eq word (codes "actor") then open_actor S rest
    else cannot_stand why.Misplaced word
step (Works S) (word ∷ rest) =
    if bytes_eq word (codes "work") then work_at_line S rest >>= add_work S
    else if bytes_eq word (codes "body") then open_body S [] rest
    else cannot_stand why.Misplaced word
step (Bodies S done) (word ∷ rest) =
    if bytes_eq word (codes "body") && not (all_have_bodies S done) then open_body S done rest
    else if bytes_eq word (codes "actor") && all_have_bodies S done then open_actor (with_works S done) rest
    else cannot_stand why.Misplaced word
step (Body S done ops) (word ∷ rest) = op_at_line S word rest >>= add_op S done ops
step (Actor S name lines) (word ∷ rest) =
    if bytes_eq word (codes "actor") then open_actor (with_actor S name lines) rest
    else line_at S word rest >>= add_line S name lines

-- the stage after this line, or the first reason against it
unfoldable pub judge : Stage → List ℕ → Result Stage Why
judge stage line = if is_utf8 line then step stage (words_of line) else Err why.BadUtf8

-- the scenario of a text that ends at this stage, or why it may not
unfoldable pub at_end : Stage → Result ScenarioContents Why
at_end Start = Err why.MissingWord
at_end (Cpus cpus) = Err why.MissingWord
at_end (Workers cpus workers) = Err why.MissingWord
at_end (Steps cpus workers steps) = Err why.MissingWord
at_end (Queues S) = Ok S
at_end (Works S) = Err why.MissingWord
at_end (Bodies S done) = value_if (all_have_bodies S done) (with_works S done) why.MissingWord
at_end (Body S done ops) = Err (why.Fault fault.BadBody)
at_end (Actor S name lines) = Ok (with_actor S name lines)
