-- An actor's line: an instruction, and how often it stands.
use Rattle.std.specs.Prelude.{ℕ, List, [], ◌∷◌, ◌++◌, Option, Some, None, Result, Ok, Err, if◌then◌else◌, codes, map}
use Rattle.std.specs.List.{list_any}
use Rattle.std.specs.Str.{bytes_eq}
use Rattle.cmwq_types.specs.Contents.{ScenarioContents}
pub use Rattle.cmwq_types.specs.Fields.{queue_id, work_id}
use Rattle.cmwq_types.specs.Fields.{fields, instr_of, shape_of}
use Rattle.cmwq_types.specs.Mnemonics.{mnemonic_of, mnemonics, spelling}
use Rattle.cmwq_types.specs.declared.fields.Fields.{Fields}
use Rattle.cmwq_types.specs.declared.fields.Shape.{Shape}
use Rattle.cmwq_types.specs.declared.fields.Shape.TheVariants as shape
use Rattle.cmwq_types.specs.declared.instr.Instr.{Instr}
use Rattle.cmwq_types.specs.declared.instr.QueueId.{QueueId}
use Rattle.cmwq_types.specs.declared.instr.WorkId.{WorkId}
use Rattle.cmwq_types.specs.declared.limits.TheConstants.{MAX_TIMES}
use Rattle.cmwq_types.specs.declared.mnemonic.Mnemonic.{Mnemonic}
use Rattle.cmwq_types.specs.declared.scenario.Line.{Line}
use Rattle.cmwq_grammar.specs.LineFields.{◌>>=◌, declared_at, made_last, number_within}
use Rattle.cmwq_grammar.specs.declared.why.Why.{Why}
use Rattle.cmwq_grammar.specs.declared.why.Why.TheVariants as why

abbrev pub queue_names : ScenarioContents → List (List ℕ)
queue_names S = map (λ queue. queue.name) S.queues

abbrev pub work_names : ScenarioContents → List (List ℕ)
work_names S = map (λ work. work.name) S.works

abbrev pub actor_names : ScenarioContents → List (List ℕ)
actor_names S = map (λ actor. actor.name) S.actors

-- What stands behind the word of an instruction.
pub data Operands : Type 0 where
  -- nothing more: this is the instruction
  Makes : (instr : Instr) → Operands
  -- a work, a queue, or a number up to this one, and then what its value tells
  OfWork : (next : WorkId → Operands) → Operands
  OfQueue : (next : QueueId → Operands) → Operands
  OfNumber : (high : ℕ) (next : ℕ → Operands) → Operands

-- what stands behind a word of this shape: its operands are made into the instruction
abbrev pub operands_in : Shape → (Fields → Instr) → Operands
operands_in shape.Alone make = Makes (make (fields 0 0 0))
operands_in shape.Ticks make = OfNumber 4294967295 (λ ticks. Makes (make (fields 0 0 ticks)))
operands_in shape.Work make = OfWork (λ work. Makes (make (fields 0 work.0 0)))
operands_in shape.WorkCpu make = OfWork (λ work. OfNumber 255 (λ cpu. Makes (make (fields cpu work.0 0))))
operands_in shape.WorkTicks make = OfWork (λ work. OfNumber 4294967295 (λ ticks. Makes (make (fields 0 work.0 ticks))))
operands_in shape.WorkCpuTicks make = OfWork (λ work. OfNumber 255 (λ cpu. OfNumber 4294967295 (λ ticks. Makes (make (fields cpu work.0 ticks)))))
operands_in shape.Queue make = OfQueue (λ queue. Makes (make (fields 0 queue.0 0)))
operands_in shape.QueueNumber make = OfQueue (λ queue. OfNumber 4294967295 (λ n. Makes (make (fields 0 queue.0 n))))
operands_in shape.Pool make = OfNumber 255 (λ pool. Makes (make (fields pool 0 0)))
operands_in shape.Flush make = OfNumber 65535 (λ flush. Makes (make (fields 0 flush 0)))
operands_in shape.Time make = OfNumber 4294967295 (λ time. Makes (make (fields 0 0 time)))

-- the instructions, by their words: what stands behind each
abbrev pub operands_of : Mnemonic → Operands
operands_of mnemonic = operands_in (shape_of mnemonic) (instr_of mnemonic)

-- the words that other lines begin with; a queue's line begins with an instruction's word, `queue`, and so do operations with four of them
abbrev pub other_words : List (List ℕ)
other_words =
    codes "cpus" ∷ codes "workers" ∷ codes "steps" ∷ codes "flushes" ∷ codes "work" ∷ codes "body" ∷ codes "burn"
    ∷ codes "sleep" ∷ codes "finish" ∷ codes "actor" ∷ []

-- the first words of lines
abbrev pub first_words : List (List ℕ)
first_words = other_words ++ map spelling mnemonics

-- the first word can't stand here: for this reason if some line begins with it
unfoldable pub cannot_stand : {A : Type 0} → Why → List ℕ → Result A Why
cannot_stand reason word = if list_any (bytes_eq word) first_words then Err reason else Err why.BadWord

-- Reading. What was read is the instruction, and the words after it.

abbrev pub operands_at : ScenarioContents → Operands → List (List ℕ) → Result (Instr × List (List ℕ)) Why
operands_at S (Makes instr) words = Ok (instr, words)
operands_at S (OfWork next) words = declared_at (work_names S) words >>= (λ work. operands_at S (next (work_id work.0)) work.1)
operands_at S (OfQueue next) words = declared_at (queue_names S) words >>= (λ queue. operands_at S (next (queue_id queue.0)) queue.1)
operands_at S (OfNumber high next) words = number_within 0 high words >>= (λ n. operands_at S (next n.0) n.1)

-- the instruction of this word, if it is one's
abbrev pub instr_named : ScenarioContents → List ℕ → Option Mnemonic → List (List ℕ) → Result (Instr × List (List ℕ)) Why
instr_named S word (Some mnemonic) rest = operands_at S (operands_of mnemonic) rest
instr_named S word None rest = cannot_stand why.Misplaced word

unfoldable pub instr_at : ScenarioContents → List ℕ → List (List ℕ) → Result (Instr × List (List ℕ)) Why
instr_at S word rest = instr_named S word (mnemonic_of word) rest

-- How often the instruction stands: once, or as often as `* N` says.

abbrev pub line_times : Instr → ℕ → Line
line_times instr times = record { instr = instr; times = times }

abbrev pub times_at : Instr → List (List ℕ) → Result Line Why
times_at instr [] = Ok (line_times instr 1)
times_at instr (word ∷ rest) =
    if bytes_eq word (codes "*") then number_within 1 MAX_TIMES rest >>= made_last (line_times instr) else Err why.ExtraWord

abbrev pub then_times : Instr × List (List ℕ) → Result Line Why
then_times found = times_at found.0 found.1

unfoldable pub line_at : ScenarioContents → List ℕ → List (List ℕ) → Result Line Why
line_at S word rest = instr_at S word rest >>= then_times
