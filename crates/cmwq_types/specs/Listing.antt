-- The listing of a scenario: its canonical text.
use Rattle.std.specs.Prelude.{ℕ, Bool, List, [], ◌∷◌, ◌++◌, map, codes, if◌then◌else◌, ◌==◌}
use Rattle.std.specs.Fmt.{decimal}
use Rattle.std.specs.List.{flat_map, join_with_byte}
use Rattle.cmwq_types.specs.Contents.{ScenarioContents, WorkContents, ActorContents}
use Rattle.cmwq_types.specs.Fields.{fields_of, shape_of, word_of}
use Rattle.cmwq_types.specs.Mnemonics.{spelling}
use Rattle.cmwq_types.specs.Operations.{op_fields_of, op_shape_of, op_spelling, op_word_of}
use Rattle.cmwq_types.specs.Scenario.{queue_at, work_at}
use Rattle.cmwq_types.specs.declared.fields.Fields.{Fields}
use Rattle.cmwq_types.specs.declared.fields.Shape.{Shape}
use Rattle.cmwq_types.specs.declared.fields.Shape.TheVariants as shape
use Rattle.cmwq_types.specs.declared.instr.Instr.{Instr}
use Rattle.cmwq_types.specs.declared.scenario.Flags.{Flags}
use Rattle.cmwq_types.specs.declared.scenario.Line.{Line}
use Rattle.cmwq_types.specs.declared.scenario.Op.{Op}
use Rattle.cmwq_types.specs.declared.scenario.QueueDecl.{QueueDecl}

-- One line of a scenario's text.
pub data WrittenLine : Type 0 where
  -- these words and no others
  Words : (words : List (List ℕ)) → WrittenLine
  -- these words, and then these flags
  Flagged : (words flags : List (List ℕ)) → WrittenLine
  -- these words, standing so many times
  Repeated : (words : List (List ℕ)) (times : ℕ) → WrittenLine

-- a word that stands where the test holds
abbrev pub word_if : Bool → List ℕ → List (List ℕ)
word_if holds word = if holds then word ∷ [] else []

abbrev pub flag_words : Flags → List (List ℕ)
flag_words flags =
    word_if flags.highpri (codes "highpri") ++ word_if flags.unbound (codes "unbound")
    ++ word_if flags.cpu_intensive (codes "cpu_intensive") ++ word_if flags.freezable (codes "freezable")
    ++ word_if flags.ordered (codes "ordered") ++ word_if flags.mem_reclaim (codes "mem_reclaim")

-- a word and a number
abbrev pub numbered : List ℕ → ℕ → WrittenLine
numbered word n = Words (word ∷ decimal n ∷ [])

abbrev pub queue_line : QueueDecl → WrittenLine
queue_line queue =
    Flagged (codes "queue" ∷ queue.name ∷ codes "max" ∷ decimal queue.max ∷ []) (flag_words queue.flags)

abbrev pub work_line : ScenarioContents → WorkContents → WrittenLine
work_line S work = Words (codes "work" ∷ work.name ∷ (queue_at S work.queue.0).name ∷ [])

-- the operands of an instruction or operation, as words
abbrev pub operand_words : ScenarioContents → Shape → Fields → List (List ℕ)
operand_words S shape.Alone f = []
operand_words S shape.Ticks f = decimal f.number ∷ []
operand_words S shape.Work f = (work_at S f.id).name ∷ []
operand_words S shape.WorkCpu f = (work_at S f.id).name ∷ decimal f.cpu ∷ []
operand_words S shape.WorkTicks f = (work_at S f.id).name ∷ decimal f.number ∷ []
operand_words S shape.WorkCpuTicks f = (work_at S f.id).name ∷ decimal f.cpu ∷ decimal f.number ∷ []
operand_words S shape.Queue f = (queue_at S f.id).name ∷ []
operand_words S shape.QueueNumber f = (queue_at S f.id).name ∷ decimal f.number ∷ []
operand_words S shape.Pool f = decimal f.cpu ∷ []
operand_words S shape.Flush f = decimal f.id ∷ []
operand_words S shape.Time f = decimal f.number ∷ []

abbrev pub op_line : ScenarioContents → Op → WrittenLine
op_line S op = Words (op_spelling (op_word_of op) ∷ operand_words S (op_shape_of (op_word_of op)) (op_fields_of op))

abbrev pub body_lines : ScenarioContents → WorkContents → List WrittenLine
body_lines S work = Words (codes "body" ∷ work.name ∷ []) ∷ map (op_line S) work.body

abbrev pub instr_words : ScenarioContents → Instr → List (List ℕ)
instr_words S instr = spelling (word_of instr) ∷ operand_words S (shape_of (word_of instr)) (fields_of instr)

abbrev pub actor_line : ScenarioContents → Line → WrittenLine
actor_line S line = Repeated (instr_words S line.instr) line.times

abbrev pub actor_lines : ScenarioContents → ActorContents → List WrittenLine
actor_lines S actor = Words (codes "actor" ∷ actor.name ∷ []) ∷ map (actor_line S) actor.lines

-- the lines of a scenario, in order
abbrev pub written : ScenarioContents → List WrittenLine
written S =
    numbered (codes "cpus") S.cpus ∷ numbered (codes "workers") S.workers
    ∷ numbered (codes "steps") S.steps ∷ numbered (codes "flushes") S.flushes
    ∷ (map queue_line S.queues ++ map (work_line S) S.works
    ++ flat_map (body_lines S) S.works ++ flat_map (actor_lines S) S.actors)

-- The canonical text of a line: one space between words, flags in the order of `Flags`, and `* N` only
-- where N isn't 1.

-- a text of these lines
abbrev pub text_of_lines : List (List ℕ) → List ℕ
text_of_lines lines = flat_map (λ line. line ++ 10 ∷ []) lines

-- the words with a space between them, and a line feed
abbrev pub line_text : List (List ℕ) → List ℕ
line_text words = join_with_byte 32 words ++ 10 ∷ []

abbrev pub times_words : ℕ → List (List ℕ)
times_words times = if times == 1 then [] else codes "*" ∷ decimal times ∷ []

abbrev pub written_text : WrittenLine → List ℕ
written_text (Words words) = line_text words
written_text (Flagged words flags) = line_text (words ++ flags)
written_text (Repeated words times) = line_text (words ++ times_words times)

abbrev pub listing : ScenarioContents → List ℕ
listing S = flat_map written_text (written S)
