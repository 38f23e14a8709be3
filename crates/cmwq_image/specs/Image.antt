-- The image of a scenario: its bytes, field by field.
use Rattle.std.specs.Prelude.{ℕ, ◌+◌, Bool, List, [], ◌∷◌, ◌++◌, length, codes, nat_le, if◌then◌else◌, ◌==◌}
use Rattle.std.specs.Int.{Width, w8, w16, w32, to_be_bytes}
use Rattle.std.specs.List.{flat_map}
use Rattle.cmwq_types.specs.Contents.{ScenarioContents, WorkContents, ActorContents}
use Rattle.cmwq_types.specs.Fields.{fields_of, word_of}
use Rattle.cmwq_types.specs.Name.{padded}
use Rattle.cmwq_types.specs.Operations.{op_fields_of, op_word_of}
use Rattle.cmwq_types.specs.declared.instr.Instr.{Instr}
use Rattle.cmwq_types.specs.declared.mnemonic.Mnemonic.{Mnemonic}
use Rattle.cmwq_types.specs.declared.mnemonic.Mnemonic.TheVariants as mnemonic
use Rattle.cmwq_types.specs.declared.operation.OpWord.{OpWord}
use Rattle.cmwq_types.specs.declared.operation.OpWord.TheVariants as opword
use Rattle.cmwq_types.specs.declared.scenario.Flags.{Flags}
use Rattle.cmwq_types.specs.declared.scenario.Line.{Line}
use Rattle.cmwq_types.specs.declared.scenario.Op.{Op}
use Rattle.cmwq_types.specs.declared.scenario.QueueDecl.{QueueDecl}
use Rattle.cmwq_image.specs.declared.version.TheConstants.{FIRST_VERSION, SECOND_VERSION, THIRD_VERSION}
use Rattle.cmwq_image.specs.declared.word.Word.{Word}

-- one field after the other
abbrev pub in_order : List (List ℕ) → List ℕ
in_order [] = []
in_order (field ∷ fields) = field ++ in_order fields

-- a number, its highest byte first
abbrev pub number : Width → ℕ → List ℕ
number width n = to_be_bytes width n

-- 16 bytes: the length of the name, its bytes, and zeros
abbrev pub name_field : List ℕ → List ℕ
name_field name = length name ∷ padded name

-- Queues.

-- what a flag is worth in the byte of flags
abbrev pub worth : Bool → ℕ → ℕ
worth flag bit = if flag then bit else 0

abbrev pub flag_bits : Flags → ℕ
flag_bits flags =
    worth flags.highpri 1 + worth flags.unbound 2 + worth flags.cpu_intensive 4 + worth flags.freezable 8 + worth flags.ordered 16
    + worth flags.mem_reclaim 32

-- the flags that a version has, all of them set
abbrev pub all_flags : ℕ → ℕ
all_flags version = if nat_le version SECOND_VERSION then 31 else 63

abbrev pub queue_image : QueueDecl → List ℕ
queue_image queue =
    in_order (name_field queue.name ∷ number w16 queue.max ∷ number w8 (flag_bits queue.flags) ∷ number w8 0 ∷ [])

-- Operations and instructions are words of 8 bytes. What a tag doesn't use is zero.

abbrev pub word : (tag cpu a n : ℕ) → Word
word tag cpu a n = record { tag = tag; cpu = cpu; a = a; n = n }

abbrev pub word_image : Word → List ℕ
word_image w = in_order (number w8 w.tag ∷ number w8 w.cpu ∷ number w16 w.a ∷ number w32 w.n ∷ [])

-- the tag of an operation's word
abbrev pub op_tag : OpWord → ℕ
op_tag opword.Burn = 1
op_tag opword.Sleep = 2
op_tag opword.Queue = 3
op_tag opword.Finish = 4
op_tag opword.Delay = 5
op_tag opword.Mod = 6
op_tag opword.Cancel = 7

-- the tag, and then the operands
abbrev pub op_word : Op → Word
op_word op = let f = op_fields_of op in word (op_tag (op_word_of op)) f.cpu f.id f.number

-- the last tag of an operation that a version has
abbrev pub last_op_tag : ℕ → ℕ
last_op_tag version = if nat_le version THIRD_VERSION then 4 else 7

-- the tag of an instruction's word
abbrev pub tag_of : Mnemonic → ℕ
tag_of mnemonic.Queue = 16
tag_of mnemonic.Delay = 17
tag_of mnemonic.Mod = 18
tag_of mnemonic.Cancel = 19
tag_of mnemonic.CancelSync = 20
tag_of mnemonic.Flush = 21
tag_of mnemonic.FlushDelayed = 22
tag_of mnemonic.FlushQueue = 23
tag_of mnemonic.SetMax = 24
tag_of mnemonic.Freeze = 25
tag_of mnemonic.Thaw = 26
tag_of mnemonic.Fire = 27
tag_of mnemonic.Step = 28
tag_of mnemonic.Tick = 29
tag_of mnemonic.Next = 30
tag_of mnemonic.Ask = 31
tag_of mnemonic.Busy = 32
tag_of mnemonic.State = 33
tag_of mnemonic.Disable = 34
tag_of mnemonic.Enable = 35
tag_of mnemonic.Pressure = 36
tag_of mnemonic.Relief = 37
tag_of mnemonic.Until = 38
tag_of mnemonic.Wait = 39
tag_of mnemonic.Quiet = 40

-- behind the tag stand the operands
abbrev pub instr_word : Instr → Word
instr_word instr = let f = fields_of instr in word (tag_of (word_of instr)) f.cpu f.id f.number

-- the last tag of an instruction that a version has
abbrev pub last_tag : ℕ → ℕ
last_tag version =
    if version == FIRST_VERSION then 33
    else (if version == SECOND_VERSION then 35 else (if version == THIRD_VERSION then 37 else 40))

-- Works and actors.

abbrev pub op_image : Op → List ℕ
op_image op = word_image (op_word op)

abbrev pub work_image : WorkContents → List ℕ
work_image work =
    in_order (name_field work.name ∷ number w8 work.queue.0 ∷ number w8 (length work.body) ∷ flat_map op_image work.body ∷ [])

abbrev pub line_image : Line → List ℕ
line_image line = in_order (word_image (instr_word line.instr) ∷ number w32 line.times ∷ [])

abbrev pub actor_image : ActorContents → List ℕ
actor_image actor =
    in_order (name_field actor.name ∷ number w16 (length actor.lines) ∷ flat_map line_image actor.lines ∷ [])

-- The whole image.

abbrev pub magic : List ℕ
magic = codes "CMWQ"

-- 18 bytes: what it is, the version, the scenario's numbers, and how many queues, works and actors follow
abbrev pub head_image : ℕ → ScenarioContents → List ℕ
head_image version S =
    in_order (magic ∷ number w16 version ∷ number w8 S.cpus ∷ number w8 S.workers ∷ number w32 S.steps ∷ number w16 S.flushes
    ∷ number w8 (length S.queues) ∷ number w16 (length S.works) ∷ number w8 (length S.actors) ∷ [])

-- the bytes of a scenario in this version, if the version has its flags, its operations and its instructions
abbrev pub image : ℕ → ScenarioContents → List ℕ
image version S =
    in_order (head_image version S ∷ flat_map queue_image S.queues ∷ flat_map work_image S.works ∷ flat_map actor_image S.actors ∷ [])
