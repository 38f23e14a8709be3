-- What bytes say, read field by field from the left, and the first fault that is met.
use Rattle.std.specs.Prelude.{◌≡◌, ℕ, ◌+◌, ◌/◌, ◌%◌, zero, suc, Bool, ◌&&◌, List, [], ◌∷◌, length, take, drop, Option, Some, None, Result, Ok, Err, nat_le, nat_lt, ◌==◌, if◌then◌else◌}
use Rattle.std.specs.Int.{Width, w8, w16, w32, byte_len, from_be_bytes}
use Rattle.std.specs.Str.{bytes_eq}
use Rattle.cmwq_types.specs.Contents.{ScenarioContents, WorkContents, ActorContents}
use Rattle.cmwq_types.specs.Faults.{first_fault, within}
use Rattle.cmwq_types.specs.Fields.{fields, instr_of, shape_of}
use Rattle.cmwq_types.specs.Mnemonics.{mnemonics}
use Rattle.cmwq_types.specs.Name.{is_name}
use Rattle.cmwq_types.specs.Operations.{op_shape_of, op_with, op_words}
use Rattle.cmwq_types.specs.declared.check.Fault.{Fault}
use Rattle.cmwq_types.specs.declared.fields.Shape.{Shape}
use Rattle.cmwq_types.specs.declared.fields.Shape.TheVariants as shape
use Rattle.cmwq_types.specs.declared.instr.Instr.{Instr}
use Rattle.cmwq_types.specs.declared.limits.TheConstants.{MAX_QUEUES, MAX_WORKS, MAX_ACTORS, MAX_OPS, MAX_LINES}
use Rattle.cmwq_types.specs.declared.mnemonic.Mnemonic.{Mnemonic}
use Rattle.cmwq_types.specs.declared.operation.OpWord.{OpWord}
use Rattle.cmwq_types.specs.declared.scenario.Flags.{Flags}
use Rattle.cmwq_types.specs.declared.scenario.Line.{Line}
use Rattle.cmwq_types.specs.declared.scenario.Op.{Op}
use Rattle.cmwq_types.specs.declared.scenario.QueueDecl.{QueueDecl}
use Rattle.cmwq_image.specs.Image.{all_flags, last_op_tag, last_tag, magic, name_field, op_tag, tag_of}
use Rattle.cmwq_image.specs.declared.error.ImageError.{ImageError}
use Rattle.cmwq_image.specs.declared.error.ImageError.TheVariants as errors
use Rattle.cmwq_image.specs.declared.head.Head.{Head}
use Rattle.cmwq_image.specs.declared.version.TheConstants.{FIRST_VERSION, VERSION}
use Rattle.cmwq_image.specs.declared.word.FieldRoom.{FieldRoom}

-- an offset, and the bytes from there on
pub record Place : Type 0 where
  pub at : ℕ
  pub rest : List ℕ

-- A reader takes fields from the front: a value and the place behind it, or the first fault.
abbrev pub Reader : Type 0 → Type 0
Reader A = Place → Result (A × Place) ImageError

-- what was read is handed on, a fault stays
abbrev pub hand_on : {A B : Type 0} → (A → Reader B) → Result (A × Place) ImageError → Result (B × Place) ImageError
hand_on next (Ok found) = next found.0 found.1
hand_on next (Err fault) = Err fault

infixl 10 ◌>>=◌
abbrev pub ◌>>=◌ : {A B : Type 0} → Reader A → (A → Reader B) → Reader B
(first >>= next) place = hand_on next (first place)

-- nothing more is read
abbrev pub done : {A : Type 0} → A → Reader A
done value place = Ok (value, place)

-- so many readings, one after the other
abbrev pub many : {A : Type 0} → Reader A → ℕ → Reader (List A)
many one zero = done []
many one (suc n) = one >>= λ first. many one n >>= λ others. done (first ∷ others)

-- Fields.

abbrev pub behind : ℕ → Place → Place
behind size place = record { at = place.at + size; rest = drop size place.rest }

abbrev pub accepted : {A : Type 0} → ImageError → Place → Option A → Result (A × Place) ImageError
accepted fault after (Some value) = Ok (value, after)
accepted fault after None = Err fault

-- a field of so many bytes: all of them are there, and they mean something
abbrev pub field : {A : Type 0} → (ℕ → ImageError) → ℕ → (List ℕ → Option A) → Reader A
field fault size meaning place =
    if nat_lt (length place.rest) size then Err errors.Truncated
    else accepted (fault place.at) (behind size place) (meaning (take size place.rest))

-- the number, if it is within the limits
abbrev pub if_within : ℕ → ℕ → ℕ → Option ℕ
if_within low high n = if within low high n then Some n else None

-- a number from low to high
abbrev pub read_number : Width → (low high : ℕ) → Reader ℕ
read_number width low high = field errors.BadField (byte_len width) (λ bytes. if_within low high (from_be_bytes width bytes))

-- a number that may be any
abbrev pub read_byte : Reader ℕ
read_byte = read_number w8 0 255

abbrev pub read_short : Reader ℕ
read_short = read_number w16 0 65535

abbrev pub read_long : Reader ℕ
read_long = read_number w32 0 4294967295

-- one of the versions that there are
abbrev pub read_version : Reader ℕ
read_version = field (λ at. errors.Version) 2 (λ bytes. if_within FIRST_VERSION VERSION (from_be_bytes w16 bytes))

-- the name of which these bytes are the field
abbrev pub name_in_field : List ℕ → Option (List ℕ)
name_in_field [] = None
name_in_field (len ∷ bytes) =
    let name = take len bytes in
    if bytes_eq (len ∷ bytes) (name_field name) && is_name name then Some name else None

abbrev pub read_name : Reader (List ℕ)
read_name = field errors.BadField 16 name_in_field

-- Queues.

abbrev pub is_set : ℕ → ℕ → Bool
is_set bits bit = bits / bit % 2 == 1

abbrev pub flags_of : ℕ → Flags
flags_of bits = record {
  highpri = is_set bits 1;
  unbound = is_set bits 2;
  cpu_intensive = is_set bits 4;
  freezable = is_set bits 8;
  ordered = is_set bits 16;
  mem_reclaim = is_set bits 32;
}

unfoldable pub read_queue : ℕ → Reader QueueDecl
read_queue version = do
  name ← read_name
  max ← read_short
  bits ← read_number w8 0 (all_flags version)
  nothing ← read_number w8 0 0
  done (record { name = name; max = max; flags = flags_of bits })

-- Words.

-- behind a tag: the greatest value that each field can have, 0 where the tag doesn't use it
abbrev pub room : (cpu a n : ℕ) → FieldRoom
room cpu a n = record { cpu = cpu; a = a; n = n }

-- of a word with this shape; a queue's number has one byte in a scenario
abbrev pub shape_room : Shape → FieldRoom
shape_room shape.Alone = room 0 0 0
shape_room shape.Ticks = room 0 0 4294967295
shape_room shape.Work = room 0 65535 0
shape_room shape.WorkCpu = room 255 65535 0
shape_room shape.WorkTicks = room 0 65535 4294967295
shape_room shape.WorkCpuTicks = room 255 65535 4294967295
shape_room shape.Queue = room 0 255 0
shape_room shape.QueueNumber = room 0 255 4294967295
shape_room shape.Pool = room 255 0 0
shape_room shape.Flush = room 0 65535 0
shape_room shape.Time = room 0 0 4294967295

-- the first of these words that has the tag
abbrev pub first_with : {W : Type 0} → (W → ℕ) → List W → ℕ → Option W
first_with tag [] n = None
first_with tag (first ∷ others) n = if n == tag first then Some first else first_with tag others n

-- the word of an operation with this tag, if the version has it
abbrev pub op_tagged : (version n : ℕ) → Option OpWord
op_tagged version n = if nat_le n (last_op_tag version) then first_with op_tag op_words n else None

abbrev pub op_room : OpWord → FieldRoom
op_room word = shape_room (op_shape_of word)

abbrev pub read_op_tag : ℕ → Reader OpWord
read_op_tag version = field errors.BadField 1 (λ bytes. op_tagged version (from_be_bytes w8 bytes))

unfoldable pub read_op : ℕ → Reader Op
read_op version = do
  word ← read_op_tag version
  cpu ← read_number w8 0 (op_room word).cpu
  a ← read_number w16 0 (op_room word).a
  n ← read_number w32 0 (op_room word).n
  done (op_with word (fields cpu a n))

-- the word of an instruction with this tag, if the version has it
abbrev pub tagged : (version n : ℕ) → Option Mnemonic
tagged version n = if nat_le n (last_tag version) then first_with tag_of mnemonics n else None

abbrev pub instr_room : Mnemonic → FieldRoom
instr_room mnemonic = shape_room (shape_of mnemonic)

abbrev pub read_instr_tag : ℕ → Reader Mnemonic
read_instr_tag version = field errors.BadField 1 (λ bytes. tagged version (from_be_bytes w8 bytes))

unfoldable pub read_instr : ℕ → Reader Instr
read_instr version = do
  word ← read_instr_tag version
  cpu ← read_number w8 0 (instr_room word).cpu
  a ← read_number w16 0 (instr_room word).a
  n ← read_number w32 0 (instr_room word).n
  done (instr_of word (fields cpu a n))

-- Works and actors.

unfoldable pub read_work : ℕ → Reader WorkContents
read_work version = do
  name ← read_name
  queue ← read_byte
  ops ← read_number w8 1 MAX_OPS
  body ← many (read_op version) ops
  done (record { name = name; queue = record { 0 = queue }; body = body })

unfoldable pub read_line : ℕ → Reader Line
read_line version = do
  instr ← read_instr version
  times ← read_long
  done (record { instr = instr; times = times })

unfoldable pub read_actor : ℕ → Reader ActorContents
read_actor version = do
  name ← read_name
  count ← read_number w16 0 MAX_LINES
  lines ← many (read_line version) count
  done (record { name = name; lines = lines })

-- The whole image.

-- what stands behind the version, up to the queues
unfoldable pub read_head : Reader Head
read_head = do
  cpus ← read_byte
  workers ← read_byte
  steps ← read_long
  flushes ← read_short
  queues ← read_number w8 0 MAX_QUEUES
  works ← read_number w16 0 MAX_WORKS
  actors ← read_number w8 0 MAX_ACTORS
  done (record { cpus = cpus; workers = workers; steps = steps; flushes = flushes; queues = queues; works = works; actors = actors })

-- what stands behind the four bytes that tell what it is
unfoldable pub scenario_at : Reader ScenarioContents
scenario_at = do
  version ← read_version
  head ← read_head
  queues ← many (read_queue version) head.queues
  works ← many (read_work version) head.works
  actors ← many (read_actor version) head.actors
  done (record {
    cpus = head.cpus;
    workers = head.workers;
    steps = head.steps;
    flushes = head.flushes;
    queues = queues;
    works = works;
    actors = actors;
  })

-- a fault of the scenario itself
abbrev pub unless_faulty : ScenarioContents → Option Fault → Result ScenarioContents ImageError
unless_faulty S None = Ok S
unless_faulty S (Some fault) = Err (errors.Fault fault)

-- nothing may be left, and then the scenario is judged
abbrev pub judged : Result (ScenarioContents × Place) ImageError → Result ScenarioContents ImageError
judged (Ok found) = if length found.1.rest == 0 then unless_faulty found.0 (first_fault found.0) else Err errors.Extra
judged (Err fault) = Err fault

-- behind the four bytes that tell what it is
abbrev pub behind_magic : List ℕ → Result Place ImageError
behind_magic bytes =
    if bytes_eq (take 4 bytes) magic then Ok (behind 4 (record { at = 0; rest = bytes })) else Err errors.Magic

abbrev pub from_there : Result Place ImageError → Result ScenarioContents ImageError
from_there (Ok place) = judged (scenario_at place)
from_there (Err fault) = Err fault

-- the scenario of which the bytes are the image, or the first fault
unfoldable pub reading : List ℕ → Result ScenarioContents ImageError
reading bytes = from_there (behind_magic bytes)

-- What a function returned, seen by view, is what reading gives, unless memory ran out.

abbrev pub FailsRead : {Y : Type 0} → ImageError → Result Y ImageError → Type 0
FailsRead errors.NoMemory read = Unit {0}
FailsRead errors.Magic read = read ≡ Err errors.Magic
FailsRead errors.Version read = read ≡ Err errors.Version
FailsRead errors.Truncated read = read ≡ Err errors.Truncated
FailsRead errors.Extra read = read ≡ Err errors.Extra
FailsRead (errors.BadField at) read = read ≡ Err (errors.BadField at)
FailsRead (errors.Fault fault) read = read ≡ Err (errors.Fault fault)

abbrev pub GivesRead : {X Y : Type 0} → (X → Y) → Result X ImageError → Result Y ImageError → Type 0
GivesRead view (Ok x) read = read ≡ Ok (view x)
GivesRead view (Err e) read = FailsRead e read
