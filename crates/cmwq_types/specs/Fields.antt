-- An instruction as its word and three fields. Of all definitions on the form of instructions these alone name each instruction.
use Rattle.std.specs.Prelude.{ℕ}
use Rattle.cmwq_types.specs.declared.instr.Instr.{Instr}
use Rattle.cmwq_types.specs.declared.instr.Instr.TheVariants as instr
use Rattle.cmwq_types.specs.declared.instr.QueueId.{QueueId}
use Rattle.cmwq_types.specs.declared.instr.WorkId.{WorkId}
use Rattle.cmwq_types.specs.declared.mnemonic.Mnemonic.{Mnemonic}
use Rattle.cmwq_types.specs.declared.mnemonic.Mnemonic.TheVariants as mnemonic
use Rattle.cmwq_types.specs.declared.fields.Fields.{Fields}
use Rattle.cmwq_types.specs.declared.fields.Shape.{Shape}
use Rattle.cmwq_types.specs.declared.fields.Shape.TheVariants as shape

abbrev pub work_id : ℕ → WorkId
work_id work = record { 0 = work }

abbrev pub queue_id : ℕ → QueueId
queue_id queue = record { 0 = queue }

abbrev pub fields : ℕ → ℕ → ℕ → Fields
fields cpu id number = record { cpu = cpu; id = id; number = number }

-- what stands behind a word
abbrev pub shape_of : Mnemonic → Shape
shape_of mnemonic.Queue = shape.WorkCpu
shape_of mnemonic.Delay = shape.WorkCpuTicks
shape_of mnemonic.Mod = shape.WorkCpuTicks
shape_of mnemonic.Cancel = shape.Work
shape_of mnemonic.CancelSync = shape.Work
shape_of mnemonic.Flush = shape.Work
shape_of mnemonic.FlushDelayed = shape.Work
shape_of mnemonic.FlushQueue = shape.Queue
shape_of mnemonic.SetMax = shape.QueueNumber
shape_of mnemonic.Freeze = shape.Alone
shape_of mnemonic.Thaw = shape.Alone
shape_of mnemonic.Fire = shape.Alone
shape_of mnemonic.Step = shape.Pool
shape_of mnemonic.Tick = shape.Alone
shape_of mnemonic.Next = shape.Alone
shape_of mnemonic.Ask = shape.Flush
shape_of mnemonic.Busy = shape.Alone
shape_of mnemonic.State = shape.Work
shape_of mnemonic.Disable = shape.Work
shape_of mnemonic.Enable = shape.Work
shape_of mnemonic.Pressure = shape.Alone
shape_of mnemonic.Relief = shape.Alone
shape_of mnemonic.Until = shape.Time
shape_of mnemonic.Wait = shape.Flush
shape_of mnemonic.Quiet = shape.Alone

-- the word of an instruction
abbrev pub word_of : Instr → Mnemonic
word_of (instr.Queue work cpu) = mnemonic.Queue
word_of (instr.Delay work cpu ticks) = mnemonic.Delay
word_of (instr.Mod work cpu ticks) = mnemonic.Mod
word_of (instr.Cancel work) = mnemonic.Cancel
word_of (instr.CancelSync work) = mnemonic.CancelSync
word_of (instr.Flush work) = mnemonic.Flush
word_of (instr.FlushDelayed work) = mnemonic.FlushDelayed
word_of (instr.FlushQueue queue) = mnemonic.FlushQueue
word_of (instr.SetMax queue max) = mnemonic.SetMax
word_of instr.Freeze = mnemonic.Freeze
word_of instr.Thaw = mnemonic.Thaw
word_of instr.Fire = mnemonic.Fire
word_of (instr.Step pool) = mnemonic.Step
word_of instr.Tick = mnemonic.Tick
word_of instr.Next = mnemonic.Next
word_of (instr.Ask flush) = mnemonic.Ask
word_of instr.Busy = mnemonic.Busy
word_of (instr.State work) = mnemonic.State
word_of (instr.Disable work) = mnemonic.Disable
word_of (instr.Enable work) = mnemonic.Enable
word_of instr.Pressure = mnemonic.Pressure
word_of instr.Relief = mnemonic.Relief
word_of (instr.Until time) = mnemonic.Until
word_of (instr.Wait flush) = mnemonic.Wait
word_of instr.Quiet = mnemonic.Quiet

-- its operands: each field that its shape doesn't have is 0
abbrev pub fields_of : Instr → Fields
fields_of (instr.Queue work cpu) = fields cpu work.0 0
fields_of (instr.Delay work cpu ticks) = fields cpu work.0 ticks
fields_of (instr.Mod work cpu ticks) = fields cpu work.0 ticks
fields_of (instr.Cancel work) = fields 0 work.0 0
fields_of (instr.CancelSync work) = fields 0 work.0 0
fields_of (instr.Flush work) = fields 0 work.0 0
fields_of (instr.FlushDelayed work) = fields 0 work.0 0
fields_of (instr.FlushQueue queue) = fields 0 queue.0 0
fields_of (instr.SetMax queue max) = fields 0 queue.0 max
fields_of instr.Freeze = fields 0 0 0
fields_of instr.Thaw = fields 0 0 0
fields_of instr.Fire = fields 0 0 0
fields_of (instr.Step pool) = fields pool 0 0
fields_of instr.Tick = fields 0 0 0
fields_of instr.Next = fields 0 0 0
fields_of (instr.Ask flush) = fields 0 flush 0
fields_of instr.Busy = fields 0 0 0
fields_of (instr.State work) = fields 0 work.0 0
fields_of (instr.Disable work) = fields 0 work.0 0
fields_of (instr.Enable work) = fields 0 work.0 0
fields_of instr.Pressure = fields 0 0 0
fields_of instr.Relief = fields 0 0 0
fields_of (instr.Until time) = fields 0 0 time
fields_of (instr.Wait flush) = fields 0 flush 0
fields_of instr.Quiet = fields 0 0 0

-- the instruction of this word and these operands
abbrev pub instr_of : Mnemonic → Fields → Instr
instr_of mnemonic.Queue f = instr.Queue (work_id f.id) f.cpu
instr_of mnemonic.Delay f = instr.Delay (work_id f.id) f.cpu f.number
instr_of mnemonic.Mod f = instr.Mod (work_id f.id) f.cpu f.number
instr_of mnemonic.Cancel f = instr.Cancel (work_id f.id)
instr_of mnemonic.CancelSync f = instr.CancelSync (work_id f.id)
instr_of mnemonic.Flush f = instr.Flush (work_id f.id)
instr_of mnemonic.FlushDelayed f = instr.FlushDelayed (work_id f.id)
instr_of mnemonic.FlushQueue f = instr.FlushQueue (queue_id f.id)
instr_of mnemonic.SetMax f = instr.SetMax (queue_id f.id) f.number
instr_of mnemonic.Freeze f = instr.Freeze
instr_of mnemonic.Thaw f = instr.Thaw
instr_of mnemonic.Fire f = instr.Fire
instr_of mnemonic.Step f = instr.Step f.cpu
instr_of mnemonic.Tick f = instr.Tick
instr_of mnemonic.Next f = instr.Next
instr_of mnemonic.Ask f = instr.Ask f.id
instr_of mnemonic.Busy f = instr.Busy
instr_of mnemonic.State f = instr.State (work_id f.id)
instr_of mnemonic.Disable f = instr.Disable (work_id f.id)
instr_of mnemonic.Enable f = instr.Enable (work_id f.id)
instr_of mnemonic.Pressure f = instr.Pressure
instr_of mnemonic.Relief f = instr.Relief
instr_of mnemonic.Until f = instr.Until f.number
instr_of mnemonic.Wait f = instr.Wait f.id
instr_of mnemonic.Quiet f = instr.Quiet

-- What follows goes by the shape alone.

-- the operands that a shape has
abbrev pub used : Shape → Fields → Fields
used shape.Alone f = fields 0 0 0
used shape.Ticks f = fields 0 0 f.number
used shape.Work f = fields 0 f.id 0
used shape.WorkCpu f = fields f.cpu f.id 0
used shape.WorkTicks f = fields 0 f.id f.number
used shape.WorkCpuTicks f = fields f.cpu f.id f.number
used shape.Queue f = fields 0 f.id 0
used shape.QueueNumber f = fields 0 f.id f.number
used shape.Pool f = fields f.cpu 0 0
used shape.Flush f = fields 0 f.id 0
used shape.Time f = fields 0 0 f.number

-- a queue's number has one byte
abbrev pub greatest_id : Shape → ℕ
greatest_id shape.Queue = 255
greatest_id shape.QueueNumber = 255
greatest_id other = 65535
