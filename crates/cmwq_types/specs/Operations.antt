-- An operation of a body as its word and fields. Of all definitions on the form of operations these alone name each operation.
use Rattle.std.specs.Prelude.{ℕ, List, [], ◌∷◌, Option, Some, None, if◌then◌else◌, codes}
use Rattle.std.specs.Str.{bytes_eq}
use Rattle.cmwq_types.specs.Fields.{fields, work_id}
use Rattle.cmwq_types.specs.declared.fields.Fields.{Fields}
use Rattle.cmwq_types.specs.declared.fields.Shape.{Shape}
use Rattle.cmwq_types.specs.declared.fields.Shape.TheVariants as shape
use Rattle.cmwq_types.specs.declared.operation.OpWord.{OpWord}
use Rattle.cmwq_types.specs.declared.operation.OpWord.TheVariants as words
use Rattle.cmwq_types.specs.declared.scenario.Op.{Op}
use Rattle.cmwq_types.specs.declared.scenario.Op.TheVariants as op

-- how each word is spelled
abbrev pub op_spelling : OpWord → List ℕ
op_spelling words.Burn = codes "burn"
op_spelling words.Sleep = codes "sleep"
op_spelling words.Queue = codes "queue"
op_spelling words.Finish = codes "finish"
op_spelling words.Delay = codes "delay"
op_spelling words.Mod = codes "mod"
op_spelling words.Cancel = codes "cancel"

abbrev pub op_words : List OpWord
op_words = words.Burn ∷ words.Sleep ∷ words.Queue ∷ words.Finish ∷ words.Delay ∷ words.Mod ∷ words.Cancel ∷ []

-- the first of these that is spelled so
abbrev pub first_op_word : List OpWord → List ℕ → Option OpWord
first_op_word [] word = None
first_op_word (first ∷ others) word = if bytes_eq word (op_spelling first) then Some first else first_op_word others word

-- the one that is spelled so
abbrev pub op_word_read : List ℕ → Option OpWord
op_word_read word = first_op_word op_words word

-- what follows a word
abbrev pub op_shape_of : OpWord → Shape
op_shape_of words.Burn = shape.Ticks
op_shape_of words.Sleep = shape.Ticks
op_shape_of words.Queue = shape.WorkCpu
op_shape_of words.Finish = shape.Alone
op_shape_of words.Delay = shape.WorkTicks
op_shape_of words.Mod = shape.WorkTicks
op_shape_of words.Cancel = shape.Work

-- the word of an operation
abbrev pub op_word_of : Op → OpWord
op_word_of (op.Burn ticks) = words.Burn
op_word_of (op.Sleep ticks) = words.Sleep
op_word_of (op.Queue work cpu) = words.Queue
op_word_of op.Finish = words.Finish
op_word_of (op.Delay work ticks) = words.Delay
op_word_of (op.Mod work ticks) = words.Mod
op_word_of (op.Cancel work) = words.Cancel

-- its operands: each field that its shape doesn't have is 0
abbrev pub op_fields_of : Op → Fields
op_fields_of (op.Burn ticks) = fields 0 0 ticks
op_fields_of (op.Sleep ticks) = fields 0 0 ticks
op_fields_of (op.Queue work cpu) = fields cpu work.0 0
op_fields_of op.Finish = fields 0 0 0
op_fields_of (op.Delay work ticks) = fields 0 work.0 ticks
op_fields_of (op.Mod work ticks) = fields 0 work.0 ticks
op_fields_of (op.Cancel work) = fields 0 work.0 0

-- the operation of this word and these operands
abbrev pub op_with : OpWord → Fields → Op
op_with words.Burn f = op.Burn f.number
op_with words.Sleep f = op.Sleep f.number
op_with words.Queue f = op.Queue (work_id f.id) f.cpu
op_with words.Finish f = op.Finish
op_with words.Delay f = op.Delay (work_id f.id) f.number
op_with words.Mod f = op.Mod (work_id f.id) f.number
op_with words.Cancel f = op.Cancel (work_id f.id)
