-- An instruction and its fields, and an operation and its fields, case by case.
use Rattle.std.proofs.Common.{◌≡◌, refl}
use Rattle.cmwq_types.specs.Fields.{fields_of, instr_of, shape_of, used, word_of}
use Rattle.cmwq_types.specs.Operations.{op_fields_of, op_shape_of, op_with, op_word_of}
use Rattle.cmwq_types.specs.declared.fields.Fields.{Fields}
use Rattle.cmwq_types.specs.declared.instr.Instr.{Instr}
use Rattle.cmwq_types.specs.declared.instr.Instr.TheVariants as instr
use Rattle.cmwq_types.specs.declared.mnemonic.Mnemonic.{Mnemonic}
use Rattle.cmwq_types.specs.declared.mnemonic.Mnemonic.TheVariants as mnemonic
use Rattle.cmwq_types.specs.declared.operation.OpWord.{OpWord}
use Rattle.cmwq_types.specs.declared.operation.OpWord.TheVariants as words
use Rattle.cmwq_types.specs.declared.scenario.Op.{Op}
use Rattle.cmwq_types.specs.declared.scenario.Op.TheVariants as op

pub instr_again : (i : Instr) → instr_of (word_of i) (fields_of i) ≡ i
instr_again (instr.Queue work cpu) = refl
instr_again _ = refl

pub word_again : (m : Mnemonic) (f : Fields) → word_of (instr_of m f) ≡ m
word_again mnemonic.Queue f = refl
word_again _ f = refl

pub fields_again : (m : Mnemonic) (f : Fields) → fields_of (instr_of m f) ≡ used (shape_of m) f
fields_again mnemonic.Queue f = refl
fields_again _ f = refl

pub op_again : (o : Op) → op_with (op_word_of o) (op_fields_of o) ≡ o
op_again (op.Burn ticks) = refl
op_again _ = refl

pub op_word_again : (m : OpWord) (f : Fields) → op_word_of (op_with m f) ≡ m
op_word_again words.Burn f = refl
op_word_again _ f = refl

pub op_fields_again : (m : OpWord) (f : Fields) → op_fields_of (op_with m f) ≡ used (op_shape_of m) f
op_fields_again words.Burn f = refl
op_fields_again _ f = refl
