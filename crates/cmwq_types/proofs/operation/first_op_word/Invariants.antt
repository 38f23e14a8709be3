use Rattle.std.proofs.Common.{◌≡◌, drop}
use Rattle.cmwq_types.specs.Operations.{first_op_word}
use Rattle.cmwq_types.proofs.operation.first_op_word.Given as goal

-- the first among those that are left is the first of all
abbrev pub invariant-loop-first : goal.invariant-loop-first
invariant-loop-first l = first_op_word (drop l.first-index l.words) l.word ≡ first_op_word l.words l.word
