use Rattle.std.proofs.Common.{◌≡◌, drop}
use Rattle.cmwq_debug.specs.EventWords.{first_kind}
use Rattle.cmwq_debug.proofs.event_words.first_kind.Given as goal

-- the first among those that are left is the first of all
abbrev pub invariant-loop-kind : goal.invariant-loop-kind
invariant-loop-kind l = first_kind (drop l.kind-index l.kinds) l.word ≡ first_kind l.kinds l.word
