use Rattle.std.proofs.Common.{◌≡◌, length}
use Rattle.cmwq_grammar.specs.LineReasons.{flags_at_line}
use Rattle.cmwq_scan.specs.Words.{words_left}
use Rattle.cmwq_types.specs.Scenario.{plain_flags}
use Rattle.cmwq_draft.proofs.declarations.read_flags.Given as goal

-- what the words that are left add to the flags so far is what all words give
abbrev pub invariant-loop-word : goal.invariant-loop-word
invariant-loop-word l = flags_at_line (words_left l.rest) l.flags ≡ flags_at_line (words_left l.words) plain_flags

abbrev pub decreases-loop-word : goal.decreases-loop-word
decreases-loop-word l = length l.rest
