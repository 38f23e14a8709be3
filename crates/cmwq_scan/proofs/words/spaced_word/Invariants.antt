use Rattle.std.proofs.Common.{◌≡◌, length}
use Rattle.cmwq_scan.specs.Words.{words_left}
use Rattle.cmwq_scan.proofs.TokenLemmas.{IsWithin, words_in_rest, steps_left}
use Rattle.cmwq_scan.proofs.words.spaced_word.Given as goal

-- what is left has the words of the whole
abbrev pub invariant-loop-left : goal.invariant-loop-left
invariant-loop-left l = record {
  words : words_in_rest (λ left. left.now) l.left ≡ words_left l.rest;
  within : IsWithin (λ left. left.now) (length l.rest) l.left;
}

abbrev pub decreases-loop-left : goal.decreases-loop-left
decreases-loop-left l = steps_left (λ left. left.now) l.left
