use Rattle.std.proofs.Common.{◌≡◌, ◌++◌}
use Rattle.cmwq_grammar.specs.Cutting.{words_of}
use Rattle.cmwq_scan.specs.Words.{words_in, worded_part}
use Rattle.cmwq_scan.proofs.TokenLemmas.{AreRead, IsRest, words_in_rest, steps_left}
use Rattle.cmwq_scan.proofs.line_tokens.read_tokens.Given as goal

-- the words so far and those that are left are the line's
abbrev pub invariant-loop-rest : goal.invariant-loop-rest
invariant-loop-rest l = record {
  words : words_in l.tokens.items ++ words_in_rest (λ rest. rest.now) l.rest ≡ words_of l.line;
  rest : IsRest (λ rest. rest.now) (worded_part l.line) l.before l.rest;
  read : AreRead (worded_part l.line) l.before l.tokens.items;
}

abbrev pub decreases-loop-rest : goal.decreases-loop-rest
decreases-loop-rest l = steps_left (λ rest. rest.now) l.rest
