use Rattle.std.proofs.Common.{◌≡◌, length}
use Rattle.std.specs.Prelude.{map}
use Rattle.cmwq_grammar.specs.Cutting.{lines_of}
use Rattle.cmwq_fitting.specs.KnownWords.{known_behind, known_words}
use Rattle.cmwq_fitting.proofs.knowing.known_words.Given as goal

-- what the lines that are left add makes the whole
abbrev pub invariant-loop-line : goal.invariant-loop-line
invariant-loop-line l = known_behind (map (λ word. word.now) l.known.items) (lines_of l.rest) ≡ known_words l.text

abbrev pub decreases-loop-line : goal.decreases-loop-line
decreases-loop-line l = length l.rest
