use Rattle.std.proofs.Common.{◌≡◌, length}
use Rattle.cmwq_grammar.specs.Cutting.{lines_of}
use Rattle.cmwq_verdict.specs.Forms.{rest_in}
use Rattle.cmwq_verdict.proofs.forms.rest_in.Given as goal

-- the lines that are left tell it
abbrev pub invariant-loop-line : goal.invariant-loop-line
invariant-loop-line l = rest_in (lines_of l.rest) l.word ≡ rest_in (lines_of l.lines) l.word

abbrev pub decreases-loop-line : goal.decreases-loop-line
decreases-loop-line l = length l.rest
