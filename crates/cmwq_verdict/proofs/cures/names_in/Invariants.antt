use Rattle.std.proofs.Common.{◌≡◌, length}
use Rattle.std.specs.Prelude.{map}
use Rattle.cmwq_grammar.specs.Cutting.{lines_of}
use Rattle.cmwq_verdict.specs.Cures.{names_behind, names_in}
use Rattle.cmwq_verdict.proofs.cures.names_in.Given as goal

-- what the lines that are left add makes the whole
abbrev pub invariant-loop-line : goal.invariant-loop-line
invariant-loop-line l = names_behind l.first (lines_of l.rest) (map (λ name. name.now) l.names.items) ≡ names_in l.first l.lines

abbrev pub decreases-loop-line : goal.decreases-loop-line
decreases-loop-line l = length l.rest
