use Rattle.std.proofs.Common.{◌≡◌, length}
use Rattle.std.specs.Prelude.{option_map}
use Rattle.cmwq_grammar.specs.Cutting.{lines_of}
use Rattle.cmwq_fitting.specs.KnownWords.{last_body, last_body_behind}
use Rattle.cmwq_fitting.proofs.knowing.last_body.Given as goal

abbrev pub invariant-loop-line : goal.invariant-loop-line
invariant-loop-line l = last_body_behind (option_map (λ name. name.now) l.last) (lines_of l.rest) ≡ last_body l.text

abbrev pub decreases-loop-line : goal.decreases-loop-line
decreases-loop-line l = length l.rest
