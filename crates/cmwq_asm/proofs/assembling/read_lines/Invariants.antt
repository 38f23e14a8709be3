use Rattle.std.proofs.Common.{◌≡◌, ◌+◌, ◌≤◌, length}
use Rattle.std.specs.Prelude.{IsTrue}
use Rattle.std.specs.Str.{is_utf8}
use Rattle.cmwq_grammar.specs.Cutting.{lines_of}
use Rattle.cmwq_grammar.specs.Meaning.{stage_after}
use Rattle.cmwq_grammar.specs.Stages.{Start}
use Rattle.cmwq_asm.specs.TextStages.{stage_of}
use Rattle.cmwq_asm.proofs.assembling.read_lines.Given as goal

-- the lines that are left lead from the stage so far to where all lines lead
abbrev pub invariant-loop-line : goal.invariant-loop-line
invariant-loop-line l = record {
  stage : stage_after (l.lines + 1) (lines_of l.rest) (stage_of l.stage) ≡ stage_after 1 (lines_of l.text) Start;
  count : l.lines + length (lines_of l.rest) ≡ length (lines_of l.text);
  room : l.lines + length l.rest ≤ length l.text;
  text : IsTrue l.is_all_text → IsTrue (is_utf8 l.rest);
}

abbrev pub decreases-loop-line : goal.decreases-loop-line
decreases-loop-line l = length l.rest
