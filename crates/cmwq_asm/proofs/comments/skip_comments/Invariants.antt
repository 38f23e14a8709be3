use Rattle.std.proofs.Common.{◌+◌, ◌≤◌, length}
use Rattle.std.specs.Prelude.{IsTrue}
use Rattle.std.specs.Str.{is_utf8}
use Rattle.cmwq_grammar.specs.Stages.{Stage}
use Rattle.cmwq_asm.specs.Texts.{LeadsOn}
use Rattle.cmwq_asm.proofs.comments.skip_comments.Given as goal

-- the comments so far lead nowhere
abbrev pub invariant-loop-comment : goal.invariant-loop-comment
invariant-loop-comment l = record {
  lines : (stage : Stage) → LeadsOn l.text stage l.rest l.count stage;
  text : IsTrue (is_utf8 l.rest);
  room : l.count + length l.rest ≤ length l.text;
}

abbrev pub decreases-loop-comment : goal.decreases-loop-comment
decreases-loop-comment l = length l.rest
