use Rattle.std.proofs.Common.{length}
use Rattle.std.specs.Prelude.{IsTrue}
use Rattle.std.specs.Str.{is_utf8}
use Rattle.cmwq_asm.specs.TextStages.{stage_in}
use Rattle.cmwq_asm.specs.Texts.{LeadsOn}
use Rattle.cmwq_asm.proofs.actors.read_instructions.Given as goal

-- the lines so far lead to the actor as it is
abbrev pub invariant-loop-next : goal.invariant-loop-next
invariant-loop-next l = record {
  lines : LeadsOn l.text (stage_in l.initial.actor) l.rest l.count (stage_in l.actor);
  text : IsTrue (is_utf8 l.rest);
}

abbrev pub decreases-loop-next : goal.decreases-loop-next
decreases-loop-next l = length l.rest
