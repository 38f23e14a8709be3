use Rattle.cmwq_asm.specs.TextStages.{stage_of}
use Rattle.cmwq_asm.proofs.stage.Stage.read_on.Goals as goal

pub returns-in_default : goal.returns-in_default
returns-in_default c = record {
  lines = c.skip_comments-count.ensures.lines (stage_of c.args.self);
  text = λ known. c.skip_comments-count.ensures.text;
}
