use Rattle.cmwq_lines.proofs.BlockLemmas.{text_written}
use Rattle.cmwq_lines.proofs.block.Block.write_fmt.Goals as goal

pub returns-in-Ok : goal.returns-in-Ok
returns-in-Ok g c = text_written (g.D.Display.output c.args.text) c.args.self.now c.write.new.self c.in-Ok.ensures.writes
