use Rattle.std.proofs.Common.{arith}
use Rattle.std.proofs.lemmas.Grind.{common_steps}
use Rattle.std.proofs.lemmas.List.Elements.{All-more}
use Rattle.cmwq_types.specs.Values.{IsLine}
use Rattle.cmwq_types.specs.declared.instr.Instr.TheVariants as instr
use Rattle.cmwq_list.proofs.listing.push_lines.Goals as goal

pub loop-line-preserved : goal.loop-line-preserved
loop-line-preserved c = record {
  text = grind (arith, common_steps);
  lines = All-more IsLine c.args.lines.now c.loop-line.line-index (record { instr = instr.Queue (record { 0 = 0 }) 0; times = 0 }) c.loop-line-test.true c.loop-line.invariant.lines c.in_ok-push_actor_line.ensures.line;
}
