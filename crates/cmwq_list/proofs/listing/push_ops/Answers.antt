use Rattle.std.proofs.Common.{arith}
use Rattle.std.proofs.lemmas.Grind.{common_steps}
use Rattle.std.proofs.lemmas.List.Elements.{All-more}
use Rattle.cmwq_types.specs.Values.{IsOp}
use Rattle.cmwq_types.specs.declared.scenario.Op.TheVariants as op
use Rattle.cmwq_list.proofs.listing.push_ops.Goals as goal

pub loop-op-preserved : goal.loop-op-preserved
loop-op-preserved c = record {
  text = grind (arith, common_steps);
  ops = All-more IsOp c.args.body.now c.loop-op.op-index (op.Burn 0) c.loop-op-test.true c.loop-op.invariant.ops c.in_ok-push_op.ensures.op;
}
