use Rattle.std.proofs.Common.{arith}
use Rattle.std.proofs.lemmas.Nat.{and_mask}
use Rattle.std.specs.Int.Bits.{xor_add_and}
use Rattle.cmwq_timers.proofs.alarm_tree.node_beside.Goals as goal

pub returns : goal.returns
returns c = omega (arith, xor_add_and c.args.node 1, and_mask c.args.node 1)
