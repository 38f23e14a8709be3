use Rattle.std.proofs.Common.{◌≡◌, ◌++◌, take}
use Rattle.std.specs.List.{All, flat_map}
use Rattle.cmwq_image.proofs.writing.push_ops.Given as goal
use Rattle.cmwq_image.specs.Image.{op_image}
use Rattle.cmwq_types.specs.Values.{IsOp}

abbrev pub invariant-loop-op : goal.invariant-loop-op
invariant-loop-op l = record {
  image : l.bytes.items ≡ l.fn.bytes.items ++ flat_map op_image (take l.op-index l.body);
  body : All IsOp (take l.op-index l.body);
}
