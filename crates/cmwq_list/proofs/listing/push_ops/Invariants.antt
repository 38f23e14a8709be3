use Rattle.std.proofs.Common.{◌≡◌, ◌++◌, take}
use Rattle.std.specs.List.{All, flat_map}
use Rattle.std.specs.Prelude.{map}
use Rattle.cmwq_types.specs.Listing.{op_line, written_text}
use Rattle.cmwq_types.specs.Values.{IsOp}
use Rattle.cmwq_list.proofs.listing.push_ops.Given as goal

-- the lines so far, and that what they list are contents
abbrev pub invariant-loop-op : goal.invariant-loop-op
invariant-loop-op l = record {
  text : l.text.items ≡ l.fn.text.items ++ flat_map written_text (map (op_line l.scenario) (take l.op-index l.body));
  ops : All IsOp (take l.op-index l.body);
}
