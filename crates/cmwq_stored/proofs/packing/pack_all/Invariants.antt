use Rattle.std.proofs.Common.{◌≡◌, ◌++◌, take}
use Rattle.std.specs.List.{flat_map}
use Rattle.cmwq_stored.specs.Packed.{packed}
use Rattle.cmwq_stored.proofs.packing.pack_all.Given as goal

-- those so far stand behind what was there
abbrev pub invariant-loop-item : goal.invariant-loop-item
invariant-loop-item g l = l.bytes.items ≡ l.fn.bytes.items ++ packed (flat_map g.T.Pack.numbers (take l.item-index l.items))
