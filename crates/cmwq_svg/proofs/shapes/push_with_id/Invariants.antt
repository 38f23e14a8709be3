use Rattle.std.proofs.Common.{◌≡◌, ◌++◌, take}
use Rattle.cmwq_svg.specs.Svg.{with_id}
use Rattle.cmwq_svg.proofs.shapes.push_with_id.Given as goal

abbrev pub invariant-loop-byte : goal.invariant-loop-byte
invariant-loop-byte l = l.text.items ≡ l.fn.text.items ++ with_id l.id (take l.byte-index l.template)
