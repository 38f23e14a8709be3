use Rattle.std.proofs.Common.{◌≡◌, ◌++◌, take}
use Rattle.std.specs.List.{All, flat_map}
use Rattle.cmwq_image.proofs.writing.push_lines.Given as goal
use Rattle.cmwq_image.specs.Image.{line_image}
use Rattle.cmwq_types.specs.Values.{IsLine}

abbrev pub invariant-loop-line : goal.invariant-loop-line
invariant-loop-line l = record {
  image : l.bytes.items ≡ l.fn.bytes.items ++ flat_map line_image (take l.line-index l.lines);
  lines : All IsLine (take l.line-index l.lines);
}
