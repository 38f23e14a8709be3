use Rattle.std.proofs.Common.{◌≡◌, ◌++◌, take}
use Rattle.std.specs.List.{All, flat_map}
use Rattle.std.specs.Prelude.{map}
use Rattle.cmwq_types.specs.Listing.{actor_line, written_text}
use Rattle.cmwq_types.specs.Values.{IsLine}
use Rattle.cmwq_list.proofs.listing.push_lines.Given as goal

-- the lines so far, and that what they list are contents
abbrev pub invariant-loop-line : goal.invariant-loop-line
invariant-loop-line l = record {
  text : l.text.items ≡ l.fn.text.items ++ flat_map written_text (map (actor_line l.scenario) (take l.line-index l.lines));
  lines : All IsLine (take l.line-index l.lines);
}
