use Rattle.std.proofs.Common.{◌≡◌, ◌++◌, take}
use Rattle.std.specs.List.{All, AllByRecursion, flat_map}
use Rattle.cmwq_types.specs.Listing.{body_lines, written_text}
use Rattle.cmwq_types.specs.Values.{IsOp}
use Rattle.cmwq_list.proofs.listing.push_bodies.Given as goal

-- the lines so far, and that what they list are contents
abbrev pub invariant-loop-work : goal.invariant-loop-work
invariant-loop-work l = record {
  text : l.text.items ≡ l.fn.text.items ++ flat_map written_text (flat_map (body_lines l.scenario) (take l.work-index l.scenario.works));
  bodies : All (λ work. AllByRecursion IsOp work.body) (take l.work-index l.scenario.works);
}
