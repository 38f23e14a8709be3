use Rattle.std.proofs.Common.{◌≡◌, ◌++◌, ◌<◌, ◌^◌, take}
use Rattle.std.specs.List.{All, flat_map}
use Rattle.std.specs.Prelude.{IsTrue, map}
use Rattle.cmwq_types.specs.Listing.{work_line, written_text}
use Rattle.cmwq_types.specs.Name.{is_name}
use Rattle.cmwq_list.proofs.listing.push_works.Given as goal

-- the lines so far, and that what they list are contents
abbrev pub invariant-loop-work : goal.invariant-loop-work
invariant-loop-work l = record {
  text : l.text.items ≡ l.fn.text.items ++ flat_map written_text (map (work_line l.scenario) (take l.work-index l.scenario.works));
  names : All (λ work. IsTrue (is_name work.name)) (take l.work-index l.scenario.works);
  queues : All (λ work. work.queue.0 < 2 ^ 8) (take l.work-index l.scenario.works);
}
