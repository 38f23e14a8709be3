use Rattle.std.proofs.Common.{◌≡◌, ◌++◌, take}
use Rattle.std.specs.List.{All, flat_map}
use Rattle.cmwq_image.proofs.writing.push_works.Given as goal
use Rattle.cmwq_image.specs.Image.{work_image}
use Rattle.cmwq_types.specs.Values.{IsWorkDecl}

abbrev pub invariant-loop-work : goal.invariant-loop-work
invariant-loop-work l = record {
  image : l.bytes.items ≡ l.fn.bytes.items ++ flat_map work_image (take l.work-index l.works);
  works : All IsWorkDecl (take l.work-index l.works);
}
