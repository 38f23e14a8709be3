use Rattle.std.proofs.Common.{◌≡◌, take}
use Rattle.cmwq_types.proofs.copying.copied_works.Given as goal

abbrev pub invariant-loop-work : goal.invariant-loop-work
invariant-loop-work l = l.copy.items ≡ take l.work-index l.works
