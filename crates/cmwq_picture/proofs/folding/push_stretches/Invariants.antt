use Rattle.std.proofs.Common.{◌≡◌, ◌++◌, take}
use Rattle.cmwq_picture.specs.Folding.{end_from, starts_from, ticks_drawn}
use Rattle.cmwq_picture.proofs.folding.push_stretches.Given as goal

abbrev pub invariant-loop-stretch : goal.invariant-loop-stretch
invariant-loop-stretch l = record {
  time : l.time ≡ end_from l.from (ticks_drawn l.fold (take l.stretch-index l.stretches));
  pushed : l.edges.items ≡ l.fn.edges.items ++ starts_from l.from (ticks_drawn l.fold (take l.stretch-index l.stretches));
}
