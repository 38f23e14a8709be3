use Rattle.std.proofs.Common.{◌≡◌, ◌+◌, ◌*◌, ◌++◌, replicate}
use Rattle.cmwq_picture.specs.Folding.{starts_from}
use Rattle.cmwq_picture.proofs.folding.push_starts.Given as goal

abbrev pub invariant-loop-column : goal.invariant-loop-column
invariant-loop-column l = record {
  time : l.time ≡ l.from + l._column * l.ticks;
  pushed : l.edges.items ≡ l.fn.edges.items ++ starts_from l.from (replicate l._column l.ticks);
}
