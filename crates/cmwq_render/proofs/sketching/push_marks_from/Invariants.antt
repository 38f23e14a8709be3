use Rattle.std.proofs.Common.{◌≡◌, ◌++◌, drop}
use Rattle.cmwq_render.specs.Sketch.{gap_marks}
use Rattle.cmwq_render.proofs.sketching.push_marks_from.Given as goal

abbrev pub invariant-loop-to : goal.invariant-loop-to
invariant-loop-to l = l.text.items ++ gap_marks l.from (drop l.to-index l.later) ≡ l.fn.text.items ++ gap_marks l.first l.later
