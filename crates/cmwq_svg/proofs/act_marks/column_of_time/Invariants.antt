use Rattle.std.proofs.Common.{◌≡◌, ◌+◌, drop}
use Rattle.cmwq_svg.specs.Svg.{column_of_time}
use Rattle.cmwq_svg.proofs.act_marks.column_of_time.Given as goal

abbrev pub invariant-loop-edge : goal.invariant-loop-edge
invariant-loop-edge l = record {
  counted : l.column ≡ l.edge-index;
  left : l.column + column_of_time (drop l.edge-index l.edges) l.time ≡ column_of_time l.edges l.time;
}
