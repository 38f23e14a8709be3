use Rattle.std.proofs.Common.{◌≡◌, ◌<◌, ◌^◌, drop, max}
use Rattle.cmwq_svg.specs.Svg.{acts_end}
use Rattle.cmwq_svg.proofs.frame.Frame.acts_end.Given as goal

abbrev pub invariant-loop-act : goal.invariant-loop-act
invariant-loop-act l = record {
  most : max l.end (acts_end l.self.scenario.now l.self.edges.now l.self.grid (drop l.act-index l.acts)) ≡ acts_end l.self.scenario.now l.self.edges.now l.self.grid l.acts;
  small : l.end < 2 ^ 110;
}
