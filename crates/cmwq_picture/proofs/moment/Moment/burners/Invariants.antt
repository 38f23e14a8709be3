use Rattle.std.proofs.Common.{◌≡◌}
use Rattle.std.specs.List.{filter_map}
use Rattle.cmwq_picture.specs.Column.{burning}
use Rattle.cmwq_picture.specs.Picture.{below}
use Rattle.cmwq_picture.proofs.moment.Moment.burners.Given as goal

abbrev pub invariant-loop-w : goal.invariant-loop-w
invariant-loop-w g l = l.burners.items ≡ filter_map (burning l.self.scenario l.self.state) (below l.w)
