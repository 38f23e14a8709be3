use Rattle.std.proofs.Common.{◌≡◌, map}
use Rattle.cmwq_picture.specs.Picture.{below, work_shown}
use Rattle.cmwq_picture.proofs.moment.Moment.works.Given as goal

abbrev pub invariant-loop-w : goal.invariant-loop-w
invariant-loop-w g l = l.cells.items ≡ map (work_shown l.self.scenario l.armed l.self.state) (below l.w)
