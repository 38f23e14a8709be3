use Rattle.std.proofs.Common.{◌≡◌, map}
use Rattle.cmwq_picture.specs.Picture.{below, pending_shown}
use Rattle.cmwq_picture.proofs.moment.Moment.pending_works.Given as goal

abbrev pub invariant-loop-w : goal.invariant-loop-w
invariant-loop-w g l = l.cells.items ≡ map (pending_shown l.armed l.self.state) (below l.w)
