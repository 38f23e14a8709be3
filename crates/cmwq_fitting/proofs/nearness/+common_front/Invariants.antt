use Rattle.std.proofs.Common.{length}
use Rattle.cmwq_fitting.proofs.nearness.+common_front.Given as goal

abbrev pub decreases-common_front : goal.decreases-common_front
decreases-common_front l = length l.one.now
