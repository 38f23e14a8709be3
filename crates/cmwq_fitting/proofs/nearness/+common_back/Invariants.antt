use Rattle.std.proofs.Common.{length}
use Rattle.cmwq_fitting.proofs.nearness.+common_back.Given as goal

abbrev pub decreases-common_back : goal.decreases-common_back
decreases-common_back l = length l.one.now
