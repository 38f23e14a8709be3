use Rattle.std.proofs.Common.{subst, sym}
use Rattle.cmwq_explore.proofs.WaitingLemmas.{none_waits}
use Rattle.cmwq_explore.specs.Waiting.{AreWaiting}
use Rattle.cmwq_explore.proofs.exploring.search.Goals as goal

pub handle_all-requires-clause-waiting : goal.handle_all-requires-clause-waiting
handle_all-requires-clause-waiting g c =
    subst (AreWaiting c.args.plan.now.value c.args.seen.now) (sym c.new-waiting.ensures) (none_waits c.args.plan.now.value c.args.seen.now)
