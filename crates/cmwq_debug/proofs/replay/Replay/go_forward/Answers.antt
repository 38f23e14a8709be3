use Rattle.std.proofs.Common.{rules}
use Rattle.cmwq_debug.proofs.MovingLemmas.{gone-more}
use Rattle.cmwq_debug.proofs.replay.Replay.go_forward.Goals as goal

pub loop-step-preserved : goal.loop-step-preserved
loop-step-preserved g c =
    record { gone = gone-more c.args.self.now c.loop-step.self c.advance.new.self c.loop-step._step (search rules) c.loop-step.invariant.gone c.advance.ensures.advanced }
