use Rattle.std.proofs.Common.{◌≡◌, false, length}
use Rattle.cmwq_streams.specs.Sending.{HasSent}
use Rattle.cmwq_streams.proofs.sending.put_all.Given as goal

-- all but the rest is out
abbrev pub invariant-loop-rest : goal.invariant-loop-rest
invariant-loop-rest g l = record {
  sent : HasSent (g.W.Write.contents l.fn.writer) (g.W.Write.contents l.writer) l.rest l.fn.bytes;
  sound : g.W.Sink.failed l.writer ≡ false;
}

abbrev pub decreases-loop-rest : goal.decreases-loop-rest
decreases-loop-rest g l = length l.rest
