use Rattle.cmwq_streams.proofs.SendingLemmas.{sent_some}
use Rattle.cmwq_streams.proofs.sending.put_all.Goals as goal

pub loop-rest-preserved : goal.loop-rest-preserved
loop-rest-preserved g c =
    let contents = g.W.Write.contents in
    let rest = c.loop-rest.rest.now in
    let taken = c.in_ok-taken.taken in
    record {
      sent = rw c.split_at.ensures.back (sent_some (contents c.args.writer.now) (contents c.loop-rest.writer) (contents c.put_some.new.writer) rest c.args.bytes.now taken c.loop-rest.invariant.sent c.in_ok-taken.ensures.ok);
      sound = c.in_ok-taken.ensures.sound;
    }
