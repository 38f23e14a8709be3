use Rattle.std.proofs.Common.{[], ◌++◌, append-nil}
use Rattle.std.specs.Io.KnownBytes.{Appends}
use Rattle.cmwq_streams.proofs.CallerLemmas.{appends_both, front_of_more, front_then}
use Rattle.cmwq_streams.specs.Sending.{HasSentFront}
use Rattle.cmwq_kernel_trace.proofs.RecordingLemmas.{any-err, on-err, on-ok}
use Rattle.cmwq_kernel_trace.proofs.data_trace.put_both.Goals as goal

pub returns-clause-ok : goal.returns-clause-ok
returns-clause-ok g c =
    let before = g.W.Write.contents c.args.writer.now in
    let now = g.W.Write.contents c.put_all.new.writer in
    let after = g.W.Write.contents c.put_all-2.new.writer in
    on-ok c.put_all-2.result (Appends now after c.args.second.now) (Appends before after (c.args.first.now ++ c.args.second.now))
    (appends_both before now after c.args.first.now c.args.second.now c.in_ok-put_all.ensures.ok) c.put_all-2.ensures.ok

pub returns-clause-err : goal.returns-clause-err
returns-clause-err g c =
    let before = g.W.Write.contents c.args.writer.now in
    let now = g.W.Write.contents c.put_all.new.writer in
    let after = g.W.Write.contents c.put_all-2.new.writer in
    let first = c.args.first.now in
    on-err c.put_all-2.result (HasSentFront now after c.args.second.now) (HasSentFront before after (first ++ c.args.second.now))
    (front_then before now after [] [] first c.args.second.now (first, c.in_ok-put_all.ensures.ok, append-nil first)) c.put_all-2.ensures.err

pub returns-in_err-put_all-clause-err : goal.returns-in_err-put_all-clause-err
returns-in_err-put_all-clause-err g c =
    let before = g.W.Write.contents c.args.writer.now in
    let now = g.W.Write.contents c.put_all.new.writer in
    any-err c.from_residual.result (HasSentFront before now (c.args.first.now ++ c.args.second.now))
    (front_of_more before now c.args.first.now c.args.second.now c.in_err-put_all.ensures.err)
