use Rattle.std.proofs.lemmas.Result.{err_from_is_err_and}
use Rattle.cmwq_debug_session.proofs.TalkLemmas.{holds_talk, holds_unbegun}
use Rattle.cmwq_debug_session.proofs.debugging.hold.Goals as goal

pub returns-in_err-put_opening : goal.returns-in_err-put_opening
returns-in_err-put_opening g c =
    let remaining = g.R.Read.remaining in
    let contents = g.W.Write.contents in
    let p = err_from_is_err_and c.from_residual.result c.from_residual.ensures.1 in
    rw (p.1, p.2) (holds_unbegun (remaining c.args.commands.now) (contents c.args.writer.now) (contents c.put_opening.new.writer) (g.R.Source.failed c.args.commands.now) (g.W.Sink.failed c.put_opening.new.writer)
    c.args.manner c.args.scenario.now c.args.debugger.now c.in_err-put_opening.field-0.0 c.requires.commands c.in_err-put_opening.ensures.err c.in_err-put_opening.ensures.why c.in_err-put_opening.ensures.write)

pub returns : goal.returns
returns g c =
    let remaining = g.R.Read.remaining in
    let contents = g.W.Write.contents in
    holds_talk (remaining c.args.commands.now) (remaining c.talk.new.commands) (contents c.args.writer.now) (contents c.put_opening.new.writer) (contents c.talk.new.writer)
    (g.R.Source.failed c.talk.new.commands) (g.W.Sink.failed c.talk.new.writer) c.args.manner c.args.scenario.now c.args.debugger.now c.talk.result c.in_ok-put_opening.ensures.ok c.talk.ensures
