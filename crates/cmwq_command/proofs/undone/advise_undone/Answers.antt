use Rattle.cmwq_command.specs.Undone.{IsOnUndone, IsOnUndoneWords}
use Rattle.cmwq_play.proofs.CommandLemmas.{writes_more}
use Rattle.cmwq_command.proofs.undone.advise_undone.Goals as goal

pub returns-in-Ok-clause-advised : goal.returns-in-Ok-clause-advised
returns-in-Ok-clause-advised g c = λ name given asked words by.
    let store = g.F.FileStore.bytes c.args.files.now in
    writes_more (IsOnUndone store c.in-Ok.request) (IsOnUndoneWords store asked)
    (g.E.Write.contents c.args.errors.now) (g.E.Write.contents c.advise_undone_on.new.errors) (g.E.Sink.failed c.advise_undone_on.new.errors) c.advise_undone_on.result
    (λ told is. (c.in-Ok.request, c.in-Ok.ensures.asks name given asked words by, is)) c.advise_undone_on.ensures.advised
