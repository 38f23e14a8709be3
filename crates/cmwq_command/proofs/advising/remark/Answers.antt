use Rattle.cmwq_command.specs.Advised.{AreRemarksOnRequest, AreRemarksOnWords}
use Rattle.cmwq_play.proofs.CommandLemmas.{writes_more}
use Rattle.cmwq_command.proofs.advising.remark.Goals as goal

pub returns-in-Ok-clause-remarked : goal.returns-in-Ok-clause-remarked
returns-in-Ok-clause-remarked g c = λ name given asked words by.
    let store = g.F.FileStore.bytes c.args.files.now in
    writes_more (AreRemarksOnRequest store c.in-Ok.request) (AreRemarksOnWords store asked)
    (g.E.Write.contents c.args.errors.now) (g.E.Write.contents c.remark_on.new.errors) (g.E.Sink.failed c.remark_on.new.errors) c.remark_on.result
    (λ told is. (c.in-Ok.request, c.in-Ok.ensures.asks name given asked words by, is)) c.remark_on.ensures.remarked
