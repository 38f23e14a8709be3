use Rattle.cmwq_play.proofs.CommandLemmas.{keeps_same}
use Rattle.cmwq_explored.proofs.ExploringLemmas.{read-told, told}
use Rattle.cmwq_explored.proofs.exploring.explore.Goals as goal

pub returns-in-Err-clause-explores : goal.returns-in-Err-clause-explores
returns-in-Err-clause-explores g c =
    told c.args.exploration.now (g.R.Read.remaining c.args.reader.now) (g.W.Write.contents c.args.writer.now) (g.W.Sink.failed c.args.writer.now) c.in_ok-scenario.scenario
    c.in-Err.why c.requires.writer c.in_ok-scenario.ensures.found (keeps_same (g.W.Write.contents c.args.writer.now)) c.in-Err.ensures.why

pub returns-in-Err-clause-read : goal.returns-in-Err-clause-read
returns-in-Err-clause-read g c =
    read-told c.in_ok-scenario.scenario c.args.exploration.now c.in_ok-scenario.scenario (g.R.Source.failed c.read_text.new.reader) c.in-Err.why
    c.in_ok-scenario.ensures.reads.read.1 c.in-Err.ensures.why
